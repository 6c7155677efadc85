-- A read: its index is inferred, its checks are owed, and its node is numbered.
use Rattle.std.proofs.Common.{◌≡◌, ℕ, ◌<◌, ◌≤◌, List, [], ◌++◌, length, Some, Ok, Err, Result, ap, ◌∙◌, subst, inr, arith}
use Rattle.std.proofs.lemmas.Option.{slice_get_within}
use Rattle.std.specs.List.{slice_get}
use Rattle.language.specs.declared.refusal.Refusal.{Refusal}
use Rattle.language.specs.declared.term.Term.{Term}
use Rattle.language.specs.Terms.{term_at}
use Rattle.language.specs.Tree as Tree
use Rattle.language.specs.Tree.{Expr, Rule, Site, place_of}
use Rattle.language.specs.Walking.{Stand, Scope, Got, Owing, infer, walk, finish, owe_checks, counted, fresh, first_fault}
use Rattle.language.proofs.Laws.{fault-first}
use Rattle.records.specs.declared.node.Node.TheVariants.{Read}
use Rattle.records.specs.Laying.{owed_of}
use Rattle.records.specs.Standing.{Listed, Stands}
use Rattle.records.specs.Standing as Standing
use Rattle.walking.specs.declared.walker.Walker.{Walker}
use Rattle.walking.specs.Inferring.{Inferring, Inferred}
use Rattle.walking.specs.Owing.{checks}
use Rattle.walking.specs.Stepping.{Step, Finds, Touching, scope_of, stand_of, facts_of}
use Rattle.walking.proofs.Ends.{ends-fresh, ends-fresh-not, found-stands, found-node, touch-step, touch-not, touch-node, touch-stands}
use Rattle.walking.proofs.Noting.{fresh-notes}
use Rattle.walking.proofs.Parting.{tables_of}
use Rattle.walking.proofs.Stepping.{step-wider, node-stays}

module _ (R : List Rule) (w : Walker) (lo at p m l a : ℕ) (x : Expr) where
  abbrev g : Got
  g = walk R infer (scope_of w) (stand_of w) x

  abbrev site : Site
  site = record { place = p; number = m; list = l }

  abbrev owing : Owing
  owing = owe_checks site p g.stand g.term (term_at w.lengths.now l)

  pub read-not-index : (r : Refusal) → first_fault (walk R infer (scope_of w) (stand_of w) x).notes ≡ Some r → first_fault (walk R infer (scope_of w) (stand_of w) (Tree.read (record { place = p; number = m; list = l }) x)).notes ≡ Some r
  unfolding walk finish
  read-not-index r n = ap first_fault (fresh-notes p (counted g.stand owing.count) (g.notes ++ owing.notes)) ∙ fault-first (g.notes ++ owing.notes) _ r (fault-first g.notes owing.notes r n)

  module _ (t : Term) (v : Walker) (e : slice_get (tables_of w).nodes.entries at ≡ Some (Read p m l a)) (ha : a < at) (hl : lo ≤ at) (i : Inferring t (walk R infer (scope_of w) (stand_of w) x) lo a w v) where
    before : Step lo at (walk R infer (scope_of w) (stand_of w) x).notes (walk R infer (scope_of w) (stand_of w) x).stand w v
    before = step-wider lo at lo a _ _ w v (omega arith) (omega arith) i.step

    here : at < length (tables_of v).nodes.entries
    here = slice_get_within _ at _ (node-stays lo a _ _ w v i.step at _ (inr ha) e)

    size-is : term_at v.lengths.now l ≡ term_at w.lengths.now l
    size-is = ap (λ (Γ : Scope). term_at Γ.lengths l) i.step.kept.scope

    -- the checks, of the term and the length as the definition has them
    pub read-not-checks : (r : Refusal) → first_fault (checks p p (facts_of v) (owed_of v.debts.now.tables.now) t (term_at v.lengths.now l)).notes ≡ Some r → first_fault (walk R infer (scope_of w) (stand_of w) (Tree.read (record { place = p; number = m; list = l }) x)).notes ≡ Some r
    unfolding walk finish
    read-not-checks r n =
        let c = subst (λ (y : Term). first_fault (checks p p (facts_of v) (owed_of v.debts.now.tables.now) y (term_at w.lengths.now l)).notes ≡ Some r) i.term
        (subst (λ (y : Term). first_fault (checks p p (facts_of v) (owed_of v.debts.now.tables.now) t y).notes ≡ Some r) size-is n) in
        ap first_fault (fresh-notes p (counted g.stand owing.count) (g.notes ++ owing.notes)) ∙ fault-first (g.notes ++ owing.notes) _ r (touch-not lo at w v g.notes g.stand site p g.term (term_at w.lengths.now l) before r c)

    pub read-inferred : (r : Result Term Refusal) (y z : Walker) → Touching at (Read p (owed_of v.debts.now.tables.now) l a) (checks p p (facts_of v) (owed_of v.debts.now.tables.now) t (term_at v.lengths.now l)) v y → Finds r (fresh p (stand_of y) []) y z → Inferred r (walk R infer (scope_of w) (stand_of w) (Tree.read (record { place = p; number = m; list = l }) x)) lo at w z
    unfolding walk finish
    read-inferred (Ok q) y z j f =
        let o = subst (λ (k : Term). Touching at (Read p (owed_of v.debts.now.tables.now) l a) (checks p p (facts_of v) (owed_of v.debts.now.tables.now) k (term_at w.lengths.now l)) v y) i.term
        (subst (λ (k : Term). Touching at (Read p (owed_of v.debts.now.tables.now) l a) (checks p p (facts_of v) (owed_of v.debts.now.tables.now) t k) v y) size-is j) in
        let s = touch-step lo at w v g.notes g.stand site p g.term (term_at w.lengths.now l) before y _ o hl in
        let k = ends-fresh lo at w y z (g.notes ++ owing.notes) (counted g.stand owing.count) q s p f in
        let n = touch-node lo at w v g.notes g.stand site p g.term (term_at w.lengths.now l) before y _ o here in record {
          term = k.0;
          step = k.1;
          tree =
              Standing.read {s = record { place = p; number = g.stand.count; list = l }} (found-node q _ y z f at _ (n ∙ ap (λ (r : Stand). Some (Read p r.count l a)) i.step.stand)) ha
              (found-stands q _ y z f lo a g.tree (touch-stands lo at w v g.notes g.stand site p g.term (term_at w.lengths.now l) before y _ o lo a g.tree ha i.tree));
        }
    read-inferred (Err r) y z j f =
        let o = subst (λ (k : Term). Touching at (Read p (owed_of v.debts.now.tables.now) l a) (checks p p (facts_of v) (owed_of v.debts.now.tables.now) k (term_at w.lengths.now l)) v y) i.term
        (subst (λ (k : Term). Touching at (Read p (owed_of v.debts.now.tables.now) l a) (checks p p (facts_of v) (owed_of v.debts.now.tables.now) t k) v y) size-is j) in
        let s = touch-step lo at w v g.notes g.stand site p g.term (term_at w.lengths.now l) before y _ o hl in
        ends-fresh-not lo at w y z (g.notes ++ owing.notes) (counted g.stand owing.count) t s p r f
