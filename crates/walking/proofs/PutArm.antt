-- A put: index and value are inferred, its checks are owed and its node is numbered, and it goes on with what follows.
use Rattle.std.proofs.Common.{◌≡◌, ℕ, suc, ◌<◌, ◌≤◌, List, ◌++◌, length, Some, Ok, Err, Result, sym, ap, ◌∙◌, subst, inl, inr, arith}
use Rattle.std.proofs.lemmas.List.{append_assoc}
use Rattle.std.proofs.lemmas.Option.{slice_get_within}
use Rattle.std.specs.List.{slice_get}
use Rattle.language.specs.declared.refusal.Refusal.{Refusal}
use Rattle.language.specs.declared.term.Term.{Term}
use Rattle.language.specs.Terms.{term_at}
use Rattle.language.specs.Tree as Tree
use Rattle.language.specs.Tree.{Expr, Rule, Site, place_of}
use Rattle.language.specs.Walking.{Stand, Scope, Got, Mode, Owing, infer, walk, owe_checks, counted, first_fault}
use Rattle.language.proofs.Laws.{fault-first, fault-next}
use Rattle.records.specs.declared.node.Node.TheVariants.{Put}
use Rattle.records.specs.Columns.{tables_by}
use Rattle.records.specs.Laying.{owed_of}
use Rattle.records.specs.Standing.{Listed, Stands}
use Rattle.records.specs.Standing as Standing
use Rattle.records.proofs.Standing.{low_end}
use Rattle.walking.specs.declared.walker.Walker.{Walker}
use Rattle.walking.specs.Inferring.{Inferred, Pairing, Checking, Checked}
use Rattle.walking.specs.Owing.{checks}
use Rattle.walking.specs.Stepping.{Step, Touching, scope_of, stand_of, facts_of}
use Rattle.walking.proofs.Ends.{touch-step, touch-not, touch-node, touch-stands}
use Rattle.walking.proofs.Parting.{tables_of, from_here}
use Rattle.walking.proofs.Stepping.{step-then, step-wider, stays, node-stays}

module _ (R : List Rule) (m : Mode) (w : Walker) (lo at p q k l a b c : ℕ) (x y u : Expr) where
  abbrev g : Got
  g = walk R infer (scope_of w) (stand_of w) x

  abbrev h : Got
  h = walk R infer (scope_of w) g.stand y

  abbrev site : Site
  site = record { place = q; number = k; list = l }

  abbrev owing : Owing
  owing = owe_checks site p h.stand g.term (term_at w.lengths.now l)

  pub put-not-parts : (r : Refusal) → first_fault ((walk R infer (scope_of w) (stand_of w) x).notes ++ (walk R infer (scope_of w) (walk R infer (scope_of w) (stand_of w) x).stand y).notes) ≡ Some r → first_fault (walk R m (scope_of w) (stand_of w) (Tree.put p (record { place = q; number = k; list = l }) x y u)).notes ≡ Some r
  unfolding walk
  put-not-parts r n = fault-first (g.notes ++ h.notes) _ r n

  module _ (t s : Term) (v : Walker) (e : slice_get (tables_of w).nodes.entries at ≡ Some (Put p q k l a b c)) (ha : a < at) (hb : b < at) (hl : lo ≤ at) (i : Pairing t s (walk R infer (scope_of w) (stand_of w) x) (walk R infer (scope_of w) (walk R infer (scope_of w) (stand_of w) x).stand y) lo a b w v) where
    before : Step lo at ((walk R infer (scope_of w) (stand_of w) x).notes ++ (walk R infer (scope_of w) (walk R infer (scope_of w) (stand_of w) x).stand y).notes) (walk R infer (scope_of w) (walk R infer (scope_of w) (stand_of w) x).stand y).stand w v
    before = step-wider lo at lo b _ _ w v (omega arith) (omega arith) i.step

    here : at < length (tables_of v).nodes.entries
    here = slice_get_within _ at _ (node-stays lo b _ _ w v i.step at _ (inr hb) e)

    size-is : term_at v.lengths.now l ≡ term_at w.lengths.now l
    size-is = ap (λ (Γ : Scope). term_at Γ.lengths l) i.step.kept.scope

    pub put-not-checks : (r : Refusal) → first_fault (checks q p (facts_of v) (owed_of v.debts.now.tables.now) t (term_at v.lengths.now l)).notes ≡ Some r → first_fault (walk R m (scope_of w) (stand_of w) (Tree.put p (record { place = q; number = k; list = l }) x y u)).notes ≡ Some r
    unfolding walk
    put-not-checks r n =
        let c = subst (λ (y : Term). first_fault (checks q p (facts_of v) (owed_of v.debts.now.tables.now) y (term_at w.lengths.now l)).notes ≡ Some r) i.left
        (subst (λ (y : Term). first_fault (checks q p (facts_of v) (owed_of v.debts.now.tables.now) t y).notes ≡ Some r) size-is n) in
        let o = touch-not lo at w v (g.notes ++ h.notes) h.stand site p g.term (term_at w.lengths.now l) before r c in
        ap first_fault (sym (append_assoc (g.notes ++ h.notes) owing.notes _)) ∙ fault-first ((g.notes ++ h.notes) ++ owing.notes) _ r o

    module _ (z : Walker) (j : Touching at (Put p q (owed_of v.debts.now.tables.now) l a b c) (checks q p (facts_of v) (owed_of v.debts.now.tables.now) t (term_at v.lengths.now l)) v z) where
      touched : Touching at (Put p q (owed_of v.debts.now.tables.now) l a b c) (checks q p (facts_of v) (owed_of v.debts.now.tables.now) g.term (term_at w.lengths.now l)) v z
      touched =
          subst (λ (k : Term). Touching at (Put p q (owed_of v.debts.now.tables.now) l a b c) (checks q p (facts_of v) (owed_of v.debts.now.tables.now) k (term_at w.lengths.now l)) v z) i.left
          (subst (λ (k : Term). Touching at (Put p q (owed_of v.debts.now.tables.now) l a b c) (checks q p (facts_of v) (owed_of v.debts.now.tables.now) t k) v z) size-is j)

      after : Step lo at ((g.notes ++ h.notes) ++ owing.notes) (counted h.stand owing.count) w z
      after = touch-step lo at w v (g.notes ++ h.notes) h.stand site p g.term (term_at w.lengths.now l) before z _ touched hl

      -- what follows stands where it did
      pub put-rest : c < at → (d : ℕ) → Stands (tables_by (tables_of v)) d c u → Stands (tables_by (tables_of z)) d c u
      put-rest hc d r = touch-stands lo at w v (g.notes ++ h.notes) h.stand site p g.term (term_at w.lengths.now l) before z _ touched d c u hc r

      pub put-not-rest : (r : Refusal) → first_fault (walk R m (scope_of z) (stand_of z) u).notes ≡ Some r → first_fault (walk R m (scope_of w) (stand_of w) (Tree.put p (record { place = q; number = k; list = l }) x y u)).notes ≡ Some r
      unfolding walk
      put-not-rest r n =
          let d = from_here (λ Γ s. first_fault (walk R m Γ s u).notes ≡ Some r) z _ _ after.kept.scope after.stand n in
          ap first_fault (sym (append_assoc (g.notes ++ h.notes) owing.notes _)) ∙ fault-next ((g.notes ++ h.notes) ++ owing.notes) _ after.faultless ∙ d

      pub put-checked : (f : Walker) → c < at → Checking (walk R m (scope_of z) (stand_of z) u) (suc b) c z f → Checking (walk R m (scope_of w) (stand_of w) (Tree.put p (record { place = q; number = k; list = l }) x y u)) lo at w f
      unfolding walk
      put-checked f hc r =
          let d = from_here (λ Γ s. Checking (walk R m Γ s u) (suc b) c z f) z _ _ after.kept.scope after.stand r in
          let low = low_end (tables_by (tables_of v)) (suc a) b h.tree i.right_tree in
          let low' = low_end (tables_by (tables_of v)) lo a g.tree i.left_tree in
          let n = touch-node lo at w v (g.notes ++ h.notes) h.stand site p g.term (term_at w.lengths.now l) before z _ touched here in
          let keep = touch-stands lo at w v (g.notes ++ h.notes) h.stand site p g.term (term_at w.lengths.now l) before z _ touched in record {
            step = subst (λ ns. Step lo at ns (walk R m (scope_of w) (counted h.stand owing.count) u).stand w f) (append_assoc (g.notes ++ h.notes) owing.notes _) (step-then lo at _ _ _ _ w z f after (step-wider lo at (suc b) c _ _ z f (omega arith) (omega arith) d.step));
            tree =
                Standing.put {s = record { place = q; number = h.stand.count; list = l }} (node-stays (suc b) c _ _ z f d.step at _ (inr hc) (n ∙ ap (λ (r : Stand). Some (Put p q r.count l a b c)) i.step.stand)) ha hb hc
                (stays (suc b) c _ _ z f d.step lo a g.tree (inl (omega arith)) (keep lo a g.tree ha i.left_tree))
                (stays (suc b) c _ _ z f d.step (suc a) b h.tree (inl (omega arith)) (keep (suc a) b h.tree hb i.right_tree)) d.tree;
          }

      pub put-term : (t : Term) → t ≡ (walk R m (scope_of z) (stand_of z) u).term → t ≡ (walk R m (scope_of w) (stand_of w) (Tree.put p (record { place = q; number = k; list = l }) x y u)).term
      unfolding walk
      put-term t e = from_here (λ Γ s. t ≡ (walk R m Γ s u).term) z _ _ after.kept.scope after.stand e

      pub put-ended : (r : Result (Unit {0}) Refusal) (f : Walker) → c < at → Checked r (walk R m (scope_of z) (stand_of z) u) (suc b) c z f → Checked r (walk R m (scope_of w) (stand_of w) (Tree.put p (record { place = q; number = k; list = l }) x y u)) lo at w f
      put-ended (Ok v) f hc r = put-checked f hc r
      put-ended (Err e) f hc r = put-not-rest e r

      pub put-inferred : (r : Result Term Refusal) (f : Walker) → c < at → Inferred r (walk R m (scope_of z) (stand_of z) u) (suc b) c z f → Inferred r (walk R m (scope_of w) (stand_of w) (Tree.put p (record { place = q; number = k; list = l }) x y u)) lo at w f
      put-inferred (Ok t) f hc r = let d = put-checked f hc (record { step = r.step; tree = r.tree }) in record { term = put-term t r.term; step = d.step; tree = d.tree }
      put-inferred (Err e) f hc r = put-not-rest e r
