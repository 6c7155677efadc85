-- A let: the bound part is inferred, and its name is in force while the body is walked.
use Rattle.std.proofs.Common.{◌≡◌, ℕ, suc, ◌<◌, List, [], ◌∷◌, ◌++◌, length, take, Some, sym, ap, ◌∙◌, subst, ap₂, inl, inr, arith}
use Rattle.std.specs.List.{slice_get}
use Rattle.language.specs.declared.refusal.Refusal.{Refusal}
use Rattle.language.specs.declared.term.Term.{Term}
use Rattle.language.specs.Tree as Tree
use Rattle.language.specs.Tree.{Expr, Rule, Site, place_of}
use Rattle.language.specs.Walking.{Scope, Got, Mode, infer, walk, binding, first_fault}
use Rattle.language.proofs.Laws.{fault-first, fault-next}
use Rattle.records.specs.declared.node.Node.TheVariants.{Bind}
use Rattle.records.specs.Columns.{tables_by}
use Rattle.records.specs.Laying.{columns_of, owed_of}
use Rattle.records.specs.Standing.{Listed, Stands}
use Rattle.records.specs.Standing as Standing
use Rattle.records.proofs.Standing.{low_end}
use Rattle.pile.specs.Entries.{entries}
use Rattle.records.specs.declared.laid.Laid.{Laid}
use Rattle.walking.specs.declared.walker.Walker.{Walker}
use Rattle.walking.specs.Inferring.{Inferring, Checking}
use Rattle.walking.specs.Stepping.{Beside, Sure, scope_of, stand_of, facts_of}
use Rattle.walking.proofs.Parting.{tables_of, from_here, let-step}
use Rattle.walking.proofs.Stepping.{step-then, step-wider, stays, node-stays}

module _ (R : List Rule) (m : Mode) (w : Walker) (lo at p a b : ℕ) (x y : Expr) where
  abbrev g : Got
  g = walk R infer (scope_of w) (stand_of w) x

  abbrev h : Got
  h = walk R m (binding (scope_of w) g.term) g.stand y

  pub let-not-bound : (r : Refusal) → first_fault (walk R infer (scope_of w) (stand_of w) x).notes ≡ Some r → first_fault (walk R m (scope_of w) (stand_of w) (Tree.bind p x y)).notes ≡ Some r
  unfolding walk
  let-not-bound r n = fault-first g.notes _ r n

  module _ (t : Term) (v u : Walker) (i : Inferring t (walk R infer (scope_of w) (stand_of w) x) lo a w v) (names : entries u.names.now ≡ entries v.names.now ++ t ∷ []) (c : Beside v u) where
    scope-is : scope_of u ≡ binding (scope_of w) g.term
    scope-is = ap₂ (λ xs ys. record { names = xs; lengths = ys }) (names ∙ ap₂ (λ (G : Scope) y. G.names ++ y ∷ []) i.step.kept.scope i.term) (c.lengths ∙ ap (λ (G : Scope). G.lengths) i.step.kept.scope)

    stand-is : stand_of u ≡ g.stand
    stand-is = ap₂ (λ n fs. record { next = n; facts = fs; count = owed_of u.debts.now.tables.now }) c.next c.facts ∙ ap (λ k. record { next = v.next; facts = facts_of v; count = k }) (ap owed_of c.tables) ∙ i.step.stand

    -- the body stands where it did
    pub let-body : Stands (tables_by (tables_of w)) (suc a) b y → Stands (tables_by (tables_of u)) (suc a) b y
    let-body r = subst (λ (q : Laid). Stands (tables_by (columns_of q)) (suc a) b y) (sym c.tables) (stays lo a _ _ w v i.step (suc a) b y (inr (omega arith)) r)

    pub let-not-body : (r : Refusal) → first_fault (walk R m (scope_of u) (stand_of u) y).notes ≡ Some r → first_fault (walk R m (scope_of w) (stand_of w) (Tree.bind p x y)).notes ≡ Some r
    unfolding walk
    let-not-body r n = fault-next g.notes _ i.step.faultless ∙ from_here (λ Γ s. first_fault (walk R m Γ s y).notes ≡ Some r) u _ _ scope-is stand-is n

    pub let-term : (q : Term) → q ≡ (walk R m (scope_of u) (stand_of u) y).term → q ≡ (walk R m (scope_of w) (stand_of w) (Tree.bind p x y)).term
    unfolding walk
    let-term q e = from_here (λ Γ s. q ≡ (walk R m Γ s y).term) u _ _ scope-is stand-is e

    pub let-checked : (f z : Walker) → entries z.names.now ≡ take (length (entries v.names.now)) (entries f.names.now) → Beside f z → Sure v → slice_get (tables_of w).nodes.entries at ≡ Some (Bind p a b) → a < at → b < at
        → Checking (walk R m (scope_of u) (stand_of u) y) (suc a) b u f → Checking (walk R m (scope_of w) (stand_of w) (Tree.bind p x y)) lo at w z
    unfolding walk
    let-checked f z back e s n ha hb r =
        let d = from_here (λ Γ s. Checking (walk R m Γ s y) (suc a) b u f) u _ _ scope-is stand-is r in
        let k = let-step v u f z t names c back e s (suc a) b _ _ d.step in
        let low = low_end (tables_by (tables_of v)) lo a g.tree i.tree in record {
          step = step-then lo at _ _ _ _ w v z (step-wider lo at lo a _ _ w v (omega arith) (omega arith) i.step) (step-wider lo at (suc a) b _ _ v z (omega arith) (omega arith) k);
          tree =
              Standing.bind (node-stays (suc a) b _ _ v z k at _ (inr hb) (node-stays lo a _ _ w v i.step at _ (inr ha) n)) ha hb
              (stays (suc a) b _ _ v z k lo a g.tree (inl (omega arith)) i.tree)
              (subst (λ (q : Laid). Stands (tables_by (columns_of q)) (suc a) b h.tree) (sym e.tables) d.tree);
        }
