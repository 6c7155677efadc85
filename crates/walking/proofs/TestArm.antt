-- An if: both sides are inferred, then each branch is walked with its rows; facts and quantities fall back after each.
use Rattle.std.proofs.Common.{◌≡◌, ℕ, suc, ◌<◌, ◌≤◌, List, [], ◌++◌, Some, Ok, Err, Result, pos, sym, refl, ap, ◌∙◌, subst, ap₂, inl, inr, arith}
use Rattle.std.specs.List.{slice_get}
use Rattle.language.specs.declared.comparison.Comparison.{Comparison}
use Rattle.language.specs.declared.refusal.Refusal.{Refusal}
use Rattle.language.specs.declared.term.Term.{Term}
use Rattle.language.specs.Comparing.{rows, otherwise}
use Rattle.language.specs.Terms.{constant}
use Rattle.language.specs.Tree as Tree
use Rattle.language.specs.Tree.{Expr, Rule, Site, place_of}
use Rattle.language.specs.Walking.{Note, Stand, Scope, Got, Mode, infer, check, walk, got, fresh, join, first_fault}
use Rattle.language.proofs.Laws.{fault-first, fault-next}
use Rattle.records.specs.declared.node.Node.TheVariants.{Test}
use Rattle.records.specs.Columns.{tables_by}
use Rattle.records.specs.Standing.{Listed, Stands}
use Rattle.records.specs.Standing as Standing
use Rattle.records.proofs.Standing.{low_end}
use Rattle.walking.specs.declared.walker.Walker.{Walker}
use Rattle.walking.specs.Inferring.{Inferred, Pairing, Checking, Checked, branch}
use Rattle.walking.specs.Stepping.{Step, Finds, scope_of, stand_of}
use Rattle.walking.proofs.Ends.{ends-fresh, ends-fresh-not, found-stands}
use Rattle.walking.proofs.Noting.{fresh-notes}
use Rattle.walking.proofs.Parting.{tables_of}
use Rattle.walking.proofs.Stepping.{step-then, step-wider, stays, node-stays}

join-first : (m : Mode) (p : ℕ) (s : Stand) (ns : List Note) (r : Refusal) → first_fault ns ≡ Some r → first_fault (join m p s ns).notes ≡ Some r
unfolding join
join-first infer p s ns r e = ap first_fault (fresh-notes p s ns) ∙ fault-first ns _ r e
join-first (check ts cs) p s ns r e = e

module _ (R : List Rule) (m : Mode) (w : Walker) (lo at p a b i j : ℕ) (c : Comparison) (x y met unmet : Expr) where
  abbrev g : Got
  g = walk R infer (scope_of w) (stand_of w) x

  abbrev h : Got
  h = walk R infer (scope_of w) g.stand y

  abbrev X : Got
  X = branch R m (scope_of w) p h.stand (rows c g.term h.term) met

  abbrev Y : Got
  Y = branch R m (scope_of w) p X.stand (otherwise c g.term h.term) unmet

  abbrev notes : List Note
  notes = (g.notes ++ h.notes) ++ (X.notes ++ Y.notes)

  abbrev whole : Got
  whole = walk R m (scope_of w) (stand_of w) (Tree.test p c x y met unmet)

  joined : whole ≡ got (Tree.test p c g.tree h.tree X.tree Y.tree) (join m p Y.stand notes)
  unfolding walk
  joined = refl

  not-so : (r : Refusal) → first_fault notes ≡ Some r → first_fault whole.notes ≡ Some r
  not-so r e = ap (λ (q : Got). first_fault q.notes) joined ∙ join-first m p Y.stand notes r e

  pub test-not-parts : (r : Refusal) → first_fault (g.notes ++ h.notes) ≡ Some r → first_fault whole.notes ≡ Some r
  test-not-parts r e = not-so r (fault-first (g.notes ++ h.notes) _ r e)

  module _ (t u : Term) (v : Walker) (pair : Pairing t u g h lo a b w v) where
    -- the first branch as the definition has it
    met-is : branch R m (scope_of v) p (stand_of v) (rows c t u) met ≡ X
    met-is =
        ap (λ (r : Stand). branch R m (scope_of v) p r (rows c t u) met) pair.step.stand
        ∙ ap (λ (Γ : Scope). branch R m Γ p h.stand (rows c t u) met) pair.step.kept.scope
        ∙ ap₂ (λ t u. branch R m (scope_of w) p h.stand (rows c t u) met) pair.left pair.right

    pub test-not-met : (r : Refusal) → first_fault (branch R m (scope_of v) p (stand_of v) (rows c t u) met).notes ≡ Some r → first_fault whole.notes ≡ Some r
    test-not-met r e = not-so r (fault-next (g.notes ++ h.notes) _ pair.step.faultless ∙ fault-first X.notes Y.notes r (ap (λ (q : Got). first_fault q.notes) (sym met-is) ∙ e))

    -- what comes after the sides stands where it did
    pub met-waits : Stands (tables_by (tables_of w)) (suc b) i met → Stands (tables_by (tables_of v)) (suc b) i met
    met-waits q = stays lo b _ _ w v pair.step (suc b) i met (inr (omega arith)) q

    module _ (z : Walker) (first : Checking (branch R m (scope_of v) p (stand_of v) (rows c t u) met) (suc b) i v z) where
      once : Checking X (suc b) i v z
      once = subst (λ (q : Got). Checking q (suc b) i v z) met-is first

      unmet-is : branch R m (scope_of z) p (stand_of z) (otherwise c t u) unmet ≡ Y
      unmet-is =
          ap (λ (r : Stand). branch R m (scope_of z) p r (otherwise c t u) unmet) once.step.stand
          ∙ ap (λ (Γ : Scope). branch R m Γ p X.stand (otherwise c t u) unmet) (once.step.kept.scope ∙ pair.step.kept.scope)
          ∙ ap₂ (λ t u. branch R m (scope_of w) p X.stand (otherwise c t u) unmet) pair.left pair.right

      pub met-step : Step (suc b) i X.notes X.stand v z
      met-step = once.step

      pub test-not-unmet : (r : Refusal) → first_fault (branch R m (scope_of z) p (stand_of z) (otherwise c t u) unmet).notes ≡ Some r → first_fault whole.notes ≡ Some r
      test-not-unmet r e =
          not-so r (fault-next (g.notes ++ h.notes) _ pair.step.faultless ∙ fault-next X.notes Y.notes once.step.faultless ∙ ap (λ (q : Got). first_fault q.notes) (sym unmet-is) ∙ e)

      pub unmet-waits : Stands (tables_by (tables_of w)) (suc i) j unmet → Stands (tables_by (tables_of z)) (suc i) j unmet
      unmet-waits q = let k = low_end (tables_by (tables_of z)) (suc b) i X.tree once.tree in stays (suc b) i _ _ v z once.step (suc i) j unmet (inr (omega arith)) (stays lo b _ _ w v pair.step (suc i) j unmet (inr (omega arith)) q)

      module _ (f : Walker) (second : Checking (branch R m (scope_of z) p (stand_of z) (otherwise c t u) unmet) (suc i) j z f) (e : slice_get (tables_of w).nodes.entries at ≡ Some (Test p c a b i j)) (ha : a < at) (hb : b < at) (hi : i < at) (hj : j < at) where
        twice : Checking Y (suc i) j z f
        twice = subst (λ (q : Got). Checking q (suc i) j z f) unmet-is second

        low-a : lo ≤ a
        low-a = low_end (tables_by (tables_of v)) lo a g.tree pair.left_tree

        low-b : suc a ≤ b
        low-b = low_end (tables_by (tables_of v)) (suc a) b h.tree pair.right_tree

        low-i : suc b ≤ i
        low-i = low_end (tables_by (tables_of z)) (suc b) i X.tree once.tree

        pub tested : Step lo at notes Y.stand w f
        tested =
            let a' = low-a in let b' = low-b in let i' = low-i in
            step-then lo at _ _ _ _ w v f (step-wider lo at lo b _ _ w v (omega arith) (omega arith) pair.step)
            (step-then lo at _ _ _ _ v z f (step-wider lo at (suc b) i _ _ v z (omega arith) (omega arith) once.step) (step-wider lo at (suc i) j _ _ z f (omega arith) (omega arith) twice.step))

        pub tested-tree : Stands (tables_by (tables_of f)) lo at (Tree.test p c g.tree h.tree X.tree Y.tree)
        tested-tree =
            let a' = low-a in let b' = low-b in let i' = low-i in
            Standing.test (node-stays (suc i) j _ _ z f twice.step at _ (inr hj) (node-stays (suc b) i _ _ v z once.step at _ (inr hi) (node-stays lo b _ _ w v pair.step at _ (inr hb) e))) ha hb hi hj
            (stays (suc i) j _ _ z f twice.step lo a g.tree (inl (omega arith)) (stays (suc b) i _ _ v z once.step lo a g.tree (inl (omega arith)) pair.left_tree))
            (stays (suc i) j _ _ z f twice.step (suc a) b h.tree (inl (omega arith)) (stays (suc b) i _ _ v z once.step (suc a) b h.tree (inl (omega arith)) pair.right_tree))
            (stays (suc i) j _ _ z f twice.step (suc b) i X.tree (inl (omega arith)) once.tree)
            twice.tree

-- an if that is inferred has a fresh term
module _ (R : List Rule) (w : Walker) (lo at p a b i j : ℕ) (c : Comparison) (x y met unmet : Expr) (f : Walker) where
  pub test-inferred : (r : Result Term Refusal) (z : Walker) → Step lo at (notes R infer w lo at p a b i j c x y met unmet) (Y R infer w lo at p a b i j c x y met unmet).stand w f
      → Stands (tables_by (tables_of f)) lo at (Tree.test p c (g R infer w lo at p a b i j c x y met unmet).tree (h R infer w lo at p a b i j c x y met unmet).tree (X R infer w lo at p a b i j c x y met unmet).tree (Y R infer w lo at p a b i j c x y met unmet).tree)
      → Finds r (fresh p (stand_of f) []) f z → Inferred r (walk R infer (scope_of w) (stand_of w) (Tree.test p c x y met unmet)) lo at w z
  unfolding walk join
  test-inferred (Ok q) z s t k =
      let d = ends-fresh lo at w f z _ _ q s p k in record { term = d.0; step = d.1; tree = found-stands q _ f z k lo at _ t }
  test-inferred (Err r) z s t k = ends-fresh-not lo at w f z _ _ (constant (pos 0)) s p r k

  -- one that is checked has none
  pub test-checked : (ts : List Term) (cs : List Tree.Condition) → Step lo at (notes R (check ts cs) w lo at p a b i j c x y met unmet) (Y R (check ts cs) w lo at p a b i j c x y met unmet).stand w f
      → Stands (tables_by (tables_of f)) lo at (Tree.test p c (g R (check ts cs) w lo at p a b i j c x y met unmet).tree (h R (check ts cs) w lo at p a b i j c x y met unmet).tree (X R (check ts cs) w lo at p a b i j c x y met unmet).tree (Y R (check ts cs) w lo at p a b i j c x y met unmet).tree)
      → Checking (walk R (check ts cs) (scope_of w) (stand_of w) (Tree.test p c x y met unmet)) lo at w f
  unfolding walk join
  test-checked ts cs s t = record { step = s; tree = t }

-- an if that is checked ends with its second branch
module _ (R : List Rule) (ts : List Term) (cs : List Tree.Condition) (w : Walker) (lo at p a b i j : ℕ) (c : Comparison) (x y met unmet : Expr) (t u : Term) (v : Walker) (pair : Pairing t u (walk R infer (scope_of w) (stand_of w) x) (walk R infer (scope_of w) (walk R infer (scope_of w) (stand_of w) x).stand y) lo a b w v)
    (z : Walker) (first : Checking (branch R (check ts cs) (scope_of v) p (stand_of v) (rows c t u) met) (suc b) i v z) where
  pub test-ended : (r : Result (Unit {0}) Refusal) (f : Walker) → Checked r (branch R (check ts cs) (scope_of z) p (stand_of z) (otherwise c t u) unmet) (suc i) j z f → slice_get (tables_of w).nodes.entries at ≡ Some (Test p c a b i j) → a < at → b < at → i < at → j < at
      → Checked r (walk R (check ts cs) (scope_of w) (stand_of w) (Tree.test p c x y met unmet)) lo at w f
  test-ended (Ok o) f second e ha hb hi hj =
      test-checked R w lo at p a b i j c x y met unmet f ts cs
      (tested R (check ts cs) w lo at p a b i j c x y met unmet t u v pair z first f second e ha hb hi hj)
      (tested-tree R (check ts cs) w lo at p a b i j c x y met unmet t u v pair z first f second e ha hb hi hj)
  test-ended (Err r) f second e ha hb hi hj = test-not-unmet R (check ts cs) w lo at p a b i j c x y met unmet t u v pair z first r second
