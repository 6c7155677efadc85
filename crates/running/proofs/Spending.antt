-- An expression takes its unit, and then its node is run.
use Rattle.std.proofs.Common.{◌≡◌, ℕ, zero, suc, ◌-◌, ℤ, Some, Ok, Err, Result, sym, refl, ap, ◌∙◌, subst, arith}
use Rattle.std.specs.List.{slice_get}
use Rattle.language.specs.declared.ending.Ending.TheVariants.{Deep}
use Rattle.language.specs.Drafts.{marked}
use Rattle.language.specs.Tree.{Expr, place_of}
use Rattle.language.specs.Running as Running
use Rattle.language.specs.Running.{Ran, Run, Program, Dropped, ◌>>=◌, spend, halt, run, node}
use Rattle.records.specs.declared.node.Node.{Node}
use Rattle.records.specs.declared.node.Node.TheVariants.{Blank, Num, Name, Calc, Read, Call, Bind, Test, Put, Claim, End, Value, Lent}
use Rattle.records.specs.Columns.{tables_in}
use Rattle.records.specs.Inverting.{ExprAs}
use Rattle.records.specs.Tables.{Tables}
use Rattle.records.proofs.Inverting.{expr_as}
use Rattle.running.specs.declared.program.Stop.{Stop}
use Rattle.running.specs.declared.runner.Frame.{Frame}
use Rattle.running.specs.declared.runner.Runner.{Runner}
use Rattle.running.specs.Ending.{Ends, Tame, Beside, state_of, program_of}
use Rattle.running.specs.Evaluating.{frame_of, eval_in, node_in, Runs, NodeRuns, NodeEvals}
use Rattle.running.specs.Nodes.{place_in}
use Rattle.running.proofs.Ending.{ends-quiet, ends-stop, ends-then, tame-rest}
use Rattle.running.proofs.Here.{same_frame}

place_is : (t : Tables) (lo at : ℕ) (e : Expr) (n : Node) → ExprAs t lo at e n → place_in n ≡ place_of e
place_is t lo at e Blank x = absurd x
place_is t lo at e (Num p v) x = sym (ap place_of x.is)
place_is t lo at e (Name p i) x = sym (ap place_of x.is)
place_is t lo at e (Calc p o a b) x = sym (ap place_of x.is)
place_is t lo at e (Read p m l a) x = sym (ap place_of x.is)
place_is t lo at e (Call p f a) x = sym (ap place_of x.is)
place_is t lo at e (Bind p a b) x = sym (ap place_of x.is)
place_is t lo at e (Test p c a b d f) x = sym (ap place_of x.is)
place_is t lo at e (Put p q m l a b f) x = sym (ap place_of x.is)
place_is t lo at e (Claim p a s) x = sym (ap place_of x.is)
place_is t lo at e End x = absurd x
place_is t lo at e (Value a b) x = absurd x
place_is t lo at e (Lent l b) x = absurd x

-- so many may still stand one in another
run_spends : (P : Program) (S : Dropped) (left : ℕ) (E : Running.Frame) (e : Expr) → (k : Unit {0} → Run ℤ) × (run P S left E e ≡ (spend (place_of e) >>= k))
unfolding run
run_spends P S zero E e = ((λ u. halt Deep (place_of e)), refl)
run_spends P S (suc d) E e = ((λ u. node P S (run P S d) E e), refl)

run_deep : (P : Program) (S : Dropped) (left : ℕ) (E : Running.Frame) (e : Expr) → left ≡ 0 → run P S left E e ≡ (spend (place_of e) >>= (λ u. halt Deep (place_of e)))
unfolding run
run_deep P S left E e h = ap (λ d. run P S d E e) h

run_node : (P : Program) (S : Dropped) (left : ℕ) (E : Running.Frame) (e : Expr) → (left ≡ 0 → ⊥) → run P S left E e ≡ (spend (place_of e) >>= (λ u. node P S (run P S (left - 1)) E e))
unfolding run
run_node P S zero E e h = absurd (h refl)
run_node P S (suc d) E e h = let q : d ≡ suc d - 1 = omega arith in ap (λ d. spend (place_of e) >>= (λ u. node P S (run P S d) E e)) q

module _ (f : Frame) (left at : ℕ) (w : Runner) (g : Runs f left at w) (m : Node) (n : slice_get (tables_in f.program.records.now).nodes at ≡ Some m) (p : ℕ) (pm : p ≡ place_in m) where
  place_here : p ≡ place_of g.placed.tree
  place_here = pm ∙ place_is (tables_in f.program.records.now) g.placed.lo at g.placed.tree m (expr_as (tables_in f.program.records.now) g.placed.lo at g.placed.tree m g.placed.stands n)

  spent_here : (r : Result (Unit {0}) Stop) (v : Runner) → Ends r (spend p (state_of w)) w v → Ends r (spend (place_of g.placed.tree) (state_of w)) w v
  spent_here r v x = subst (λ p. Ends r (spend p (state_of w)) w v) place_here x

  pub eval_stop : (e : Stop) (v : Runner) → Ends (Err e) (spend p (state_of w)) w v → Ends (Err e) (eval_in f g.book left w g.placed.tree (state_of w)) w v
  eval_stop e v x =
      let q = run_spends (program_of f.program g.book.bodies) (marked f.program.dropped.now) left (frame_of f w) g.placed.tree in
      subst (λ (k : Run ℤ). Ends (Err e) (k (state_of w)) w v) (sym q.1) (ends-stop (spend (place_of g.placed.tree)) q.0 e w v (spent_here (Err e) v x))

  module _ (v : Runner) (x : Ends (Ok tt) (spend p (state_of w)) w v) where
    pub eval_deep : left ≡ 0 → Ends (Err (record { kind = Deep; place = p })) (eval_in f g.book left w g.placed.tree (state_of w)) w v
    unfolding halt
    eval_deep h =
        let q = run_deep (program_of f.program g.book.bodies) (marked f.program.dropped.now) left (frame_of f w) g.placed.tree h in
        let s : Stop = record { kind = Deep; place = place_of g.placed.tree } in
        subst (λ p. Ends (Err (record { kind = Deep; place = p })) (eval_in f g.book left w g.placed.tree (state_of w)) w v) (sym place_here)
        (subst (λ (k : Run ℤ). Ends (Err s) (k (state_of w)) w v) (sym q)
        (ends-then (spend (place_of g.placed.tree)) (λ u. halt Deep (place_of g.placed.tree)) tt (Err s) w v v (spent_here (Ok tt) v x) (ends-quiet (Err s) _ v v refl refl)))

    module _ (deep : left ≡ 0 → ⊥) (b : Beside w v) where
      node_is : eval_in f g.book left w g.placed.tree ≡ (spend (place_of g.placed.tree) >>= (λ u. node_in f g.book (left - 1) w g.placed.tree))
      node_is = run_node (program_of f.program g.book.bodies) (marked f.program.dropped.now) left (frame_of f w) g.placed.tree deep

      node_at_w : Tame (node_in f g.book (left - 1) w g.placed.tree (state_of v))
      node_at_w = tame-rest (spend (place_of g.placed.tree)) (λ u. node_in f g.book (left - 1) w g.placed.tree) tt w v (subst (λ (k : Run ℤ). Tame (k (state_of w))) node_is g.tame) (spent_here (Ok tt) v x)

      abbrev node_for : Running.Frame → Ran ℤ
      node_for E = node (program_of f.program g.book.bodies) (marked f.program.dropped.now) (run (program_of f.program g.book.bodies) (marked f.program.dropped.now) (left - 1)) E g.placed.tree (state_of v)

      pub node_runs : NodeRuns f (left - 1) at v
      node_runs = record { book = g.book; placed = g.placed; tame = subst (λ E. Tame (node_for E)) (same_frame f w v b) node_at_w }

      pub eval_then : (r : Result ℤ Stop) (z : Runner) → NodeEvals r f (left - 1) at v z → Ends r (eval_in f g.book left w g.placed.tree (state_of w)) w z
      unfolding node_runs
      eval_then r z y =
          subst (λ (k : Run ℤ). Ends r (k (state_of w)) w z) (sym node_is)
          (ends-then (spend (place_of g.placed.tree)) (λ u. node_in f g.book (left - 1) w g.placed.tree) tt r w v z (spent_here (Ok tt) v x)
          (subst (λ E. Ends r (node_for E) v z) (sym (same_frame f w v b)) (y node_runs)))
