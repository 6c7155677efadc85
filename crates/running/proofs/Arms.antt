-- A node's run, by what stands at its position: its parts, and the rest.
use Rattle.std.proofs.Common.{◌≡◌, ℕ, ◌<◌, Bool, true, false, cond, ◌≤◌, ◌∷◌, ◌++◌, [], drop, ℤ, pos, length, Some, Ok, Result, sym, refl, ap, ◌∙◌, subst, ap₂, slice_index_or, slice_set}
use Rattle.std.proofs.lemmas.List.{drop-append-le}
use Rattle.std.specs.List.{slice_get}
use Rattle.language.specs.declared.part.Part.{Part}
use Rattle.language.specs.declared.operator.Operator.{Operator}
use Rattle.language.specs.declared.comparison.Comparison.{Comparison}
use Rattle.language.specs.Drafts.{marked}
use Rattle.language.specs.Tree.{Expr, Site}
use Rattle.language.specs.Vocabulary.{reckoned, holds}
use Rattle.language.specs.Running.{Run, State, Dropped, Program, done, quiet, ◌>>=◌, fit, touch, load, store, node, value_at, part_at, holding}
use Rattle.records.specs.declared.node.Node.TheVariants.{Blank, Num, Name, Calc, Read, Bind, Test, Put, Claim, End, Value, Lent}
use Rattle.records.specs.declared.stretch.Stretch.{Stretch}
use Rattle.records.specs.Columns.{tables_in}
use Rattle.records.specs.Tables.{Tables}
use Rattle.records.specs.Inverting.{CalcStands, ReadStands, BindStands, TestStands, PutStands, ClaimStands}
use Rattle.records.proofs.Inverting.{expr_as}
use Rattle.running.specs.declared.program.Stop.{Stop}
use Rattle.running.specs.declared.runner.Frame.{Frame}
use Rattle.running.specs.declared.runner.Runner.{Runner}
use Rattle.running.specs.Ending.{Ends, Tame, Beside, state_of, program_of, outcome_of}
use Rattle.running.specs.Evaluating.{frame_of, eval_in, node_in, NodeRuns, Runs, Evals}
use Rattle.running.specs.Standing.{Few, Placed}
use Rattle.pile.specs.Entries.{entries}
use Rattle.running.proofs.Ending.{ends-quiet, ends-then}
use Rattle.running.proofs.Here.{run_at}
use Rattle.running.proofs.Parts.{One, Two}

-- a value that was worked out
pub fit_ends : (P : Program) (p : ℕ) (v : ℤ) (r : Result ℤ Stop) (w : Runner) → fit P p v (state_of w) ≡ quiet (outcome_of r (state_of w)) → Ends r (fit P p v (state_of w)) w w
fit_ends P p v r w e = ends-quiet r _ w w e refl

-- an element that is read: the cell is found, its value is taken
pub load_ends : (P : Program) (S : Dropped) (site : Site) (part : Part) (x y : ℤ) (a : ℕ) (r : Result ℤ Stop) (v u z : Runner)
    → Ends (Ok a) (touch S site part x (state_of v)) v u → y ≡ slice_index_or u.cells.now a (pos 0) → state_of z ≡ state_of u → z.checks ≡ u.checks → fit P site.place y (state_of z) ≡ quiet (outcome_of r (state_of z))
    → Ends r ((touch S site part x >>= (λ a. load a >>= (λ y. fit P site.place y))) (state_of v)) v z
unfolding load
load_ends P S site part x y a r v u z t e s c h =
    ends-then (touch S site part x) (λ a. load a >>= (λ y. fit P site.place y)) a r v u z t
    (ends-then (load a) (λ y. fit P site.place y) y r u z z
    (ends-quiet (Ok y) (load a (state_of u)) u z (ap (λ y. quiet (done y (state_of u))) (sym e) ∙ ap (λ s. quiet (done y s)) (sym s)) c)
    (fit_ends P site.place y r z h))

-- a value that is put: the cell is found, then it is another
pub store_ends : (a : ℕ) (y : ℤ) (u t : Runner) → t.fuel ≡ u.fuel → t.cells.now ≡ slice_set u.cells.now a y → t.checks ≡ u.checks → Ends (Ok tt) (store a y (state_of u)) u t
unfolding store
store_ends a y u t f e c = ends-quiet (Ok tt) (store a y (state_of u)) u t (ap₂ (λ n cs. quiet (done tt (record { fuel = n; cells = cs }))) (sym f) (sym e)) c

module _ (f : Frame) (left at : ℕ) (w : Runner) (g : NodeRuns f left at w) where
  abbrev T : Tables
  T = tables_in f.program.records.now

  -- what the node says of the tree
  abbrev tree : Expr
  tree = g.placed.tree

  as_few : (e : Expr) → tree ≡ e → Few (length g.book.bodies) e
  as_few e h = subst (Few (length g.book.bodies)) h g.placed.few

  as_tame : (e : Expr) → tree ≡ e → Tame (node_in f g.book left w e (state_of w))
  as_tame e h = subst (λ e. Tame (node_in f g.book left w e (state_of w))) h g.tame

  pub as_ends : (e : Expr) → tree ≡ e → (r : Result ℤ Stop) (z : Runner) → Ends r (node_in f g.book left w e (state_of w)) w z → Ends r (node_in f g.book left w g.placed.tree (state_of w)) w z
  as_ends e h r z x = subst (λ e. Ends r (node_in f g.book left w e (state_of w)) w z) (sym h) x

  module _ (p : ℕ) (o : Operator) (a b : ℕ) (n : slice_get (tables_in f.program.records.now).nodes at ≡ Some (Calc p o a b)) where
    pub calc_is : CalcStands (tables_in f.program.records.now) g.placed.lo p o a b at g.placed.tree
    calc_is = expr_as (tables_in f.program.records.now) g.placed.lo at tree _ g.placed.stands n

    pub calc_two : Two f left at w g.book a b (λ x y. fit (program_of f.program g.book.bodies) p (reckoned o x y))
    unfolding node
    calc_two = let q = calc_is in let few = as_few _ q.is in record {
      first = record { lo = _; tree = q.left; stands = q.left_stands; few = few.0 };
      second = record { lo = _; tree = q.right; stands = q.right_stands; few = few.1 };
      first_below = q.left_below;
      second_below = q.right_below;
      tame = as_tame _ q.is;
    }

    pub calc_ends : (r : Result ℤ Stop) (z : Runner) → Ends r ((eval_in f g.book left w calc_two.first.tree >>= (λ x. eval_in f g.book left w calc_two.second.tree >>= (λ y. fit (program_of f.program g.book.bodies) p (reckoned o x y)))) (state_of w)) w z → Ends r (node_in f g.book left w g.placed.tree (state_of w)) w z
    unfolding node calc_two
    calc_ends r z x = as_ends _ calc_is.is r z x

  module _ (p v : ℕ) (n : slice_get T.nodes at ≡ Some (Num p v)) where
    pub num_ends : (r : Result ℤ Stop) → fit (program_of f.program g.book.bodies) p (pos v) (state_of w) ≡ quiet (outcome_of r (state_of w)) → Ends r (node_in f g.book left w g.placed.tree (state_of w)) w w
    unfolding node
    num_ends r h = as_ends _ (expr_as T g.placed.lo at tree _ g.placed.stands n).is r w (fit_ends _ p (pos v) r w h)

  module _ (p i : ℕ) (n : slice_get T.nodes at ≡ Some (Name p i)) where
    pub name_ends : (x : ℤ) (r : Result ℤ Stop) → x ≡ value_at (frame_of f w) i → fit (program_of f.program g.book.bodies) p x (state_of w) ≡ quiet (outcome_of r (state_of w)) → Ends r (node_in f g.book left w g.placed.tree (state_of w)) w w
    unfolding node
    name_ends x r e h = as_ends _ (expr_as T g.placed.lo at tree _ g.placed.stands n).is r w (fit_ends _ p _ r w (ap (λ x. fit (program_of f.program g.book.bodies) p x (state_of w)) (sym e) ∙ h))

  module _ (p m l a : ℕ) (n : slice_get T.nodes at ≡ Some (Read p m l a)) where
    abbrev read_site : Site
    read_site = record { place = p; number = m; list = l }

    abbrev read_k : ℤ → Run ℤ
    read_k x = touch (marked f.program.dropped.now) read_site (part_at f.parts.now l) x >>= (λ a. load a >>= (λ y. fit (program_of f.program g.book.bodies) p y))

    read_is : ReadStands T g.placed.lo p m l a at g.placed.tree
    read_is = expr_as T g.placed.lo at tree _ g.placed.stands n

    pub read_one : One f left at w g.book a (λ x. touch (marked f.program.dropped.now) (record { place = p; number = m; list = l }) (part_at f.parts.now l) x >>= (λ a. load a >>= (λ y. fit (program_of f.program g.book.bodies) p y)))
    unfolding node
    read_one = let q = read_is in record { placed = record { lo = _; tree = q.index; stands = q.index_stands; few = as_few _ q.is }; below = q.index_below; tame = as_tame _ q.is }

    pub read_ends : (r : Result ℤ Stop) (z : Runner) → Ends r ((eval_in f g.book left w read_one.placed.tree >>= read_k) (state_of w)) w z → Ends r (node_in f g.book left w g.placed.tree (state_of w)) w z
    unfolding node read_one
    read_ends r z x = as_ends _ read_is.is r z x

  module _ (p a b : ℕ) (n : slice_get T.nodes at ≡ Some (Bind p a b)) where
    bind_is : BindStands T g.placed.lo p a b at g.placed.tree
    bind_is = expr_as T g.placed.lo at tree _ g.placed.stands n

    pub bind_body : Placed f.program.records.now g.book b
    bind_body = let q = bind_is in record { lo = _; tree = q.body; stands = q.body_stands; few = (as_few _ q.is).1 }

    pub body_below : b < at
    body_below = bind_is.body_below

    pub bind_one : One f left at w g.book a (λ x. run_at f g.book left (holding (frame_of f w) x) bind_body.tree)
    unfolding node bind_body
    bind_one = let q = bind_is in record { placed = record { lo = _; tree = q.bound; stands = q.bound_stands; few = (as_few _ q.is).0 }; below = q.bound_below; tame = as_tame _ q.is }

    pub bind_ends : (r : Result ℤ Stop) (z : Runner) → Ends r ((eval_in f g.book left w bind_one.placed.tree >>= (λ x. run_at f g.book left (holding (frame_of f w) x) bind_body.tree)) (state_of w)) w z → Ends r (node_in f g.book left w g.placed.tree (state_of w)) w z
    unfolding node bind_body bind_one
    bind_ends r z x = as_ends _ bind_is.is r z x

  module _ (p : ℕ) (c : Comparison) (a b d e : ℕ) (n : slice_get T.nodes at ≡ Some (Test p c a b d e)) where
    test_is : TestStands T g.placed.lo p c a b d e at g.placed.tree
    test_is = expr_as T g.placed.lo at tree _ g.placed.stands n

    pub test_met : Placed f.program.records.now g.book d
    test_met = let q = test_is in record { lo = _; tree = q.met; stands = q.met_stands; few = (as_few _ q.is).1.1.0 }

    pub test_unmet : Placed f.program.records.now g.book e
    test_unmet = let q = test_is in record { lo = _; tree = q.unmet; stands = q.unmet_stands; few = (as_few _ q.is).1.1.1 }

    pub met_below : d < at
    met_below = test_is.met_below

    pub unmet_below : e < at
    unmet_below = test_is.unmet_below

    abbrev test_k : ℤ → ℤ → Run ℤ
    test_k x y = cond (holds c x y) (eval_in f g.book left w test_met.tree) (eval_in f g.book left w test_unmet.tree)

    pub test_two : Two f left at w g.book a b (λ x y. cond (holds c x y) (eval_in f g.book left w test_met.tree) (eval_in f g.book left w test_unmet.tree))
    unfolding node test_met test_unmet
    test_two = let q = test_is in record {
      first = record { lo = _; tree = q.left; stands = q.left_stands; few = (as_few _ q.is).0 };
      second = record { lo = _; tree = q.right; stands = q.right_stands; few = (as_few _ q.is).1.0 };
      first_below = q.left_below;
      second_below = q.right_below;
      tame = as_tame _ q.is;
    }

    pub test_ends : (r : Result ℤ Stop) (z : Runner) → Ends r ((eval_in f g.book left w test_two.first.tree >>= (λ x. eval_in f g.book left w test_two.second.tree >>= test_k x)) (state_of w)) w z → Ends r (node_in f g.book left w g.placed.tree (state_of w)) w z
    unfolding node test_met test_unmet test_two
    test_ends r z x = as_ends _ test_is.is r z x

  module _ (p q m l a b e : ℕ) (n : slice_get T.nodes at ≡ Some (Put p q m l a b e)) where
    put_is : PutStands T g.placed.lo p q m l a b e at g.placed.tree
    put_is = expr_as T g.placed.lo at tree _ g.placed.stands n

    pub put_rest : Placed f.program.records.now g.book e
    put_rest = let i = put_is in record { lo = _; tree = i.rest; stands = i.rest_stands; few = (as_few _ i.is).1.1 }

    pub put_below : e < at
    put_below = put_is.rest_below

    abbrev pub put_k : ℤ → ℤ → Run ℤ
    put_k x y = touch (marked f.program.dropped.now) (record { place = q; number = m; list = l }) (part_at f.parts.now l) x >>= (λ c. store c y >>= (λ u. eval_in f g.book left w put_rest.tree))

    pub put_two : Two f left at w g.book a b put_k
    unfolding node put_rest
    put_two = let i = put_is in record {
      first = record { lo = _; tree = i.index; stands = i.index_stands; few = (as_few _ i.is).0 };
      second = record { lo = _; tree = i.given; stands = i.given_stands; few = (as_few _ i.is).1.0 };
      first_below = i.index_below;
      second_below = i.given_below;
      tame = as_tame _ i.is;
    }

    pub put_ends : (r : Result ℤ Stop) (z : Runner) → Ends r ((eval_in f g.book left w put_two.first.tree >>= (λ x. eval_in f g.book left w put_two.second.tree >>= put_k x)) (state_of w)) w z → Ends r (node_in f g.book left w g.placed.tree (state_of w)) w z
    unfolding node put_rest put_two
    put_ends r z x = as_ends _ put_is.is r z x

  module _ (p a : ℕ) (c : Stretch) (n : slice_get T.nodes at ≡ Some (Claim p a c)) where
    claim_is : ClaimStands T g.placed.lo p a c at g.placed.tree
    claim_is = expr_as T g.placed.lo at tree _ g.placed.stands n

    pub claim_below : a < at
    claim_below = claim_is.claimed_below

    pub claim_runs : Runs f left a w
    unfolding node
    claim_runs = let q = claim_is in record { book = g.book; placed = record { lo = _; tree = q.claimed; stands = q.claimed_stands; few = as_few _ q.is }; tame = as_tame _ q.is }

    pub claim_ends : (r : Result ℤ Stop) (z : Runner) → Evals r f left a w z → Ends r (node_in f g.book left w g.placed.tree (state_of w)) w z
    unfolding node claim_runs
    claim_ends r z x = as_ends _ claim_is.is r z (x claim_runs)

  -- where a node is no expression's, none stands
  pub no_blank : slice_get T.nodes at ≡ Some Blank → ⊥
  no_blank n = expr_as T g.placed.lo at tree _ g.placed.stands n

  pub no_end : slice_get T.nodes at ≡ Some End → ⊥
  no_end n = expr_as T g.placed.lo at tree _ g.placed.stands n

  pub no_value : (a b : ℕ) → slice_get T.nodes at ≡ Some (Value a b) → ⊥
  no_value a b n = expr_as T g.placed.lo at tree _ g.placed.stands n

  pub no_lent : (l b : ℕ) → slice_get T.nodes at ≡ Some (Lent l b) → ⊥
  no_lent l b n = expr_as T g.placed.lo at tree _ g.placed.stands n

-- a branch by what the comparison says
pub met_tame : (b : Bool) (m k : Run ℤ) (s : State) → b ≡ true → Tame (cond b m k s) → Tame (m s)
met_tame b m k s e t = subst (λ b. Tame (cond b m k s)) e t

pub unmet_tame : (b : Bool) (m k : Run ℤ) (s : State) → b ≡ false → Tame (cond b m k s) → Tame (k s)
unmet_tame b m k s e t = subst (λ b. Tame (cond b m k s)) e t

pub met_ends : (b : Bool) (m k : Run ℤ) (r : Result ℤ Stop) (w v : Runner) → b ≡ true → Ends r (m (state_of w)) w v → Ends r (cond b m k (state_of w)) w v
met_ends b m k r w v e x = subst (λ b. Ends r (cond b m k (state_of w)) w v) (sym e) x

pub unmet_ends : (b : Bool) (m k : Run ℤ) (r : Result ℤ Stop) (w v : Runner) → b ≡ false → Ends r (k (state_of w)) w v → Ends r (cond b m k (state_of w)) w v
unmet_ends b m k r w v e x = subst (λ b. Ends r (cond b m k (state_of w)) w v) (sym e) x

-- a value joined those in force
pub held_frame : (f : Frame) (w v t : Runner) (x : ℤ) → f.base ≤ length (entries w.values.now) → Beside w v → entries t.values.now ≡ entries v.values.now ++ x ∷ [] → holding (frame_of f w) x ≡ frame_of f t
held_frame f w v t x l b e =
    ap (λ xs. record { values = xs; parts = f.parts.now }) (sym (ap (drop f.base) (e ∙ ap (λ xs. xs ++ x ∷ []) b.values) ∙ drop-append-le f.base (entries w.values.now) (x ∷ []) l))
