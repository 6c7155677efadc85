-- A call: its arguments, then the rule's body with them as its values.
use Rattle.std.proofs.Common.{Bor, ◌≡◌, ℕ, zero, suc, ◌<◌, ◌≤◌, List, [], ◌∷◌, ◌++◌, ℤ, map, drop, length, slice_index_or, Some, Ok, Err, Result, sym, ap, ap₂, ◌∙◌, subst, arith}
use Rattle.std.proofs.lemmas.List.{length-take-le}
use Rattle.std.proofs.Math.Seq.{drop-append_seam}
use Rattle.std.specs.List.{slice_get}
use Rattle.language.specs.declared.part.Part.{Part}
use Rattle.language.specs.Drafts.{marked}
use Rattle.language.specs.Tree as Tree
use Rattle.language.specs.Tree.{Expr, Args, shape, lent_of, no_expr}
use Rattle.language.specs.Running.{Run, ◌>>=◌, enter, part_at, run, node}
use Rattle.pile.specs.Entries.{entries, room}
use Rattle.pile.specs.declared.Pile.{Pile}
use Rattle.records.specs.declared.node.Node.TheVariants.{Call}
use Rattle.records.specs.declared.entry.Entry.{Entry}
use Rattle.records.specs.Columns.{tables_in}
use Rattle.records.specs.Inverting.{CallStands}
use Rattle.records.proofs.Inverting.{expr_as}
use Rattle.running.specs.declared.program.Stop.{Stop}
use Rattle.running.specs.declared.runner.Frame.{Frame}
use Rattle.running.specs.declared.runner.Runner.{Runner}
use Rattle.running.specs.Ending.{Ends, Tame, Apart, state_of, program_of}
use Rattle.running.specs.Evaluating.{frame_of, node_in, values_in, NodeRuns, Runs, Evals, ArgsRun, ArgsGive, Giving, Short}
use Rattle.running.specs.Standing.{Few, Body, ArgsPlaced, all_entries}
use Rattle.running.proofs.Ending.{ends-stop, ends-then, tame-first, tame-rest}
use Rattle.running.proofs.Bodies.{body_below, body_runs, body_stop, body_ends}

-- the parts that are lent are short as those they are lent from
short_map : (ps : List Part) → Short ps → (ls : List ℕ) (l : ℕ) → (part_at (map (part_at ps) ls) l).length < 2147483648
short_map ps s [] l = omega arith
short_map ps s (k ∷ ls) zero = s.short k
short_map ps s (k ∷ ls) (suc l) = short_map ps s ls l

pub short_parts : (ps qs : List Part) (ls : List ℕ) → Short ps → qs ≡ [] ++ map (part_at ps) ls → Short qs
short_parts ps qs ls s e = record { short = λ l. subst (λ (qs : List Part). (part_at qs l).length < 2147483648) (sym e) (short_map ps s ls l) }

module _ (f : Frame) (left at : ℕ) (w : Runner) (g : NodeRuns f left at w) (p rule args : ℕ) (n : slice_get (tables_in f.program.records.now).nodes at ≡ Some (Call p rule args)) where
  call_is : CallStands (tables_in f.program.records.now) g.placed.lo p rule args at g.placed.tree
  call_is = expr_as (tables_in f.program.records.now) g.placed.lo at g.placed.tree _ g.placed.stands n

  pub args_below : args < at
  args_below = call_is.args_below

  call_few : Few (length g.book.bodies) (Tree.call p rule call_is.args)
  call_few = subst (Few (length g.book.bodies)) call_is.is g.placed.few

  pub call_body : Body f.program.records.now (length g.book.bodies) rule (slice_index_or g.book.bodies rule no_expr)
  call_body = g.book.stand rule call_few.0

  args_placed : ArgsPlaced f.program.records.now g.book args
  args_placed = record { lo = g.placed.lo; trees = call_is.args; stand = call_is.args_stand; few = call_few.1.1 }

  abbrev lists : List Part
  lists = map (part_at f.parts.now) (lent_of args_placed.trees)

  abbrev entered : List ℤ → Run ℤ
  entered xs = enter (program_of f.program g.book.bodies) (run (program_of f.program g.book.bodies) (marked f.program.dropped.now) left) rule xs lists

  call_tame : Tame ((values_in f g.book left w args_placed.trees >>= entered) (state_of w))
  unfolding node args_placed
  call_tame = subst (λ e. Tame (node_in f g.book left w e (state_of w))) call_is.is g.tame

  call_as : (r : Result ℤ Stop) (z : Runner) → Ends r ((values_in f g.book left w args_placed.trees >>= entered) (state_of w)) w z → Ends r (node_in f g.book left w g.placed.tree (state_of w)) w z
  unfolding node args_placed
  call_as r z x = subst (λ e. Ends r (node_in f g.book left w e (state_of w)) w z) (sym call_is.is) x

  module _ (given : Pile ℤ) (lent : Pile Part) (none : entries given ≡ []) (none_lent : entries lent ≡ []) (given_room : room given ≡ 12) (lent_room : room lent ≡ 12) where
    pub call_args : ArgsRun f left args given lent w
    unfolding args_placed
    call_args = record {
      book = g.book;
      placed = args_placed;
      tame = tame-first (values_in f g.book left w args_placed.trees) entered (state_of w) call_tame;
      given_room = (let a = ap length none in let b = call_few.1.0 in omega (arith, a, b, given_room));
      lent_room = (let a = ap length none_lent in let b = call_few.1.0 in omega (arith, a, b, lent_room));
    }

    pub call_stop : (e : Stop) (given2 : Pile ℤ) (lent2 : Pile Part) (v : Runner) → ArgsGive (Err e) f left args given given2 lent lent2 w v → Ends (Err e) (node_in f g.book left w g.placed.tree (state_of w)) w v
    unfolding call_args
    call_stop e given2 lent2 v x = call_as (Err e) v (ends-stop (values_in f g.book left w args_placed.trees) entered e w v (x call_args))

    -- the arguments were given, and joined the values in force
    module _ (given2 : Pile ℤ) (lent2 : Pile Part) (v h : Runner) (x : ArgsGive (Ok tt) f left args given given2 lent lent2 w v) (base : ℕ) (be : base ≡ length (entries v.values.now)) (he : entries h.values.now ≡ entries v.values.now ++ entries given2) (ha : Apart v h) (ps : Bor (List Part)) (pe : ps.now ≡ entries lent2) where
      giving : Giving (values_in f g.book left w args_placed.trees (state_of w)) lists (entries given) (entries given2) (entries lent) (entries lent2) w v
      unfolding call_args
      giving = x call_args

      abbrev xs : List ℤ
      xs = giving.values

      abbrev F : Frame
      F = record { program = f.program; base = base; parts = ps }

      given_is : entries given2 ≡ xs
      given_is = giving.joined ∙ ap (λ ys. ys ++ xs) none

      parts_are : ps.now ≡ lists
      parts_are = pe ∙ giving.parts_joined ∙ ap (λ qs. qs ++ lists) none_lent

      pub call_short : Short f.parts.now → Short ps.now
      call_short s = short_parts f.parts.now ps.now (lent_of args_placed.trees) s parts_are

      frame_is : record { values = xs; parts = lists } ≡ frame_of F h
      frame_is =
          ap₂ (λ vs qs. record { values = vs; parts = qs })
          (sym (ap₂ drop be he ∙ drop-append_seam (entries v.values.now) (entries given2) ∙ given_is))
          (sym parts_are)

      entered_tame : Tame (entered xs (state_of v))
      entered_tame = tame-rest (values_in f g.book left w args_placed.trees) entered xs w v call_tame giving.ends

      module _ (e : Entry) (found : slice_get (all_entries f.program.records.now) rule ≡ Some e) where
        pub callee_below : e.body < 16384
        callee_below = body_below F left g.book rule call_few.0 e found xs lists v h frame_is ha.state ha.checks entered_tame

        pub callee_runs : Runs F left e.body h
        callee_runs = body_runs F left g.book rule call_few.0 e found xs lists v h frame_is ha.state ha.checks entered_tame

        through : (r : Result ℤ Stop) (z : Runner) → Ends r (entered xs (state_of v)) v z → Ends r (node_in f g.book left w g.placed.tree (state_of w)) w z
        through r z y = call_as r z (ends-then (values_in f g.book left w args_placed.trees) entered xs r w v z giving.ends y)

        pub callee_stop : (s : Stop) (z : Runner) → Evals (Err s) F left e.body h z → Ends (Err s) (node_in f g.book left w g.placed.tree (state_of w)) w z
        callee_stop s z y = through (Err s) z (body_stop F left g.book rule call_few.0 e found xs lists v h frame_is ha.state ha.checks entered_tame s z y)

        pub callee_ends : (y : ℤ) (z u : Runner) → Evals (Ok y) F left e.body h z → state_of u ≡ state_of z → u.checks ≡ z.checks → Ends (Ok y) (node_in f g.book left w g.placed.tree (state_of w)) w u
        callee_ends y z u ez s c = through (Ok y) u (body_ends F left g.book rule call_few.0 e found xs lists v h frame_is ha.state ha.checks entered_tame y z u ez s c)

-- a pile has no more entries than room
pub no_more : {A : Type 0} → (p : Pile A) → p.len ≤ length p.slots.now → length (entries p) ≤ room p
no_more p h = let l = length-take-le p.len p.slots.now h in omega (arith, l, h)
