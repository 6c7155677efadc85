-- What is asked of an expression that is run, and that its run ends as the definition's.
use Rattle.std.specs.Prelude.{◌≡◌, ℕ, ◌+◌, ◌<◌, ◌≤◌, List, ◌++◌, ℤ, map, length, drop, Ok, Err, Result}
use Rattle.language.specs.declared.part.Part.{Part}
use Rattle.language.specs.Tree.{Expr, Args, shape, lent_of}
use Rattle.language.specs.Drafts.{marked}
use Rattle.language.specs.Running as Running
use Rattle.language.specs.Running.{Ran, Run, part_at, run, node, values}
use Rattle.pile.specs.Entries.{entries, room}
use Rattle.pile.specs.declared.Pile.{Pile}
use Rattle.running.specs.declared.program.Stop.{Stop}
use Rattle.running.specs.declared.runner.Frame.{Frame}
use Rattle.running.specs.declared.runner.Runner.{Runner}
use Rattle.running.specs.Ending.{Ends, Tame, state_of, program_of}
use Rattle.running.specs.Standing.{Book, Placed, ArgsPlaced}

-- the values and parts of a frame
abbrev pub frame_of : Frame → Runner → Running.Frame
frame_of f w = record { values = drop f.base (entries w.values.now); parts = f.parts.now }

abbrev pub Library : Frame → Type 0
Library f = Book f.program.records.now

-- the definition's run of an expression, of one that has taken its unit, and of arguments
abbrev pub eval_in : (f : Frame) → Library f → ℕ → Runner → Expr → Run ℤ
eval_in f book left w e = run (program_of f.program book.bodies) (marked f.program.dropped.now) left (frame_of f w) e

abbrev pub node_in : (f : Frame) → Library f → ℕ → Runner → Expr → Run ℤ
node_in f book left w e = node (program_of f.program book.bodies) (marked f.program.dropped.now) (run (program_of f.program book.bodies) (marked f.program.dropped.now) left) (frame_of f w) e

abbrev pub values_in : (f : Frame) → Library f → ℕ → Runner → Args → Run (List ℤ)
values_in f book left w es = values (run (program_of f.program book.bodies) (marked f.program.dropped.now) left) (frame_of f w) es

-- the lengths of a rule's parts are values
pub record Short (parts : List Part) : Type 0 where
  pub short : (l : ℕ) → (part_at parts l).length < 2147483648

-- an expression stands at a position whose run touches nothing outside
pub record Runs (f : Frame) (left at : ℕ) (w : Runner) : Type 0 where
  pub book : Library f
  pub placed : Placed f.program.records.now book at
  pub tame : Tame (eval_in f book left w placed.tree (state_of w))

pub record NodeRuns (f : Frame) (left at : ℕ) (w : Runner) : Type 0 where
  pub book : Library f
  pub placed : Placed f.program.records.now book at
  pub tame : Tame (node_in f book left w placed.tree (state_of w))

pub record ArgsRun (f : Frame) (left at : ℕ) (given : Pile ℤ) (lent : Pile Part) (w : Runner) : Type 0 where
  pub book : Library f
  pub placed : ArgsPlaced f.program.records.now book at
  pub tame : Tame (values_in f book left w placed.trees (state_of w))
  pub given_room : length (entries given) + length (shape placed.trees) ≤ room given
  pub lent_room : length (entries lent) + length (shape placed.trees) ≤ room lent

-- the run ended so
abbrev pub Evals : Result ℤ Stop → Frame → ℕ → ℕ → Runner → Runner → Type 0
Evals result f left at w v = (r : Runs f left at w) → Ends result (eval_in f r.book left w r.placed.tree (state_of w)) w v

abbrev pub NodeEvals : Result ℤ Stop → Frame → ℕ → ℕ → Runner → Runner → Type 0
NodeEvals result f left at w v = (r : NodeRuns f left at w) → Ends result (node_in f r.book left w r.placed.tree (state_of w)) w v

-- the values of arguments joined those given before, and the parts that they lend those lent before
pub record Giving (m : Ran (List ℤ)) (parts : List Part) (given given_after : List ℤ) (lent lent_after : List Part) (w v : Runner) : Type 0 where
  pub values : List ℤ
  pub joined : given_after ≡ given ++ values
  pub parts_joined : lent_after ≡ lent ++ parts
  pub ends : Ends (Ok values) m w v

abbrev pub Gives : Result (Unit {0}) Stop → Ran (List ℤ) → List Part → List ℤ → List ℤ → List Part → List Part → Runner → Runner → Type 0
Gives (Ok u) m parts given given_after lent lent_after w v = Giving m parts given given_after lent lent_after w v
Gives (Err e) m parts given given_after lent lent_after w v = Ends {A = List ℤ} (Err e) m w v

abbrev pub ArgsGive : Result (Unit {0}) Stop → Frame → ℕ → ℕ → Pile ℤ → Pile ℤ → Pile Part → Pile Part → Runner → Runner → Type 0
ArgsGive result f left at given given_after lent lent_after w v =
    (r : ArgsRun f left at given lent w) → Gives result (values_in f r.book left w r.placed.trees (state_of w)) (map (part_at f.parts.now) (lent_of r.placed.trees)) (entries given) (entries given_after) (entries lent) (entries lent_after) w v
