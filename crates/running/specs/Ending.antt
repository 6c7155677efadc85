-- Where a run stands, and that it ended as the definition's run does.
use Rattle.std.specs.Prelude.{◌≡◌, ℕ, ◌+◌, List, ℤ, Some, None, Ok, Err, Option, Result, length, slice_set}
use Rattle.language.specs.Tree.{Site, Expr}
use Rattle.language.specs.Running.{Program, State, Outcome, done, stop, wild, Ran, made_in}
use Rattle.pile.specs.Entries.{entries, room}
use Rattle.running.specs.declared.program.Program as Code
use Rattle.running.specs.declared.program.Stop.{Stop}
use Rattle.running.specs.declared.runner.Runner.{Runner}
use Rattle.running.specs.declared.runner.Site as Sites

-- what the definition's run changes
abbrev pub state_of : Runner → State
state_of w = record { fuel = w.fuel; cells = w.cells.now }

-- what the definition runs
abbrev pub program_of : Code.Program → List Expr → Program
program_of p bodies = record { low = p.low; high = p.high; bodies = bodies }

-- a site of the code, as one of the tree
abbrev pub site_of : Sites.Site → Site
site_of s = record { place = s.place; number = s.number; list = s.list }

-- what a result says of a run that ends in a state
abbrev pub outcome_of : {A : Type 0} → Result A Stop → State → Outcome A
outcome_of (Ok x) s = done x s
outcome_of (Err e) s = stop e.kind e.place s

-- a run of the definition ended with this result, and the checks that it made were counted
pub record Ends {A : Type 0} (r : Result A Stop) (m : Ran A) (w v : Runner) : Type 0 where
  pub outcome : m.outcome ≡ outcome_of r (state_of v)
  pub checks : v.checks ≡ w.checks + length (made_in m.log)

-- it touches nothing that lies outside
pub record Tame {A : Type 0} (m : Ran A) : Type 0 where
  pub tame : m.outcome ≡ wild → ⊥

-- the same parts are lent
pub record Lent (w v : Runner) : Type 0 where
  pub cells : v.cells.ghost_name ≡ w.cells.ghost_name
  pub values : v.values.ghost_name ≡ w.values.ghost_name
  pub room : room v.values.now ≡ room w.values.now

-- the values in force are the same
pub record Beside (w v : Runner) : Type 0 where
  pub lent : Lent w v
  pub values : entries v.values.now ≡ entries w.values.now

-- all but the values is the same
pub record Apart (w v : Runner) : Type 0 where
  pub lent : Lent w v
  pub state : state_of v ≡ state_of w
  pub checks : v.checks ≡ w.checks

-- there is such a cell
abbrev pub HasCell : Option ℕ → Type 0
HasCell None = ⊥
HasCell (Some a) = Unit {0}

-- the cells, with a value written where there is one
abbrev pub written : List ℤ → ℕ → Option ℤ → List ℤ
written cells a None = cells
written cells a (Some v) = slice_set cells a v
