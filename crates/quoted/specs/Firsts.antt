-- The layer that shows the domain below only the first facts.
use Rattle.std.specs.Prelude.{ℕ, cond, List, [], ◌∷◌, length, take, nat_le}
use Rattle.rows.specs.declared.row.Row.{Row}
use Rattle.rows.specs.Questions.{well_shaped}
use Rattle.domains.specs.declared.fault.Reason.TheVariants.{Shape, Number}
use Rattle.domains.specs.Faults.{Outcome, fault, raised}

abbrev pub first : (List Row → Row → List ℕ → Outcome) → List Row → Row → List ℕ → Outcome
first below facts goal [] = fault Shape
first below facts goal (n ∷ rest) =
    cond (well_shaped facts goal) (
    cond (nat_le n (length facts)) (raised (below (take n facts) goal rest))
    (fault Number)) (fault Shape)
