-- The quoting domain: the goal is one of the facts, with a bound no smaller.
use Rattle.std.specs.Prelude.{ℕ, Bool, true, false, cond, ◌&&◌, List, [], ◌∷◌, ℤ, Some, None, Ok, Option, int_le}
use Rattle.std.specs.List.{slice_get}
use Rattle.rows.specs.declared.row.Row.{Row}
use Rattle.rows.specs.Questions.{is_at_most, well_shaped}
use Rattle.domains.specs.declared.fault.Reason.TheVariants.{Shape, Number, Kind, Sum}
use Rattle.domains.specs.Faults.{Outcome, fault}

abbrev pub same_numbers : List ℤ → List ℤ → Bool
same_numbers [] [] = true
same_numbers [] (y ∷ ys) = false
same_numbers (x ∷ xs) [] = false
same_numbers (x ∷ xs) (y ∷ ys) = (int_le x y && int_le y x) && same_numbers xs ys

abbrev pub looser : Row → Row → Bool
looser fact goal = same_numbers fact.coefs goal.coefs && int_le fact.bound goal.bound

abbrev pub quote_of : Row → Row → Outcome
quote_of fact goal = cond (is_at_most fact.kind) (cond (looser fact goal) (Ok tt) (fault Sum)) (fault Kind)

abbrev pub quote_at : Option Row → Row → Outcome
quote_at None goal = fault Number
quote_at (Some fact) goal = quote_of fact goal

abbrev pub quoted : List Row → Row → List ℕ → Outcome
quoted facts goal [] = fault Shape
quoted facts goal (k ∷ []) = cond (well_shaped facts goal) (quote_at (slice_get facts k) goal) (fault Shape)
quoted facts goal (k ∷ l ∷ rest) = fault Shape
