-- The rows of a comparison as a list.
use Rattle.std.specs.Prelude.{List, [], ◌∷◌, Some, None, Option}
use Rattle.rows.specs.declared.row.Row.{Row}
use Rattle.terms.specs.declared.rowlist.Rows.{Rows}
use Rattle.terms.specs.declared.rowlist.Rows.TheVariants.{One, Two}
use Rattle.terms.specs.declared.rowlist.RowsLeft.{RowsLeft}

abbrev pub list_of : Rows → List (Option Row)
list_of (One o) = o ∷ []
list_of (Two o p) = o ∷ p ∷ []

abbrev list_if : Option Rows → List (Option Row)
list_if None = []
list_if (Some rows) = list_of rows

-- the rows that are still to come
abbrev pub left_of : RowsLeft → List (Option Row)
left_of s = list_if s.rows
