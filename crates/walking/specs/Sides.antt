-- What adding up a side asks of the terms and items at hand.
use Rattle.std.specs.Prelude.{◌≡◌, ℕ, true, List, Some, Option}
use Rattle.std.specs.List.{AllByRecursion, slice_get}
use Rattle.rows.specs.declared.row.Row.{Row}
use Rattle.language.specs.declared.term.Term.{Term}
use Rattle.language.specs.Terms.{fits_term}
use Rattle.language.specs.Comparing.{condition_rows, conditions_rows}
use Rattle.records.specs.declared.condition.Item.{Item}
use Rattle.records.specs.declared.condition.Condition.{Condition}
use Rattle.records.specs.Tables.{condition_in, conditions_in}
use Rattle.records.specs.Columns.{Columns}
use Rattle.terms.specs.declared.rowlist.Rows.{Rows}
use Rattle.terms.specs.Listed.{list_of}

-- terms within their limits
abbrev pub Fitting : List Term → Type 0
Fitting ts = AllByRecursion (λ t. fits_term t ≡ true) ts

-- the rows are those of the condition at a position, if there is one
abbrev pub RowsAt : Rows → List Term → Term → List Item → List Condition → ℕ → Type 0
RowsAt rows ts r items conditions at = (c : Condition) → slice_get conditions at ≡ Some c → list_of rows ≡ condition_rows ts r (condition_in items c)

-- the rows of the conditions from one position up to another
unfoldable pub rows_in : Columns → List Term → Term → ℕ → ℕ → List (Option Row)
rows_in c ts r from to = conditions_rows ts r (conditions_in c.items.entries c.conditions.entries from to)
