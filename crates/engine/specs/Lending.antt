-- Room for the facts of a question.
use Rattle.std.specs.Prelude.{◌≡◌, List, replicate, pos, Some}
use Rattle.rows.specs.declared.row.Row.{Row}
use Rattle.rows.specs.declared.row.Kind.TheVariants.{AtMost}
use Rattle.rows.specs.Rows.{row_of}

-- each of the rows is 0 ≤ 0
pub record Even (rows : List Row) : Type 0 where
  pub row : Row
  pub says : row_of (replicate 16 (pos 0)) (pos 0) AtMost ≡ Some row
  pub all : rows ≡ replicate 24 row
