-- The same as meets, by a test that computes.
use Rattle.std.specs.Prelude.{Bool, true, not, ◌&&◌, List, [], ◌∷◌, ℤ, int_le}
use Rattle.ints.specs.Tests.{eq_z}
use Rattle.rows.specs.declared.row.Row.{Row}
use Rattle.rows.specs.declared.row.Kind.{Kind}
use Rattle.rows.specs.declared.row.Kind.TheVariants.{AtMost, Unequal}
use Rattle.rows.specs.Meaning.{Assignment, value}

abbrev pub holds : Kind → ℤ → ℤ → Bool
holds AtMost sum bound = int_le sum bound
holds Unequal sum bound = not (eq_z sum bound)

abbrev pub meets : Assignment → Row → Bool
meets q r = holds r.kind (value r q) r.bound

unfoldable pub meets_all : Assignment → List Row → Bool
meets_all q [] = true
meets_all q (r ∷ rs) = meets q r && meets_all q rs
