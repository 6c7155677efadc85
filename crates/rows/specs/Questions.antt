-- The shape of a question: at most 24 facts, and a goal of kind at most.
use Rattle.std.specs.Prelude.{Bool, true, false, ◌&&◌, List, length, nat_le}
use Rattle.rows.specs.declared.row.Row.{Row}
use Rattle.rows.specs.declared.row.Kind.{Kind}
use Rattle.rows.specs.declared.row.Kind.TheVariants.{AtMost, Unequal}

abbrev pub is_at_most : Kind → Bool
is_at_most AtMost = true
is_at_most Unequal = false

abbrev pub well_shaped : List Row → Row → Bool
well_shaped facts goal = nat_le (length facts) 24 && is_at_most goal.kind
