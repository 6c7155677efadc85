use Rattle.std.proofs.Common.{◌≡◌, ◌-◌, ◌*◌, pos, ◌+ℤ◌, ◌≤ℤ◌, neg_ℤ}
use Rattle.language.specs.Comparing.{side_value}
use Rattle.records.specs.Columns.{tables_in}
use Rattle.records.specs.Tables.{side_in}
use Rattle.entering.proofs.conditions.side_value.Given as goal

abbrev pub invariant-loop-at : goal.invariant-loop-at
invariant-loop-at l =
    (l.total +ℤ side_value l.values (pos 0) (side_in (tables_in l.records).items l.at l.fn.side.to) ≡ side_value l.values (pos 0) (side_in (tables_in l.records).items l.fn.side.from l.fn.side.to))
    × ((neg_ℤ (pos (9223372036854775808 * (l.at - l.fn.side.from))) ≤ℤ l.total) × (l.total ≤ℤ pos (9223372036854775808 * (l.at - l.fn.side.from))))
