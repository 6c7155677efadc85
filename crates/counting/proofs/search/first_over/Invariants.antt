use Rattle.std.proofs.Common.{ℕ, ◌-◌, ◌<◌, ◌≤◌}
use Rattle.records.specs.Laying.{columns_of}
use Rattle.counting.specs.Counts.{placed_up_to}
use Rattle.counting.proofs.search.first_over.Given as goal

abbrev pub invariant-loop-low : goal.invariant-loop-low
invariant-loop-low g l =
    (l.low ≤ l.high) × (l.high ≤ l.bytes) × (l.limit < placed_up_to g.E.Placed.place (g.E.Tabled.table (columns_of l.tables)).entries l.high)
    × ((q : ℕ) → q < l.low → placed_up_to g.E.Placed.place (g.E.Tabled.table (columns_of l.tables)).entries q ≤ l.limit)

abbrev pub decreases-loop-low : goal.decreases-loop-low
decreases-loop-low g l = l.high - l.low
