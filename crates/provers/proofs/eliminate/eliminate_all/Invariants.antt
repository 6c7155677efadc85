use Rattle.std.proofs.Common.{◌≡◌, ◌*◌}
use Rattle.provers.specs.Elimination.{without_all, from}
use Rattle.provers.proofs.eliminate.eliminate_all.Given as goal

abbrev pub invariant-loop-turn : goal.invariant-loop-turn
invariant-loop-turn l = without_all (from 0) l.initial.rows.items ≡ without_all (from (2 * l.turn)) l.rows.items
