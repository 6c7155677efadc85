use Rattle.std.proofs.Common.{◌≡◌, ◌*◌, ◌*ℤ◌}
use Rattle.ints.specs.Sums.{sum_to, Near}
use Rattle.rows.specs.Meaning.{coef}
use Rattle.domains.specs.Modes.{at}
use Rattle.domains.proofs.modes.value_at.Given as goal

abbrev pub invariant-loop-j : goal.invariant-loop-j
invariant-loop-j l = (l.sum ≡ sum_to (λ k. coef l.row k *ℤ at l.point k) l.j) × Near (1020000000 * l.j) l.sum
