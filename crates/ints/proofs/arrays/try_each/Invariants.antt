use Rattle.std.proofs.Common.{◌≡◌, ℕ, ◌<◌, length, get_or, Ok}
use Rattle.ints.proofs.arrays.try_each.Given as goal

abbrev pub invariant-loop-i : goal.invariant-loop-i
invariant-loop-i g l = (length l.ys ≡ length l.xs) × ((k : ℕ) (x : _) (y : _) → k < l.i → goal.F-post g l.f (get_or l.xs k x) (Ok (get_or l.ys k y)))
