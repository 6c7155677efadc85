use Rattle.std.proofs.Common.{◌≡◌}
use Rattle.ints.specs.Divisors.{gcd_of}
use Rattle.ints.proofs.divisors.gcd.Given as goal

abbrev pub invariant-loop-y : goal.invariant-loop-y
invariant-loop-y l = gcd_of l.x l.y ≡ gcd_of l.a l.b

abbrev pub decreases-loop-y : goal.decreases-loop-y
decreases-loop-y l = l.y
