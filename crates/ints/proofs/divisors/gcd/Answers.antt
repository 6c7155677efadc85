use Rattle.std.proofs.Common.{sym, ◌∙◌}
use Rattle.ints.proofs.Euclid.{gcd-step, gcd-none}
use Rattle.ints.proofs.divisors.gcd.Goals as goal

pub loop-y-preserved : goal.loop-y-preserved
loop-y-preserved c = sym (gcd-step c.loop-y.x c.loop-y.y c.loop-y-test.true) ∙ c.loop-y.invariant

pub returns : goal.returns
returns c = sym (gcd-none c.loop-y.x c.loop-y.y c.loop-y-test.false) ∙ c.loop-y.invariant
