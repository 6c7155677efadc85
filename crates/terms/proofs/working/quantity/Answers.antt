use Rattle.std.proofs.Common.{pos, ap}
use Rattle.language.specs.Terms.{quantity}
use Rattle.terms.specs.Narrow.{term_of}
use Rattle.terms.proofs.Units.{unit-below, unit-past}
use Rattle.terms.proofs.working.quantity.Goals as goal

pub returns-then-n-lt-QUANTITIES : goal.returns-then-n-lt-QUANTITIES
unfolding quantity
returns-then-n-lt-QUANTITIES c = ap (term_of (pos 0)) (unit-below c.args.n c.if-n-lt-QUANTITIES.true)

pub returns-else-n-lt-QUANTITIES : goal.returns-else-n-lt-QUANTITIES
unfolding quantity
returns-else-n-lt-QUANTITIES c = ap (term_of (pos 0)) (unit-past c.args.n c.if-n-lt-QUANTITIES.false)
