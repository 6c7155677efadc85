use Rattle.std.proofs.Common.{refl, arith}
use Rattle.walking.proofs.Knowings.{none_left, some_left}
use Rattle.walking.proofs.quantities.fresh.Goals as goal

pub returns-then-here-ge-QUANTITIES : goal.returns-then-here-ge-QUANTITIES
returns-then-here-ge-QUANTITIES c = (none_left c.args.place c.args.next.now c.if-here-ge-QUANTITIES.true, refl)

pub returns : goal.returns
returns c = (c.quantity.ensures, omega arith, some_left c.args.place c.args.next.now c.if-here-ge-QUANTITIES.false)
