use Rattle.std.proofs.Common.{take, ap, ◌∙◌, arith}
use Rattle.naming.proofs.Begins.{take_min}
use Rattle.naming.proofs.reading.front.Goals as goal

pub returns : goal.returns
returns g c = ap (λ m. take m c.args.xs.now) (omega arith) ∙ take_min c.args.xs.now 16384
