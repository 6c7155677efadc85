use Rattle.std.proofs.Common.{◌≡◌, min, length, arith}
use Rattle.showing.proofs.Lining.{stands-so}
use Rattle.showing.proofs.line.line_at.Goals as goal

pub returns-clause-law : goal.returns-clause-law
returns-clause-law c = let h : c.min-place.result ≡ min c.args.place (length c.args.text.now) = omega arith in stands-so c.args.text.now c.args.place _ cc
