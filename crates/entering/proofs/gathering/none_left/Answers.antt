use Rattle.std.proofs.Common.{arith}
use Rattle.entering.proofs.Gathers.{number_left, part_left, all_taken}
use Rattle.entering.proofs.gathering.none_left.Goals as goal

pub returns-then-numbers-gt0 : goal.returns-then-numbers-gt0
returns-then-numbers-gt0 c old = number_left c.args.numbers.now c.args.parts.now old c.if-numbers-gt0.true

pub returns-then-parts-gt0 : goal.returns-then-parts-gt0
returns-then-parts-gt0 c old = part_left c.args.numbers.now c.args.parts.now old c.if-parts-gt0.true

pub returns : goal.returns
returns c old = all_taken c.args.numbers.now c.args.parts.now old (omega (arith, c.if-numbers-gt0.false)) (omega (arith, c.if-parts-gt0.false))
