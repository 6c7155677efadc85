use Rattle.std.proofs.Common.{arith}
use Rattle.letters.proofs.Running.{digit-range, value-front, value-step}
use Rattle.letters.proofs.cutting.decimal.Goals as goal

pub overflow_mul-number : goal.overflow_mul-number
overflow_mul-number c = let h = value-front c.args.digits.now c.loop-digit.digit-index (omega arith) c.requires.all in omega (arith, c.loop-digit.invariant)

pub overflow_add-number : goal.overflow_add-number
overflow_add-number c =
    let h = value-front c.args.digits.now c.loop-digit.digit-index (omega arith) c.requires.all in
    let d = digit-range c.args.digits.now c.loop-digit.digit-index c.loop-digit-test.true c.requires.all in
    omega (arith, c.loop-digit.invariant)

pub loop-digit-preserved : goal.loop-digit-preserved
loop-digit-preserved c = let s = value-step c.args.digits.now c.loop-digit.digit-index c.loop-digit-test.true c.requires.all in omega (arith, c.loop-digit.invariant)
