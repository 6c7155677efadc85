use Rattle.std.proofs.Common.{arith}
use Rattle.std.proofs.lemmas.Int.{ints}
use Rattle.rows.proofs.Limiting.{coef-near}
use Rattle.provers.proofs.begin.negated_coef.Goals as goal

pub overflow_sub-result : goal.overflow_sub-result
overflow_sub-result c =
    let n = coef-near c.args.row.now c.args.j in
    let e = c.coef.ensures in
    omega (arith, ints)

pub returns : goal.returns
returns c =
    let n = coef-near c.args.row.now c.args.j in
    let e = c.coef.ensures in
    omega (arith, ints)
