use Rattle.std.proofs.Common.{ap, arith}
use Rattle.std.proofs.lemmas.Int.{ints}
use Rattle.rows.proofs.Limiting.{coef-near}
use Rattle.domains.specs.Linear.{negated}
use Rattle.domains.proofs.linear.negated_entry.Goals as goal

pub overflow_sub-result : goal.overflow_sub-result
overflow_sub-result c =
    let n = coef-near c.args.row.now c.in-Coef.j in
    let e = c.coef.ensures in
    omega (arith, ints)

pub returns-in-Coef : goal.returns-in-Coef
returns-in-Coef c =
    let n = coef-near c.args.row.now c.in-Coef.j in
    let e = c.coef.ensures in
    let k = ap (λ k. negated k c.args.row.now) c.in-Coef.is in
    omega (arith, ints)
