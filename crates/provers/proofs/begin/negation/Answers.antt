use Rattle.std.proofs.Common.{◌∙◌, ap₂, arith}
use Rattle.std.proofs.lemmas.Int.{ints}
use Rattle.rows.specs.declared.row.Kind.TheVariants.{AtMost}
use Rattle.rows.specs.Rows.{row_of}
use Rattle.rows.proofs.Limiting.{bound-near}
use Rattle.provers.proofs.begin.negation.Goals as goal

pub overflow_sub-bound : goal.overflow_sub-bound
overflow_sub-bound c =
    let n = bound-near c.args.row.now in
    let e = c.bound.ensures in
    omega (arith, ints)

pub overflow_sub-bound-2 : goal.overflow_sub-bound-2
overflow_sub-bound-2 c =
    let n = bound-near c.args.row.now in
    let e = c.bound.ensures in
    omega (arith, ints)

pub returns : goal.returns
returns c =
    let n = bound-near c.args.row.now in
    let e = c.bound.ensures in
    c.new.ensures ∙ ap₂ (λ cs b. row_of cs b AtMost) c.negated_coefs.ensures (omega (arith, ints))
