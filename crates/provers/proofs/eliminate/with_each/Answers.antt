use Rattle.std.proofs.Common.{sym, ◌∙◌}
use Rattle.provers.proofs.Pushing.{unanswered, turn_on, turn-off, turn_end}
use Rattle.provers.proofs.eliminate.with_each.Goals as goal

pub returns-in_err-step : goal.returns-in_err-step
returns-in_err-step g c = λ gives puts.
    unanswered c.from_residual.result c.step.new.arg3.items c.from_residual.ensures.0
    ∙ sym (c.loop-row.invariant gives puts ∙ turn-off gives c.loop-row.into.items c.args.rows.now c.loop-row.row-index c.loop-row-test.true (puts _ _ _ _ c.in_err-step.ensures))

pub loop-row-preserved : goal.loop-row-preserved
loop-row-preserved g c = λ gives puts.
    c.loop-row.invariant gives puts ∙ turn_on gives c.loop-row.into.items c.args.rows.now c.loop-row.row-index c.step.new.arg3.items c.loop-row-test.true (puts _ _ _ _ c.in_ok-step.ensures)

pub returns : goal.returns
returns g c = λ gives puts. sym (c.loop-row.invariant gives puts ∙ turn_end gives c.loop-row.into.items c.args.rows.now c.loop-row.row-index c.loop-row-test.false)
