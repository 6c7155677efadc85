use Rattle.settlings.proofs.Going.{stays, one_more}
use Rattle.settlings.proofs.each.settle_each.Goals as goal

pub loop-number-init : goal.loop-number-init
loop-number-init g c = λ d. stays _ d

pub loop-number-preserved : goal.loop-number-preserved
loop-number-preserved g c = λ d. one_more _ c.loop-number.draft _ d _ (c.loop-number.invariant d) (c.settle.ensures.steps d)
