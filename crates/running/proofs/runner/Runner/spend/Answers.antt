use Rattle.std.proofs.Common.{refl, Ok, Err}
use Rattle.running.proofs.Ending.{ends-quiet}
use Rattle.running.proofs.Steps.{spend-not, spend-one}
use Rattle.running.proofs.runner.Runner.spend.Goals as goal

pub returns-then-self-eq0-clause-ends : goal.returns-then-self-eq0-clause-ends
returns-then-self-eq0-clause-ends c =
    let w = c.args.self.now in
    ends-quiet (Err _) _ w w (spend-not c.args.place w.fuel w.cells.now c.if-self-eq0.true) refl

pub returns-clause-ends : goal.returns-clause-ends
returns-clause-ends c =
    let w = c.args.self.now in
    ends-quiet (Ok tt) _ w _ (spend-one c.args.place w.fuel w.cells.now c.if-self-eq0.false) refl
