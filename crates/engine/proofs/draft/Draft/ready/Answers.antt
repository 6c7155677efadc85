use Rattle.std.proofs.Common.{Some, None}
use Rattle.engine.proofs.Ready.{ready_is, ready_promised}
use Rattle.engine.proofs.draft.Draft.ready.Goals as goal

pub returns-in-Some : goal.returns-in-Some
returns-in-Some c = record { value = ready_is c.args.self.now (Some c.in-Some.refusal) c.in-Some.ensures; promised = ready_promised c.args.self.now (Some c.in-Some.refusal) c.in-Some.ensures }

pub returns-in-None : goal.returns-in-None
returns-in-None c = record { value = ready_is c.args.self.now None c.in-None.ensures; promised = ready_promised c.args.self.now None c.in-None.ensures }
