use Rattle.provers.proofs.Pushing.{pushed}
use Rattle.provers.proofs.worklist.push.Goals as goal

pub returns : goal.returns
returns c = pushed c.try_push.result c.map_err.result c.args.into.now.items c.try_push.new.self.items c.args.row c.map_err.ensures.variant c.try_push.ensures.variant c.try_push.ensures.ok
