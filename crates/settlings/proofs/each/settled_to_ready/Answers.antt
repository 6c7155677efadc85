use Rattle.std.proofs.Common.{w32}
use Rattle.std.proofs.lemmas.Int.{to_z-of_z}
use Rattle.settlings.proofs.Going.{ready_after}
use Rattle.settlings.proofs.each.settled_to_ready.Goals as goal

pub returns : goal.returns
returns g c = λ rules reads. ready_after _ _ _ _ _ (to_z-of_z w32 c.args.low c.ranges.low) (to_z-of_z w32 c.args.high c.ranges.high) _ _ _ _ rules c.make-draft.ensures c.settle_each.ensures c.ready.ensures.promised reads
