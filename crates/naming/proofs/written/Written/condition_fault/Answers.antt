use Rattle.naming.proofs.Smallest.{least-both}
use Rattle.naming.proofs.written.Written.condition_fault.Goals as goal

pub returns : goal.returns
returns c = least-both _ _ c.earlier.ensures c.side_fault.ensures c.side_fault-2.ensures
