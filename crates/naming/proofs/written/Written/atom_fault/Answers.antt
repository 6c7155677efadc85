use Rattle.std.proofs.Common.{sym}
use Rattle.naming.proofs.Slots.{least-else}
use Rattle.naming.proofs.written.Written.atom_fault.Goals as goal

pub returns-else-is : goal.returns-else-is
returns-else-is c = least-else _ _ (sym c.if-is.ensures)
