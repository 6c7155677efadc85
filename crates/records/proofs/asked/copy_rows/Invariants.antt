use Rattle.records.proofs.Asking.{CopiedTo}
use Rattle.records.proofs.asked.copy_rows.Given as goal

abbrev pub invariant-loop-j : goal.invariant-loop-j
invariant-loop-j l = CopiedTo l.records l.base l.into l.j
