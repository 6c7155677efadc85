use Rattle.std.proofs.Common.{refl}
use Rattle.records.specs.Columns.{first_slots}
use Rattle.records.proofs.laid.Laid.over.Goals as goal

pub returns-clause-columns : goal.returns-clause-columns
unfolding first_slots
returns-clause-columns c = let e = c.default-counts.ensures in rw (e.0, e.1.0, e.1.1.0, e.1.1.1.0, e.1.1.1.1) refl
