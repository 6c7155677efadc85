use Rattle.std.proofs.Common.{refl}
use Rattle.records.specs.Columns.{zero_record}
use Rattle.records.proofs.record.Record.zero.Goals as goal

pub returns : goal.returns
unfolding zero_record
returns c = refl
