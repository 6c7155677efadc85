-- Tables that are being laid: their columns, the records that they lie in, and how many obligations stand beside them.
use Rattle.std.specs.Prelude.{ℕ, List}
use Rattle.records.specs.declared.laid.Laid.{Laid}
use Rattle.records.specs.declared.record.Record.{Record}
use Rattle.records.specs.Columns.{Columns, columns_by}

abbrev pub columns_of : Laid → Columns
columns_of t = columns_by t.records.now t.counts t.records.ghost_name

abbrev pub records_of : Laid → List Record
records_of t = t.records.now

abbrev pub owed_of : Laid → ℕ
owed_of t = t.owed
