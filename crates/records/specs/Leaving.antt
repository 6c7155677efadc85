-- The entries of a stretch of a table that are still to come.
use Rattle.std.specs.Prelude.{List}
use Rattle.records.specs.declared.entries.Entries.{Entries}
use Rattle.records.specs.Columns.{Column, Columns}
use Rattle.records.specs.Laying.{columns_of}
use Rattle.records.specs.Tables.{stretch}

abbrev pub left_of : {E : Type 0} → (Columns → Column E) → Entries E → List E
left_of table s = stretch (table (columns_of s.tables.now)).entries s.left.from s.left.to
