-- The tables of a sheet as they lie in records: each is a column, whose entries lie four to a record.
use Rattle.std.specs.Prelude.{ℕ, zero, suc, ◌*◌, ◌/◌, ◌%◌, List, [], ◌∷◌, ◌++◌, length, pos, None, slice_index_or, slice_set}
use Rattle.records.specs.declared.node.Node.{Node}
use Rattle.records.specs.declared.node.Node.TheVariants.{Blank}
use Rattle.records.specs.declared.condition.Atom.TheVariants.{One}
use Rattle.records.specs.declared.condition.Item.{Item}
use Rattle.records.specs.declared.condition.Condition.{Condition}
use Rattle.records.specs.declared.stretch.Stretch.{Stretch}
use Rattle.records.specs.declared.entry.Param.{Param}
use Rattle.records.specs.declared.entry.Param.TheVariants.{Number}
use Rattle.records.specs.declared.entry.Entry.{Entry}
use Rattle.records.specs.declared.counts.Counts.{Counts}
use Rattle.records.specs.declared.record.Record.{Record}
use Rattle.language.specs.declared.comparison.Comparison.TheVariants.{Less}
use Rattle.records.specs.Tables.{Tables}
use Rattle.records.specs.Fours.{four}

-- what a slot holds in which nothing lies
abbrev pub no_item : Item
no_item = record { factor = pos 0; atom = One }

abbrev pub no_stretch : Stretch
no_stretch = record { from = 0; to = 0 }

abbrev pub no_condition : Condition
no_condition = record { place = 0; comparison = Less; left = no_stretch; right = no_stretch }

abbrev pub no_entry : Entry
no_entry = record { place = 0; params = no_stretch; needs = no_stretch; gives = no_stretch; body = 0 }

-- a record in which nothing lies
unfoldable pub zero_record : Record
zero_record = record {
  nodes = four Blank;
  conditions = four no_condition;
  items = four no_item;
  params = four Number;
  entries = four no_entry;
  owed = None;
  row = None;
}

-- the slot with this number of a column, four to a record
unfoldable pub slot_at : {A : Type 0} → (Record → List A) → A → List Record → ℕ → A
slot_at part none records k = slice_index_or (part (slice_index_or records (k / 4) zero_record)) (k % 4) none

-- the first slots of a column
unfoldable pub first_slots : {A : Type 0} → (Record → List A) → A → List Record → ℕ → List A
first_slots part none records zero = []
first_slots part none records (suc n) = first_slots part none records n ++ slot_at part none records n ∷ []

-- the entries of a column, and how many it can hold
pub record Column (A : Type 0) : Type 0 where
  pub entries : List A
  pub room : ℕ

-- the five columns, and whose records they lie in
pub record Columns : Type 0 where
  pub nodes : Column Node
  pub conditions : Column Condition
  pub items : Column Item
  pub params : Column Param
  pub entries : Column Entry
  pub lender : ℕ

abbrev pub column : {A : Type 0} → (Record → List A) → A → List Record → ℕ → Column A
column part none records n = record { entries = first_slots part none records n; room = 4 * length records }

-- the columns of tables with so many entries each
abbrev pub columns_by : List Record → Counts → ℕ → Columns
columns_by records k lender = record {
  nodes = column (λ r. r.nodes) Blank records k.nodes;
  conditions = column (λ r. r.conditions) no_condition records k.conditions;
  items = column (λ r. r.items) no_item records k.items;
  params = column (λ r. r.params) Number records k.params;
  entries = column (λ r. r.entries) no_entry records k.entries;
  lender = lender;
}

-- columns with nothing in them
abbrev pub fresh : ℕ → ℕ → Columns
fresh records lender = record {
  nodes = record { entries = []; room = 4 * records };
  conditions = record { entries = []; room = 4 * records };
  items = record { entries = []; room = 4 * records };
  params = record { entries = []; room = 4 * records };
  entries = record { entries = []; room = 4 * records };
  lender = lender;
}

-- what was put on top of a column
abbrev pub pushed : {A : Type 0} → Column A → A → Column A
pushed c x = record { entries = c.entries ++ x ∷ []; room = c.room }

-- an entry of a column is replaced; past the last nothing changes
abbrev pub replaced : {A : Type 0} → Column A → ℕ → A → Column A
replaced c at x = record { entries = slice_set c.entries at x; room = c.room }

abbrev pub tables_by : Columns → Tables
tables_by c = record { nodes = c.nodes.entries; conditions = c.conditions.entries; items = c.items.entries }

-- what lies in records: all slots of the tables that trees are made of, those of the parameters, and the first entries
abbrev pub tables_in : List Record → Tables
tables_in records = record {
  nodes = first_slots (λ r. r.nodes) Blank records (4 * length records);
  conditions = first_slots (λ r. r.conditions) no_condition records (4 * length records);
  items = first_slots (λ r. r.items) no_item records (4 * length records);
}

abbrev pub params_in : List Record → List Param
params_in records = first_slots (λ r. r.params) Number records (4 * length records)

abbrev pub entries_in : List Record → ℕ → List Entry
entries_in records n = first_slots (λ r. r.entries) no_entry records n
