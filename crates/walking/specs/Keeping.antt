-- What stays as obligations are owed and facts taken.
use Rattle.std.specs.Prelude.{◌≡◌, ℕ}
use Rattle.pile.specs.Entries.{room}
use Rattle.records.specs.declared.node.Node.{Node}
use Rattle.records.specs.Columns.{Columns, replaced}
use Rattle.walking.specs.declared.debts.Debts.{Debts}
use Rattle.walking.specs.declared.facts.Facts.{Facts}

-- the columns with another node at a position
abbrev pub with_node : Columns → ℕ → Node → Columns
with_node c at node = record c { nodes = replaced c.nodes at node }

-- the tables are those of the same lender
pub record DebtsKept (old new : Debts) : Type 0 where
  pub lender : new.tables.ghost_name ≡ old.tables.ghost_name

-- the pile has the same room
pub record FactsKept (old new : Facts) : Type 0 where
  pub room : room new.pile ≡ room old.pile
