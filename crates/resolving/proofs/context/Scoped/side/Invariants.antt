use Rattle.std.proofs.Common.{◌≡◌, ◌+◌, ◌≤◌, [], map, length}
use Rattle.records.specs.Laying.{columns_of, owed_of}
use Rattle.naming.specs.Reaches.{scope_of}
use Rattle.naming.specs.Sides.{side_left}
use Rattle.records.specs.Tables as lists
use Rattle.naming.specs.Resolving.{item_of}
use Rattle.resolving.proofs.Adding.{Adding}
use Rattle.resolving.specs.Making.{ItemsAlone}
use Rattle.resolving.proofs.context.Scoped.side.Given as goal

abbrev pub invariant-loop-signed : goal.invariant-loop-signed
invariant-loop-signed l = record {
  added : Adding lists.item_of (map (item_of l.self.sheet.text.now (scope_of l.self.sheet l.self.names.now [])) (side_left l.side)) (columns_of l.initial.tables).items.entries (columns_of l.tables).items.entries (map (item_of l.self.sheet.text.now (scope_of l.self.sheet l.self.names.now [])) (side_left l.signed-iterator));
  room : length (columns_of l.tables).items.entries + length (side_left l.signed-iterator) ≤ (columns_of l.tables).items.room;
  others : ItemsAlone (columns_of l.initial.tables) (columns_of l.tables);
  owed : owed_of l.tables ≡ owed_of l.initial.tables;
  sheet : l.signed-iterator.sheet ≡ l.self.sheet;
}
