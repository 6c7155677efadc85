use Rattle.std.proofs.Common.{◌≡◌, ◌+◌, ◌≤◌, [], length}
use Rattle.grammar.specs.Weights.{conditions_weight}
use Rattle.records.specs.Laying.{columns_of, owed_of}
use Rattle.naming.specs.Reaches.{scope_of}
use Rattle.naming.specs.Sides.{conditions_left}
use Rattle.naming.specs.Resolving.{condition_of}
use Rattle.resolving.proofs.Listings.{Under}
use Rattle.resolving.specs.Making.{ConditionsAlone}
use Rattle.resolving.proofs.context.Scoped.conditions.Given as goal

abbrev pub invariant-loop-condition : goal.invariant-loop-condition
invariant-loop-condition l = record {
  under : Under (condition_of l.self.sheet.text.now (scope_of l.self.sheet l.self.names.now [])) (conditions_left l.conditions) (conditions_left l.condition-iterator) (columns_of l.initial.tables).conditions.entries (columns_of l.tables).conditions.entries (columns_of l.initial.tables).items.entries (columns_of l.tables).items.entries;
  conditions : length (columns_of l.tables).conditions.entries + conditions_weight (conditions_left l.condition-iterator) ≤ (columns_of l.tables).conditions.room;
  items : length (columns_of l.tables).items.entries + conditions_weight (conditions_left l.condition-iterator) ≤ (columns_of l.tables).items.room;
  size : length (columns_of l.tables).items.entries + conditions_weight (conditions_left l.condition-iterator) ≤ length (columns_of l.initial.tables).items.entries + conditions_weight (conditions_left l.conditions);
  others : ConditionsAlone (columns_of l.initial.tables) (columns_of l.tables);
  owed : owed_of l.tables ≡ owed_of l.initial.tables;
  sheet : l.condition-iterator.sheet ≡ l.self.sheet;
}
