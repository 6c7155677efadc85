use Rattle.std.specs.Prelude.{◌≡◌}
use Rattle.grammar.specs.Trees.{rules_to}
use Rattle.naming.specs.Reaches.{sheet_of}
use Rattle.naming.specs.Sources.{source_of}
use Rattle.records.specs.Laying.{columns_of, owed_of}
use Rattle.resolving.specs.Ruling.{RulesMade, SameRooms}
use Rattle.resolving.proofs.context.Context.all_rules.Given as goal

abbrev pub invariant-loop-at : goal.invariant-loop-at
invariant-loop-at l =
    RulesMade (sheet_of l.self.sheet) (rules_to (source_of l.self.sheet) l.at l.self.sheet.nodes.now) (columns_of l.tables)
    × SameRooms (columns_of l.initial.tables) (columns_of l.tables)
    × (owed_of l.tables ≡ owed_of l.initial.tables)
