use Rattle.std.proofs.Common.{◌≡◌, ◌≤◌, map, length}
use Rattle.grammar.specs.Raw as Raw
use Rattle.grammar.specs.Trees.{rules_to}
use Rattle.pile.specs.Entries.{entries, room}
use Rattle.naming.specs.Reaches.{tokens_of}
use Rattle.naming.specs.Sources.{source_of}
use Rattle.resolving.proofs.rules.rule_names.Given as goal

abbrev pub invariant-loop-at : goal.invariant-loop-at
invariant-loop-at l = (tokens_of l.sheet (entries l.names) ≡ map (λ (r : Raw.Rule). r.name) (rules_to (source_of l.sheet) l.at l.sheet.nodes.now)) × (length (entries l.names) ≤ l.at) × (room l.names ≡ room l.initial.names)
