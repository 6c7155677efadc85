use Rattle.std.proofs.Common.{◌≡◌}
use Rattle.grammar.specs.Trees.{rules_to}
use Rattle.naming.specs.Least.{least}
use Rattle.naming.specs.Sources.{source_of}
use Rattle.counting.specs.Counts.{heads_over}
use Rattle.counting.proofs.heads.heads_over.Given as goal

abbrev pub invariant-loop-at : goal.invariant-loop-at
invariant-loop-at l = l.over ≡ least (heads_over (rules_to (source_of l.sheet) l.at l.sheet.nodes.now))
