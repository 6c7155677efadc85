use Rattle.std.proofs.Common.{◌≡◌, []}
use Rattle.grammar.specs.Trees.{rules_to}
use Rattle.naming.specs.Faults.{rules_faults}
use Rattle.naming.specs.Least.{least}
use Rattle.naming.specs.Reaches.{sheet_of}
use Rattle.naming.specs.Sources.{source_of}
use Rattle.naming.proofs.written.Written.rules_fault.Given as goal

abbrev pub invariant-loop-at : goal.invariant-loop-at
invariant-loop-at l = l.fault ≡ least (rules_faults (sheet_of l.self) [] (rules_to (source_of l.self) l.at l.self.nodes.now))
