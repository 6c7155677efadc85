use Rattle.std.proofs.Common.{◌≡◌, None}
use Rattle.grammar.specs.Trees.{rules_to}
use Rattle.naming.specs.Calls.{named}
use Rattle.naming.specs.Sources.{source_of}
use Rattle.naming.proofs.written.Written.rule_named.Given as goal

abbrev pub invariant-loop-at : goal.invariant-loop-at
invariant-loop-at l = named l.self.text.now (rules_to (source_of l.self) l.at l.self.nodes.now) l.token ≡ None
