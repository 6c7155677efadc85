use Rattle.std.proofs.Common.{◌≡◌, ◌+◌, ◌≤◌}
use Rattle.grammar.specs.Trees.{args_at}
use Rattle.naming.specs.Faults.{count_args}
use Rattle.naming.specs.Sources.{source_of}
use Rattle.naming.proofs.written.Written.count_args.Given as goal

abbrev pub invariant-loop-last : goal.invariant-loop-last
invariant-loop-last l = (count_args (args_at (source_of l.self) l.initial.top l.self.nodes.now l.initial.at) ≡ l.count + count_args (args_at (source_of l.self) l.top l.self.nodes.now l.at)) × (l.count + l.top ≤ l.initial.top)

abbrev pub decreases-loop-last : goal.decreases-loop-last
decreases-loop-last l = l.top
