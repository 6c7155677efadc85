use Rattle.std.proofs.Common.{◌≡◌}
use Rattle.grammar.specs.Trees.{raw_at}
use Rattle.naming.specs.Faults.{place_of}
use Rattle.naming.specs.Sources.{source_of}
use Rattle.naming.proofs.written.Written.place.Given as goal

abbrev pub invariant-loop-inner : goal.invariant-loop-inner
invariant-loop-inner l = place_of (raw_at (source_of l.self) l.initial.top l.self.nodes.now l.initial.at) ≡ place_of (raw_at (source_of l.self) l.top l.self.nodes.now l.at)

abbrev pub decreases-loop-inner : goal.decreases-loop-inner
decreases-loop-inner l = l.top
