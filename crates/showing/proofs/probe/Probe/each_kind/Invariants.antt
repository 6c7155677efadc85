use Rattle.std.proofs.Common.{◌≡◌, ◌+◌, ◌<◌, false, length, get_or}
use Rattle.letters.specs.declared.kind.Kind.{Kind}
use Rattle.letters.specs.Kinds.{number}
use Rattle.grammar.specs.Parsers.{look_in}
use Rattle.showing.specs.Fronts.{front, Kept}
use Rattle.showing.specs.Probes.{probed, Tells}
use Rattle.showing.proofs.probe.Probe.each_kind.Given as goal

abbrev pub invariant-loop-kind : goal.invariant-loop-kind
invariant-loop-kind l =
    (length l.flags ≡ 28)
    × Kept l.fn.self l.self
    × ((k : Kind) → number k < l.kind-index → Tells (get_or l.flags (number k) false) (look_in (probed (front l.fn.self) l.fn.self.place k) (l.fn.self.place + 1)) (length (front l.fn.self)))
