use Rattle.std.proofs.Common.{◌+◌, length, ◌∙◌}
use Rattle.std.proofs.lemmas.List.{length-set}
use Rattle.letters.specs.Every.{kinds}
use Rattle.grammar.specs.Parsers.{look_in}
use Rattle.showing.specs.Fronts.{front}
use Rattle.showing.specs.Probes.{probed, Tells}
use Rattle.showing.proofs.Probing.{one_more, kept_on, kept_tells}
use Rattle.showing.proofs.probe.Probe.each_kind.Goals as goal

pub loop-kind-preserved : goal.loop-kind-preserved
unfolding kinds
loop-kind-preserved c =
    let p = c.args.self.now in (
      length-set c.loop-kind.flags c.from.result c.goes_past.result ∙ c.loop-kind.invariant.0,
      kept_on c.loop-kind.invariant.1 c.goes_past.ensures.kept,
      one_more (λ b k. Tells b (look_in (probed (front p) p.place k) (p.place + 1)) (length (front p))) c.loop-kind.flags c.loop-kind.kind-index c.from.result c.goes_past.result
          c.loop-kind.invariant.0 (c.from.ensures ∙ c.number.ensures) c.loop-kind.invariant.2 (kept_tells _ _ c.loop-kind.invariant.1 c.goes_past.ensures.told),
    )
