use Rattle.std.proofs.Common.{rules, tests, ◌≡◌, length}
use Rattle.showing.specs.Fronts.{front}
use Rattle.showing.specs.Probes.{probed}
use Rattle.showing.proofs.Probing.{tells_so}
use Rattle.showing.proofs.probe.Probe.goes_past.Goals as goal

pub returns-clause-told : goal.returns-clause-told
returns-clause-told c =
    let p = c.args.self.now in
    let tried : c.as_slice.result.now ≡ probed (front p) p.place c.args.kind = search (rules, tests) in
    tells_so (front p) p.place c.args.kind p.apart c.parse.result (length c.args.nodes.now) c.parse.new.nodes c.as_slice.result.now c.is_past-past.result
    tried c.is_past-past.ensures c.parse.ensures.parsed c.parse.ensures.law c.requires
