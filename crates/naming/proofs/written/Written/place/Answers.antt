use Rattle.std.proofs.Common.{sym, ◌∙◌}
use Rattle.naming.specs.Sources.{source_of}
use Rattle.naming.proofs.Grown.{place-inner, place-own}
use Rattle.naming.proofs.written.Written.place.Goals as goal

pub loop-inner-preserved : goal.loop-inner-preserved
loop-inner-preserved c = c.loop-inner.invariant ∙ place-inner (source_of c.args.self) c.loop-inner.top c.args.self.nodes.now c.loop-inner.at c.in-Some.inner c.in-Some.ensures.read

pub returns : goal.returns
returns c = c.own_place.ensures ∙ place-own (source_of c.args.self) c.loop-inner.top c.args.self.nodes.now c.loop-inner.at c.in_default.ensures.read ∙ sym c.loop-inner.invariant
