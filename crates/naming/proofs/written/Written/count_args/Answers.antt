use Rattle.std.proofs.Common.{arith}
use Rattle.naming.specs.Sources.{source_of}
use Rattle.naming.proofs.Grown.{count-more, count_none}
use Rattle.naming.proofs.written.Written.count_args.Goals as goal

pub loop-last-preserved : goal.loop-last-preserved
loop-last-preserved c =
    let e = count-more (source_of c.args.self) c.loop-last.top c.args.self.nodes.now c.loop-last.at c.in-Some.last c.in-Some.ensures.read in
    (omega (arith, c.loop-last.invariant.0), omega (arith, c.loop-last.invariant.1, c.in-Some.ensures.below))

pub returns : goal.returns
returns c = let e = count_none (source_of c.args.self) c.loop-last.top c.args.self.nodes.now c.loop-last.at c.in_default.ensures.read in omega (arith, c.loop-last.invariant.0)
