use Rattle.std.proofs.Common.{length, ap, arith}
use Rattle.std.proofs.lemmas.List.{length-take}
use Rattle.naming.proofs.written.Written.new.Goals as goal

pub invariant_of-result : goal.invariant_of-result
invariant_of-result c = record { few = (omega (arith, ap length c.front.ensures, length-take 16384 c.args.tokens.now), omega (arith, ap length c.front-2.ensures, length-take 16384 c.args.nodes.now)) }
