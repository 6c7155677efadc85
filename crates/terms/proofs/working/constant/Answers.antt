use Rattle.std.proofs.Common.{ap, w32}
use Rattle.std.proofs.lemmas.Int.{to_z-of_z}
use Rattle.language.specs.Terms.{constant, each}
use Rattle.terms.proofs.working.constant.Goals as goal

pub returns : goal.returns
unfolding constant each
returns c = ap constant (to_z-of_z w32 c.args.value c.ranges.value)
