use Rattle.std.proofs.Common.{refl}
use Rattle.language.specs.Terms.{constant, each}
use Rattle.ints.specs.Tests.{all_within}
use Rattle.terms.proofs.Order.{in-turn}
use Rattle.terms.proofs.total.Total.zero.Goals as goal

pub invariant_of-result : goal.invariant_of-result
unfolding all_within
invariant_of-result c = record { kept = refl }

pub returns : goal.returns
unfolding constant each
returns c = record { count = refl; sum = refl; turn = in-turn }
