use Rattle.std.proofs.Common.{rules, sym, ◌∙◌}
use Rattle.std.proofs.lemmas.Iterator.{YieldsList-from_slice}
use Rattle.std.proofs.lemmas.Iterator.Search.{all_from_yields_List}
use Rattle.ints.specs.Tests.{within}
use Rattle.ints.proofs.Limiting.{all_within_is}
use Rattle.ints.proofs.limits.all_within.Goals as goal

pub returns : goal.returns
returns c =
    all_from_yields_List (within c.args.limit) _ _ _ c.all.ensures.ran (YieldsList-from_slice c.args.xs.now cc)
    (λ x b q k. (search rules, search rules)) ∙ sym (all_within_is c.args.limit c.args.xs.now)
