use Rattle.std.proofs.Common.{sym, ◌∙◌, rules}
use Rattle.std.proofs.lemmas.Iterator.{YieldsList-from_slice}
use Rattle.std.proofs.lemmas.Iterator.Search.{all_from_yields_List}
use Rattle.rows.specs.Testing.{meets}
use Rattle.rows.proofs.Tested.{meets_each}
use Rattle.domains.specs.Modes.{at}
use Rattle.domains.proofs.modes.all_met.Goals as goal

pub returns : goal.returns
returns c =
    all_from_yields_List (meets (at c.args.point.now)) _ _ _ c.all.ensures.ran (YieldsList-from_slice c.args.rows.now cc) (λ x b q k. search rules)
    ∙ sym (meets_each (at c.args.point.now) c.args.rows.now)
