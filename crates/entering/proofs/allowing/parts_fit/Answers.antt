use Rattle.std.proofs.Common.{rules, sym, ◌∙◌}
use Rattle.std.proofs.lemmas.Iterator.{YieldsList-from_slice}
use Rattle.std.proofs.lemmas.Iterator.Search.{all_from_yields_List}
use Rattle.language.specs.Entering.{part_fits}
use Rattle.entering.proofs.Everys.{every_is}
use Rattle.entering.proofs.allowing.parts_fit.Goals as goal

pub returns : goal.returns
returns c =
    all_from_yields_List (part_fits c.args.high c.args.cells) _ _ _ c.all.ensures.ran (YieldsList-from_slice c.args.parts.now cc)
    (λ x b q k. (search rules, search rules)) ∙ sym (every_is (part_fits c.args.high c.args.cells) c.args.parts.now)
