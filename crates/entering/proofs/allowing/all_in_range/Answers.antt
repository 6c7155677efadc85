use Rattle.std.proofs.Common.{rules, sym, ◌∙◌}
use Rattle.std.proofs.lemmas.Iterator.{YieldsList-from_slice}
use Rattle.std.proofs.lemmas.Iterator.Search.{all_from_yields_List}
use Rattle.language.specs.Running.{in_range}
use Rattle.entering.proofs.Everys.{every_is}
use Rattle.entering.proofs.allowing.all_in_range.Goals as goal

pub returns : goal.returns
returns c =
    all_from_yields_List (in_range c.args.low c.args.high) _ _ _ c.all.ensures.ran (YieldsList-from_slice c.args.values.now cc)
    (λ x b q k. (search rules, search rules)) ∙ sym (every_is (in_range c.args.low c.args.high) c.args.values.now)
