use Rattle.std.proofs.Common.{sym, ◌∙◌}
use Rattle.walking.proofs.Numerals.{too-large}
use Rattle.walking.proofs.walker.steps.numeral.Goals as goal

pub returns-in_err-ok : goal.returns-in_err-ok
returns-in_err-ok c = c.from_residual.ensures ∙ too-large c.args.value c.try_from.result c.try_from.ensures (sym c.in_err-ok.ensures.variant)
