use Rattle.std.proofs.Common.{rules, ap, ◌∙◌}
use Rattle.language.proofs.Fitting.{fit_at}
use Rattle.language.specs.Terms.{fits_term}
use Rattle.walking.proofs.walker.Walker.length_of.Goals as goal

pub returns-clause-value : goal.returns-clause-value
returns-clause-value c = search rules

pub returns-clause-fits : goal.returns-clause-fits
returns-clause-fits c = ap fits_term (returns-clause-value c) ∙ fit_at c.args.self.now.lengths.now c.requires.sure.lengths c.args.list
