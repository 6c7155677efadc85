use Rattle.std.proofs.Common.{ap, ◌∙◌}
use Rattle.language.proofs.Fitting.{fit_at}
use Rattle.language.specs.Terms.{fits_term}
use Rattle.pile.specs.Entries.{entries}
use Rattle.walking.proofs.Looking.{looked}
use Rattle.walking.proofs.walker.Walker.named.Goals as goal

pub returns-clause-value : goal.returns-clause-value
returns-clause-value c = looked (entries c.args.self.now.names.now) c.args.slot c.look.result c.constant.result c.unwrap_or.result c.look.ensures c.constant.ensures c.unwrap_or.ensures

pub returns-clause-fits : goal.returns-clause-fits
returns-clause-fits c = ap fits_term (returns-clause-value c) ∙ fit_at (entries c.args.self.now.names.now) c.requires.sure.names c.args.slot
