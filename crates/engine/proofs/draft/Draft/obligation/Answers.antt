use Rattle.std.proofs.Common.{sym, ◌∙◌}
use Rattle.engine.proofs.Listings.{some_header, header_listed}
use Rattle.engine.proofs.draft.Draft.obligation.Goals as goal

pub returns-in_default : goal.returns-in_default
returns-in_default c d is = absurd (some_header c.args.self.now d c.args.number is c.if-number-self.false (sym c.in_default.is ∙ c.owed_at.ensures))

pub returns : goal.returns
returns c d is = header_listed c.args.self.now d c.args.number is c.if-number-self.false c.in-Some.owed _ (sym c.in-Some.is ∙ c.owed_at.ensures) c.is_marked.ensures
