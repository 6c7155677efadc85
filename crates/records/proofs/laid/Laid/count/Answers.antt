use Rattle.std.proofs.Common.{sym, ◌∙◌}
use Rattle.records.proofs.Lawful.{counted}
use Rattle.records.proofs.laid.Laid.count.Goals as goal

pub returns : goal.returns
returns g c = c.count.ensures ∙ sym (counted g.met.E.Tabled.laws c.args.self.now)
