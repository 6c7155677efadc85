use Rattle.std.proofs.Common.{sym}
use Rattle.walking.proofs.Finding.{worked-found, none-found}
use Rattle.walking.proofs.walker.Walker.or_fresh.Goals as goal

pub returns-in-Some-clause-finds : goal.returns-in-Some-clause-finds
returns-in-Some-clause-finds c = worked-found c.args.place c.args.self.now c.requires.sure c.in-Some.term c.args.worked (sym c.in-Some.is)

pub returns-in-None-clause-finds : goal.returns-in-None-clause-finds
returns-in-None-clause-finds c = none-found c.args.place c.args.self.now c.fresh.result c.fresh.new.self c.args.worked (sym c.in-None.is) c.fresh.ensures.finds
