use Rattle.walking.proofs.Finding.{found, found-kept, found-fits}
use Rattle.walking.proofs.walker.Walker.fresh.Goals as goal

pub returns-clause-finds : goal.returns-clause-finds
returns-clause-finds c = found c.args.place c.args.self.now c.requires.sure c.fresh.result c.fresh.new.next c.fresh.ensures

pub returns-clause-kept : goal.returns-clause-kept
returns-clause-kept c = found-kept c.args.place c.args.self.now c.requires.sure c.fresh.result c.fresh.new.next c.fresh.ensures

pub returns-clause-fits : goal.returns-clause-fits
returns-clause-fits c = found-fits c.args.place c.args.self.now c.requires.sure c.fresh.result c.fresh.new.next c.fresh.ensures
