use Rattle.terms.specs.Listed.{list_of}
use Rattle.walking.proofs.Assuming.{assumed, assumed-kept}
use Rattle.walking.proofs.walker.Walker.assume.Goals as goal

pub returns-clause-stepped : goal.returns-clause-stepped
returns-clause-stepped c = assumed c.args.place (list_of c.args.rows) c.args.self.now c.assume.new.self c.requires.sure c.assume.result c.assume.ensures.took

pub returns-clause-kept : goal.returns-clause-kept
returns-clause-kept c = assumed-kept c.args.place (list_of c.args.rows) c.args.self.now c.assume.new.self c.requires.sure c.assume.result c.assume.ensures.took
