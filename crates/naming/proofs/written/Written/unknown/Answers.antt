use Rattle.std.proofs.Common.{◌∙◌}
use Rattle.naming.proofs.Slots.{found-when}
use Rattle.naming.proofs.written.Written.unknown.Goals as goal

pub returns : goal.returns
returns c = c.then_some.ensures ∙ found-when _ c.args.token _ c.is_among.ensures
