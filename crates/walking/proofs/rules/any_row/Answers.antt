use Rattle.std.proofs.Common.{is_some, ap, ◌∙◌}
use Rattle.walking.proofs.Filling.{any-made}
use Rattle.walking.proofs.rules.any_row.Goals as goal

pub unwrap-requires : goal.unwrap-requires
unwrap-requires c = ap is_some c.new.ensures ∙ any-made
