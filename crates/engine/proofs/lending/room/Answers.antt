use Rattle.std.proofs.Common.{refl, sym, subst, ◌∙◌}
use Rattle.std.specs.Option.{IsSome}
use Rattle.rows.specs.Limits.{all_small}
use Rattle.rows.specs.Rows.{row_of}
use Rattle.engine.proofs.lending.room.Goals as goal

pub unwrap-requires : goal.unwrap-requires
unfolding row_of all_small
unwrap-requires c = subst IsSome (sym c.new.ensures) refl

pub returns : goal.returns
unfolding row_of all_small
returns c = record { row = c.unwrap.result; says = sym c.new.ensures ∙ c.unwrap.ensures; all = refl }
