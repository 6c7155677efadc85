use Rattle.std.proofs.Common.{w32}
use Rattle.std.proofs.lemmas.Int.{to_z-of_z}
use Rattle.engine.proofs.Makings.{taken_made, refused_made, read_sheeted, none_sheeted}
use Rattle.engine.proofs.draft.making.make.Goals as goal

pub returns-in-Ok : goal.returns-in-Ok
returns-in-Ok c = taken_made _ _ _ _ _ _ (to_z-of_z w32 c.args.low c.ranges.low) (to_z-of_z w32 c.args.high c.ranges.high) _ _ _ c.read.auto.records c.in-Ok.ensures c.fresh.ensures

pub returns-in-Err : goal.returns-in-Err
returns-in-Err c = refused_made _ _ _ _ _ _ (to_z-of_z w32 c.args.low c.ranges.low) (to_z-of_z w32 c.args.high c.ranges.high) _ _ _ c.in-Err.ensures.0 c.fresh-in-Err.ensures

pub fresh-requires-clause-sheeted : goal.fresh-requires-clause-sheeted
fresh-requires-clause-sheeted c = ∣ read_sheeted _ _ _ _ _ c.in-Ok.ensures ∣₁

pub fresh-requires-in-Err-clause-sheeted : goal.fresh-requires-in-Err-clause-sheeted
fresh-requires-in-Err-clause-sheeted c = ∣ none_sheeted _ ∣₁
