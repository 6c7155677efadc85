use Rattle.std.proofs.Common.{w32}
use Rattle.std.proofs.lemmas.Int.{to_z-of_z}
use Rattle.std.proofs.lemmas.Bool.{both_ways}
use Rattle.engine.proofs.Marks.{unmarked}
use Rattle.engine.proofs.Makings.{sheeted_named}
use Rattle.engine.proofs.draft.making.fresh.Goals as goal

pub invariant_of-result : goal.invariant_of-result
invariant_of-result c = record {
  few = c.requires.few;
  kept = λ s. absurd (both_ways _ (unmarked 128 s.number) s.marked);
  sheeted = sheeted_named _ _ _ _ _ _ _ (to_z-of_z w32 c.args.low c.ranges.low) (to_z-of_z w32 c.args.high c.ranges.high) c.requires.sheeted;
}
