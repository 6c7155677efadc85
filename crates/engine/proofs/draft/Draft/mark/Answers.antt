use Rattle.std.proofs.Math.Logic.{∥∥₁_map}
use Rattle.engine.proofs.Keeping.{kept_more, sheeted_more}
use Rattle.engine.proofs.draft.Draft.mark.Goals as goal

pub invariant_of-self : goal.invariant_of-self
invariant_of-self c = record {
  few = c.args.self.now.few;
  kept = kept_more _ _ _ _ _ _ c.args.self.now.kept c.requires.follows;
  sheeted = ∥∥₁_map c.args.self.now.sheeted (sheeted_more _ _ _ _ _ _ c.requires.below);
}
