use Rattle.naming.specs.Sources.{source_of}
use Rattle.counting.proofs.Rules.{heads-first, heads-next}
use Rattle.counting.proofs.heads.heads_over.Goals as goal

pub loop-at-init : goal.loop-at-init
loop-at-init c = let w = c.args.sheet in heads-first (source_of w) w.nodes.now

pub loop-at-preserved : goal.loop-at-preserved
loop-at-preserved c = let w = c.args.sheet in heads-next (source_of w) w.nodes.now c.loop-at.at c.loop-at.over _ _ c.loop-at.invariant c.head_over.ensures c.earlier-over.ensures
