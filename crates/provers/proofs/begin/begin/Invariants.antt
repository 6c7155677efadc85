use Rattle.std.proofs.Common.{◌≡◌, drop}
use Rattle.provers.specs.Elimination.{push_all, originals}
use Rattle.provers.proofs.begin.begin.Given as goal

abbrev pub invariant-loop-i : goal.invariant-loop-i
invariant-loop-i l = push_all l.initial.into.items (originals 0 l.question.facts.now l.question.goal.now) ≡ push_all l.into.items (originals l.i (drop l.i l.question.facts.now) l.question.goal.now)
