use Rattle.language.specs.Drafts as Drafts
use Rattle.settlings.specs.More.{GoesOn}
use Rattle.settlings.proofs.each.settle_each.Given as goal

abbrev pub invariant-loop-number : goal.invariant-loop-number
invariant-loop-number g l = (d : Drafts.Draft) → GoesOn l.initial.draft l.draft d
