use Rattle.std.proofs.Common.{◌≡◌, false, set}
use Rattle.ints.specs.Tests.{any_below}
use Rattle.domains.specs.Modes.{broken}
use Rattle.domains.proofs.modes.Occurring.+some_break.Given as goal

abbrev pub decreases-some_break : goal.decreases-some_break
decreases-some_break l = l.n

abbrev pub invariant-loop-v : goal.invariant-loop-v
invariant-loop-v l = any_below l.v (λ v. broken l.self.question.facts.now l.self.question.goal.now l.j (set l.point l.j v)) ≡ false
