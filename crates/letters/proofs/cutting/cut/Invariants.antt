use Rattle.std.proofs.Common.{◌≡◌, ◌-◌, ◌≤◌, length, take, drop}
use Rattle.letters.specs.Cuts.{cut_from}
use Rattle.letters.proofs.Steps.{before}
use Rattle.letters.proofs.cutting.cut.Given as goal

abbrev pub invariant-loop-at : goal.invariant-loop-at
invariant-loop-at l = (l.at ≤ length l.text) × (l.count ≤ l.at) × (length l.tokens ≡ 16384) × (drop l.count l.tokens ≡ drop l.count l.initial.tokens) × (cut_from 0 0 0 l.text ≡ before (take l.count l.tokens) (cut_from 0 l.depth l.at (drop l.at l.text)))

abbrev pub decreases-loop-at : goal.decreases-loop-at
decreases-loop-at l = length l.text - l.at
