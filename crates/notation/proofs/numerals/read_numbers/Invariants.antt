use Rattle.std.proofs.Common.{◌≡◌, decimal, map}
use Rattle.notation.proofs.numerals.read_numbers.Given as goal

abbrev pub invariant-loop-word : goal.invariant-loop-word
invariant-loop-word l = map decimal l.numbers.items ≡ map (λ word. word.now) l.yielded
