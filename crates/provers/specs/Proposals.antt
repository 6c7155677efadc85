-- What a prover proposes, and what asking it answers and writes.
use Rattle.std.specs.Prelude.{ℕ, ◌≤◌, cond, List, ◌++◌, length, drop, Some, None, Option, nat_le}

-- no numbers, or at most 128
abbrev pub Short : Option (List ℕ) → Type 0
Short None = Unit {0}
Short (Some numbers) = length numbers ≤ 128

-- a proposal longer than the buffer counts as none
abbrev pub fitting : Option (List ℕ) → ℕ → Option (List ℕ)
fitting None room = None
fitting (Some numbers) room = cond (nat_le (length numbers) room) (Some numbers) None

abbrev pub counted : Option (List ℕ) → Option ℕ
counted None = None
counted (Some numbers) = Some (length numbers)

abbrev pub written : Option (List ℕ) → List ℕ → List ℕ
written None buffer = buffer
written (Some numbers) buffer = numbers ++ drop (length numbers) buffer

-- the answer to one who lends this buffer: how many numbers were written
abbrev pub answer : Option (List ℕ) → List ℕ → Option ℕ
answer proposal buffer = counted (fitting proposal (length buffer))

-- the buffer then: the numbers at its front, and the rest as it was
abbrev pub filled : Option (List ℕ) → List ℕ → List ℕ
filled proposal buffer = written (fitting proposal (length buffer)) buffer
