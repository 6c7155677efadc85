-- Sums of integers over an index, and how far an integer lies from 0.
use Rattle.std.specs.Prelude.{ℕ, zero, suc, ℤ, pos, ◌+ℤ◌, neg_ℤ, ◌≤ℤ◌}

-- f 0 + .. + f (n - 1)
unfoldable pub sum_to : (ℕ → ℤ) → ℕ → ℤ
sum_to f zero = pos 0
sum_to f (suc n) = sum_to f n +ℤ f n

-- z lies at most k from 0
abbrev pub Near : ℕ → ℤ → Type 0
Near k z = (neg_ℤ (pos k) ≤ℤ z) × (z ≤ℤ pos k)
