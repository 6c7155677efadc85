-- Tests of integers, and of every or some number below a bound.
use Rattle.std.specs.Prelude.{ℕ, zero, suc, Bool, true, false, cond, ◌&&◌, ◌||◌, List, [], ◌∷◌, ℤ, pos, negsuc, neg_ℤ, int_le}

abbrev pub is_zero : ℤ → Bool
is_zero (pos zero) = true
is_zero (pos (suc n)) = false
is_zero (negsuc n) = false

abbrev pub eq_z : ℤ → ℤ → Bool
eq_z a b = int_le a b && int_le b a

-- z lies between -limit and limit
abbrev pub within : ℤ → ℤ → Bool
within limit z = int_le (neg_ℤ limit) z && int_le z limit

unfoldable pub all_within : ℤ → List ℤ → Bool
all_within limit [] = true
all_within limit (z ∷ zs) = within limit z && all_within limit zs

-- p holds of each number below n
unfoldable pub all_below : ℕ → (ℕ → Bool) → Bool
all_below zero p = true
all_below (suc n) p = all_below n p && p n

-- p holds of some number below n
unfoldable pub any_below : ℕ → (ℕ → Bool) → Bool
any_below zero p = false
any_below (suc n) p = any_below n p || p n

-- how many numbers below n have p
unfoldable pub count_below : ℕ → (ℕ → Bool) → ℕ
count_below zero p = 0
count_below (suc n) p = cond (p n) (suc (count_below n p)) (count_below n p)
