-- The greatest common divisor, by Euclid's algorithm.
use Rattle.std.specs.Prelude.{ℕ, zero, suc, ◌%◌, max, List, fold}

-- the first number counts the steps that are left; the third is enough of them
unfoldable pub gcd_in : ℕ → ℕ → ℕ → ℕ
gcd_in zero a b = a
gcd_in (suc k) a zero = a
gcd_in (suc k) a (suc b) = gcd_in k (suc b) (a % suc b)

unfoldable pub gcd_of : ℕ → ℕ → ℕ
gcd_of a b = gcd_in b a b

-- the greatest number that divides them all, and 1 where they are all 0
abbrev pub divisor_of : List ℕ → ℕ
divisor_of xs = max (fold gcd_of 0 xs) 1
