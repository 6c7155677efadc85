-- Rows derived from the facts and the negated goal, each with the multipliers that give it.
use Rattle.std.specs.Prelude.{ℕ, ◌+◌, ◌*◌, ◌/◌, Bool, true, cond, ◌&&◌, List, [], ◌∷◌, map, replicate, ℤ, pos, negsuc, ◌+ℤ◌, ◌-ℤ◌, ◌*ℤ◌, neg_ℤ, Some, None, Option, nat_le, slice_index, slice_index_or, slice_set, unsigned_abs}
use Rattle.std.specs.List.{range_with_len}
use Rattle.ints.specs.Divisors.{divisor_of}
use Rattle.rows.specs.declared.row.Row.{Row}
use Rattle.rows.specs.declared.row.Kind.TheVariants.{AtMost}
use Rattle.rows.specs.Limits.{fits}
use Rattle.rows.specs.Meaning.{coef}
use Rattle.rows.specs.Rows.{row_of}
use Rattle.provers.specs.declared.derived.Derived.{Derived}

abbrev pub coef_at : ℕ → Derived → ℤ
coef_at j d = slice_index_or d.coefs j (pos 0)

abbrev pub times_at : ℕ → Derived → ℕ
times_at i d = slice_index d.times i

-- the i-th of the facts and the negated goal: once itself
abbrev pub original : ℕ → Row → Derived
original i r = record { coefs = r.coefs; bound = r.bound; times = slice_set (replicate 25 0) i 1 }

-- the negation of S ≤ d is -S ≤ -d - 1, where that keeps a row's limits
abbrev pub negation : Row → Option Row
negation r = row_of (map (λ j. neg_ℤ (coef r j)) (range_with_len 0 16)) (neg_ℤ r.bound -ℤ pos 1) AtMost

-- a times x plus b times y
abbrev pub blend : ℕ → ℕ → ℤ → ℤ → ℤ
blend a b x y = (pos a *ℤ x) +ℤ (pos b *ℤ y)

-- the same of two rows
abbrev pub blended : ℕ → ℕ → Derived → Derived → Derived
blended a b p m = record {
  coefs = map (λ j. blend a b (coef_at j p) (coef_at j m)) (range_with_len 0 16);
  bound = blend a b p.bound m.bound;
  times = map (λ i. a * times_at i p + b * times_at i m) (range_with_len 0 25);
}

-- the size divided, with the sign put back
abbrev pub signed : ℤ → ℕ → ℤ
signed (pos _) n = pos n
signed (negsuc _) n = neg_ℤ (pos n)

abbrev pub quotient : ℕ → ℤ → ℤ
quotient g z = signed z (unsigned_abs z / g)

abbrev pub quotients : ℕ → List ℤ → ℤ → List ℕ → Derived
quotients g cs b ts = record { coefs = map (quotient g) cs; bound = quotient g b; times = map (λ n. n / g) ts }

-- no multiplier above 1,000,000
abbrev pub modest : ℕ → Bool
modest n = nat_le n 1000000

unfoldable pub all_modest : List ℕ → Bool
all_modest [] = true
all_modest (n ∷ ns) = modest n && all_modest ns

-- the limits of a row and of multipliers
abbrev pub within : Derived → Bool
within d = fits d.coefs d.bound && all_modest d.times

-- what passes a test
abbrev pub kept : {X : Type 0} → (X → Bool) → X → Option X
kept test x = cond (test x) (Some x) None

-- divided by the gcd of the multipliers
abbrev pub lowest : Derived → Derived
lowest d = quotients (divisor_of d.times) d.coefs d.bound d.times

-- p times the size of m's coefficient of q plus m times that of p's, which leaves 0 there if their signs differ
unfoldable pub combine : ℕ → Derived → Derived → Option Derived
combine q p m = kept within (lowest (blended (unsigned_abs (coef_at q m)) (unsigned_abs (coef_at q p)) p m))
