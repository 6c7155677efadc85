-- What a row says of an assignment, and what follows from rows.
use Rattle.std.specs.Prelude.{◌≡◌, ℕ, ◌<◌, List, [], ◌∷◌, ℤ, pos, ◌*ℤ◌, ◌≤ℤ◌, slice_index_or}
use Rattle.ints.specs.Sums.{sum_to}
use Rattle.rows.specs.declared.row.Row.{Row}
use Rattle.rows.specs.declared.row.Kind.{Kind}
use Rattle.rows.specs.declared.row.Kind.TheVariants.{AtMost, Unequal}

-- a whole number for each quantity; only those of q0 to q15 matter
abbrev pub Assignment : Type 0
Assignment = ℕ → ℤ

-- the coefficient of the quantity j
abbrev pub coef : Row → ℕ → ℤ
coef r j = slice_index_or r.coefs j (pos 0)

-- the row's sum of coefficient times quantity
abbrev pub value : Row → Assignment → ℤ
value r q = sum_to (λ j. coef r j *ℤ q j) 16

-- what a row of some kind says of its sum and bound
abbrev pub Holds : Kind → ℤ → ℤ → Type 0
Holds AtMost sum bound = sum ≤ℤ bound
Holds Unequal sum bound = sum ≡ bound → ⊥

abbrev pub Meets : Assignment → Row → Type 0
Meets q r = Holds r.kind (value r q) r.bound

abbrev pub MeetsAll : Assignment → List Row → Type 0
MeetsAll q [] = Unit {0}
MeetsAll q (r ∷ rs) = Meets q r × MeetsAll q rs

-- a range is its lowest and its highest value
abbrev pub Within : ℤ → ℤ → Assignment → Type 0
Within low high q = (j : ℕ) → j < 16 → (low ≤ℤ q j) × (q j ≤ℤ high)

-- the goal follows from the facts: every assignment within the range that meets all facts meets the goal
pub record Follows (low high : ℤ) (facts : List Row) (goal : Row) : Type 0 where
  pub follows : (q : Assignment) → Within low high q → MeetsAll q facts → Meets q goal
