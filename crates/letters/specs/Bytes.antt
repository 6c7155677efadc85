-- The bytes of a text: blanks, letters, digits, brackets.
use Rattle.std.specs.Prelude.{◌≡◌, ℕ, ◌+◌, ◌-◌, Bool, true, cond, ◌&&◌, ◌||◌, List, [], ◌∷◌, ◌==◌, nat_le}
use Rattle.std.specs.List.{AllByRecursion}

-- space, tab, line feed, carriage return
abbrev pub is_blank : ℕ → Bool
is_blank b = b == 32 || (b == 9 || (b == 10 || b == 13))

-- a to z and _
abbrev pub is_letter : ℕ → Bool
is_letter b = (nat_le 97 b && nat_le b 122) || b == 95

abbrev pub is_digit : ℕ → Bool
is_digit b = nat_le 48 b && nat_le b 57

abbrev pub is_opening : ℕ → Bool
is_opening b = b == 40 || b == 91

abbrev pub is_closing : ℕ → Bool
is_closing b = b == 41 || b == 93

-- how many brackets are open after a byte, where `depth` are open before; the count does not fall below 0
abbrev pub opened : ℕ → ℕ → ℕ
opened b depth = cond (is_opening b) (depth + 1) (cond (is_closing b) (depth - 1) depth)

-- the same after several bytes
unfoldable pub open_in : ℕ → List ℕ → ℕ
open_in depth [] = depth
open_in depth (b ∷ bs) = open_in (opened b depth) bs

-- what a byte begins
pub data Lead : Type 0 where
  Gap : Lead
  Word : Lead
  Number : Lead
  Sign : Lead

abbrev pub lead_of : ℕ → Lead
lead_of b = cond (is_blank b) Gap (cond (is_letter b) Word (cond (is_digit b) Number Sign))

abbrev pub EachLetter : List ℕ → Type 0
EachLetter w = AllByRecursion (λ b. is_letter b ≡ true) w

abbrev pub EachDigit : List ℕ → Type 0
EachDigit w = AllByRecursion (λ b. is_digit b ≡ true) w
