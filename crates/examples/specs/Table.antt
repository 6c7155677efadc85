-- The table of worked examples that are proved by computing.
use Rattle.std.specs.Prelude.{◌≡◌, true, ◌&&◌, List, [], ◌∷◌, replicate, ℤ, pos, negsuc, None, Ok, refl}
use Rattle.std.proofs.Common.{ap₂}
use Rattle.rows.specs.declared.row.Row.{Row}
use Rattle.rows.specs.declared.row.Kind.TheVariants.{AtMost}
use Rattle.rows.specs.Limits.{small, all_small, fits}
use Rattle.domains.specs.declared.fault.Reason.TheVariants.{Shape, Number, Sum, Case}
use Rattle.domains.specs.Faults.{Outcome, fault}
use Rattle.domains.specs.Linear.{linear}
use Rattle.domains.specs.Modes.{modes}
use Rattle.provers.specs.Elimination.{fourier_motzkin}
use Rattle.language.specs.Examples.{Worked}

abbrev pub zeros : List ℤ
zeros = replicate 15 (pos 0)

pub first_fits : (c b : ℤ) → small c ≡ true → small b ≡ true → fits (c ∷ zeros) b ≡ true
unfolding all_small
first_fits c b e f = ap₂ (λ x y. x && (y && true)) f e

-- c q0 ≤ b
abbrev pub first : (c b : ℤ) → small c ≡ true → small b ≡ true → Row
first c b e f = record { coefs = c ∷ zeros; bound = b; kind = AtMost; ok = first_fits c b e f }

-- -q0 ≤ 0
abbrev pub not_negative : Row
not_negative = first (negsuc 0) (pos 0) refl refl

-- 2q0 ≤ 1, -2q0 ≤ -1
abbrev pub half : List Row
half = first (pos 2) (pos 1) refl refl ∷ first (negsuc 1) (negsuc 0) refl refl ∷ []

-- 0 ≤ -1
abbrev pub never : Row
never = first (pos 0) (negsuc 0) refl refl

abbrev pub up_to15 : Row
up_to15 = first (pos 1) (pos 15) refl refl

abbrev pub up_to14 : Row
up_to14 = first (pos 1) (pos 14) refl refl

abbrev pub good : Outcome
good = Ok tt

pub record Table : Type 0 where
  pub linear-same : linear (not_negative ∷ []) not_negative (1 ∷ 1 ∷ []) ≡ good
  pub linear-uneven : linear (not_negative ∷ []) not_negative (1 ∷ 2 ∷ []) ≡ fault Sum
  pub linear-short : linear (not_negative ∷ []) not_negative (1 ∷ []) ≡ fault Shape
  pub linear-most : linear (not_negative ∷ []) not_negative (1000000 ∷ 1000000 ∷ []) ≡ good
  pub linear-over : linear (not_negative ∷ []) not_negative (1000001 ∷ 1000001 ∷ []) ≡ fault Number
  pub modes-half : modes half never [] ≡ good
  pub modes-top : modes [] up_to15 [] ≡ good
  pub modes-case : modes [] up_to14 [] ≡ fault Case
  -- no whole number is one half, but elimination counts in fractions too
  pub half-unproposed : fourier_motzkin half never ≡ None
  -- the worked sheets: what they owe, how their runs end
  pub sheets : Worked
