-- Terms: a constant and 16 coefficients, how they are worked out, their limits, and what they are worth.
use Rattle.std.specs.Prelude.{ℕ, Bool, true, cond, ◌&&◌, List, [], ◌∷◌, map, ℤ, pos, ◌+ℤ◌, ◌-ℤ◌, ◌*ℤ◌, neg_ℤ, Some, None, Option, ◌==◌, int_le, slice_index_or}
use Rattle.std.specs.List.{range_with_len}
use Rattle.ints.specs.Sums.{sum_to}
use Rattle.ints.specs.Tests.{is_zero, all_below}
use Rattle.rows.specs.Meaning.{Assignment}
use Rattle.language.specs.declared.term.Term.{Term}
use Rattle.language.specs.declared.operator.Operator.{Operator}
use Rattle.language.specs.declared.operator.Operator.TheVariants.{Sum, Difference, Product}
use Rattle.language.specs.Limits.{quantities, term_limit}

abbrev pub coef_of : Term → ℕ → ℤ
coef_of t j = slice_index_or t.coefs j (pos 0)

-- a list of a number for each quantity
unfoldable pub each : (ℕ → ℤ) → List ℤ
each f = map f (range_with_len 0 quantities)

unfoldable pub constant : ℤ → Term
constant z = record { constant = z; coefs = each (λ j. pos 0) }

abbrev pub zero_term : Term
zero_term = constant (pos 0)

unfoldable pub quantity : ℕ → Term
quantity n = record { constant = pos 0; coefs = each (λ j. cond (j == n) (pos 1) (pos 0)) }

unfoldable pub plus : Term → Term → Term
plus t u = record { constant = t.constant +ℤ u.constant; coefs = each (λ j. coef_of t j +ℤ coef_of u j) }

unfoldable pub minus : Term → Term → Term
minus t u = record { constant = t.constant -ℤ u.constant; coefs = each (λ j. coef_of t j -ℤ coef_of u j) }

unfoldable pub scaled : ℤ → Term → Term
scaled k t = record { constant = k *ℤ t.constant; coefs = each (λ j. k *ℤ coef_of t j) }

-- what a term is worth at an assignment
unfoldable pub worth : Assignment → Term → ℤ
worth q t = t.constant +ℤ sum_to (λ j. coef_of t j *ℤ q j) quantities

abbrev pub term_at : List Term → ℕ → Term
term_at ts i = slice_index_or ts i zero_term

abbrev pub near : ℤ → Bool
near z = int_le (neg_ℤ (pos term_limit)) z && int_le z (pos term_limit)

unfoldable pub all_near : List ℤ → Bool
all_near [] = true
all_near (z ∷ zs) = near z && all_near zs

-- the constant and each coefficient lie within ±1,000,000
abbrev pub fits_term : Term → Bool
fits_term t = near t.constant && all_near t.coefs

-- every coefficient is 0
abbrev pub is_constant : Term → Bool
is_constant t = all_below quantities (λ j. is_zero (coef_of t j))

abbrev pub limited : Term → Option Term
limited t = cond (fits_term t) (Some t) None

-- a sum, difference or product as a term: none outside the limits, or with no constant side
unfoldable pub worked : Operator → Term → Term → Option Term
worked Sum t u = limited (plus t u)
worked Difference t u = limited (minus t u)
worked Product t u = cond (is_constant t) (limited (scaled t.constant u)) (cond (is_constant u) (limited (scaled u.constant t)) None)
