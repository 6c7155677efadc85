-- Laws of sums over an index: weighted by the values of an assignment they are linear.
use Rattle.std.proofs.Common.{◌≡◌, ℕ, zero, suc, ◌+◌, ◌<◌, true, ℤ, pos, ◌+ℤ◌, ◌*ℤ◌, neg_ℤ, sym, refl, ap, ◌∙◌, ap₂, add-one, arith}
use lib.IntN.{zero-*ℤ, *ℤ-zero}
use Rattle.std.proofs.lemmas.Int.{ints}
use Rattle.std.proofs.lemmas.Bool.{and_parts}
use Rattle.ints.specs.Sums.{sum_to}
use Rattle.ints.specs.Tests.{all_below, is_zero}
use Rattle.ints.proofs.Products.{mul-sum, sum-mul, mul-mul, neg-mul}
use Rattle.ints.proofs.Zeros.{zero_is}

pub sum_more : (f : ℕ → ℤ) (n : ℕ) → sum_to f (n + 1) ≡ sum_to f n +ℤ f n
unfolding sum_to
sum_more f n = rw add-one

pub sum_same : (f g : ℕ → ℤ) (n : ℕ) → ((j : ℕ) → j < n → f j ≡ g j) → sum_to f n ≡ sum_to g n
unfolding sum_to
sum_same f g zero h = refl
sum_same f g (suc n) h = ap₂ (λ x y. x +ℤ y) (sum_same f g n (λ j l. h j (omega arith))) (h n (omega arith))

module _ (q : ℕ → ℤ) where
  abbrev pub at : (ℕ → ℤ) → ℕ → ℤ
  at a n = sum_to (λ j. a j *ℤ q j) n

  pub at_sum : (a b : ℕ → ℤ) (n : ℕ) → at (λ j. a j +ℤ b j) n ≡ at a n +ℤ at b n
  unfolding sum_to
  at_sum a b zero = refl
  at_sum a b (suc n) =
      let e = at_sum a b n in
      let d = sum-mul (a n) (b n) (q n) in
      omega (arith, ints)

  pub at-times : (m : ℕ) (a : ℕ → ℤ) (n : ℕ) → at (λ j. pos m *ℤ a j) n ≡ pos m *ℤ at a n
  unfolding sum_to
  at-times m a zero = sym (*ℤ-zero (pos m))
  at-times m a (suc n) =
      ap₂ (λ x y. x +ℤ y) (at-times m a n) (mul-mul (pos m) (a n) (q n)) ∙ sym (mul-sum (pos m) (at a n) (a n *ℤ q n))

  pub at-neg : (a : ℕ → ℤ) (n : ℕ) → at (λ j. neg_ℤ (a j)) n ≡ neg_ℤ (at a n)
  unfolding sum_to
  at-neg a zero = refl
  at-neg a (suc n) =
      let e = at-neg a n in
      let d = neg-mul (a n) (q n) in
      omega (arith, ints)

  pub at-zeros : (a : ℕ → ℤ) (n : ℕ) → all_below n (λ j. is_zero (a j)) ≡ true → at a n ≡ pos 0
  unfolding sum_to all_below
  at-zeros a zero h = refl
  at-zeros a (suc n) h =
      let p = and_parts _ _ h in
      let e = at-zeros a n p.0 in
      let d = ap (λ x. x *ℤ q n) (zero_is (a n) p.1) ∙ zero-*ℤ (q n) in
      omega (arith, ints)

  pub at_none : (n : ℕ) → at (λ j. pos 0) n ≡ pos 0
  unfolding sum_to
  at_none zero = refl
  at_none (suc n) =
      let e = at_none n in
      let d = zero-*ℤ (q n) in
      omega (arith, ints)
