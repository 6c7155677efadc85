-- Laws of sums over an index that are weighted by natural numbers: they are linear in the weights.
use Rattle.std.proofs.Common.{◌≡◌, ℕ, zero, suc, ◌+◌, ◌*◌, ◌<◌, ◌≢◌, ℤ, pos, ◌+ℤ◌, ◌*ℤ◌, sym, refl, ap, ◌∙◌, ap₂, ⊎_elim, arith}
use lib.IntN.{one, zero-*ℤ, *ℤ-zero, *ℤ-one, *ℤ_comm}
use Rattle.std.proofs.lemmas.Int.{ints}
use Rattle.std.proofs.lemmas.Bool.{cases_eq}
use Rattle.ints.specs.Sums.{sum_to}
use Rattle.ints.proofs.Products.{mul-sum, sum-mul, mul-mul}

pub sum-front : (f : ℕ → ℤ) (n : ℕ) → sum_to f (suc n) ≡ f 0 +ℤ sum_to (λ i. f (suc i)) n
unfolding sum_to
sum-front f zero = omega (arith, ints)
sum-front f (suc n) = let e = sum-front f n in omega (arith, ints)

pub sum_zeros : (f : ℕ → ℤ) (n : ℕ) → ((i : ℕ) → i < n → f i ≡ pos 0) → sum_to f n ≡ pos 0
unfolding sum_to
sum_zeros f zero h = refl
sum_zeros f (suc n) h = ap₂ (λ x y. x +ℤ y) (sum_zeros f n (λ i l. h i (omega arith))) (h n (omega arith))

module _ (t : ℕ → ℤ) where
  -- the terms t, each times its weight
  abbrev pub weighted : (ℕ → ℕ) → ℕ → ℤ
  weighted w n = sum_to (λ i. pos (w i) *ℤ t i) n

  one-term : (a b v w u : ℕ) (z : ℤ) → u ≡ a * v + b * w → pos u *ℤ z ≡ (pos a *ℤ (pos v *ℤ z)) +ℤ (pos b *ℤ (pos w *ℤ z))
  one-term a b v w u z e = ap (λ n. pos n *ℤ z) e ∙ sum-mul (pos (a * v)) (pos (b * w)) z ∙ ap₂ (λ x y. x +ℤ y) (mul-mul (pos a) (pos v) z) (mul-mul (pos b) (pos w) z)

  pub weighted-blend : (a b : ℕ) (v w u : ℕ → ℕ) (n : ℕ) → ((i : ℕ) → i < n → u i ≡ a * v i + b * w i) → weighted u n ≡ (pos a *ℤ weighted v n) +ℤ (pos b *ℤ weighted w n)
  unfolding sum_to
  weighted-blend a b v w u zero e = sym (ap₂ (λ x y. x +ℤ y) (*ℤ-zero (pos a)) (*ℤ-zero (pos b)))
  weighted-blend a b v w u (suc n) e =
      let r = weighted-blend a b v w u n (λ i l. e i (omega arith)) in
      let d = one-term a b (v n) (w n) (u n) (t n) (e n (omega arith)) in
      let p = mul-sum (pos a) (weighted v n) (pos (v n) *ℤ t n) in
      let q = mul-sum (pos b) (weighted w n) (pos (w n) *ℤ t n) in
      omega (arith, ints)

  pub weighted-scale : (a : ℕ) (v u : ℕ → ℕ) (n : ℕ) → ((i : ℕ) → i < n → u i ≡ a * v i) → weighted u n ≡ pos a *ℤ weighted v n
  weighted-scale a v u n e =
      let r = weighted-blend a 0 v v u n (λ i l. let k = e i l in omega arith) in
      let z = zero-*ℤ (weighted v n) in
      omega (arith, ints)

  -- one weight alone picks its term
  pub weighted-one : (w : ℕ → ℕ) (i n : ℕ) → i < n → w i ≡ 1 → ((k : ℕ) → k ≢ i → w k ≡ 0) → weighted w n ≡ t i
  unfolding sum_to one
  weighted-one w i zero l e o = let no : ⊥ = omega arith in absurd no
  weighted-one w i (suc n) l e o =
      ⊎_elim
      (λ q.
      let z = sum_zeros (λ k. pos (w k) *ℤ t k) n (λ k m. let ne : k ≢ i = omega arith in ap (λ x. pos x *ℤ t k) (o k ne) ∙ zero-*ℤ (t k)) in
      let y : pos (w n) *ℤ t n ≡ t i = ap (λ x. pos (w x) *ℤ t x) (sym q) ∙ ap (λ x. pos x *ℤ t i) e ∙ *ℤ_comm (pos 1) (t i) ∙ *ℤ-one (t i) in
      omega (arith, ints))
      (λ ne.
      let r = weighted-one w i n (omega arith) e o in
      let z : pos (w n) *ℤ t n ≡ pos 0 = (let d : n ≢ i = omega arith in ap (λ x. pos x *ℤ t n) (o n d) ∙ zero-*ℤ (t n)) in
      omega (arith, ints))
      (cases_eq i n)
