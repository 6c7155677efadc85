-- What two rows combine to: the same combination of the facts and the negated goal as its multipliers say.
use Rattle.std.proofs.Common.{◌≡◌, ℕ, suc, ◌+◌, ◌*◌, ◌/◌, ◌<◌, true, length, ℤ, pos, negsuc, ◌*ℤ◌, nat_abs, Some, sym, ap, ◌∙◌, ap₂, mul_comm, arith}
use native.Mathlib.Nat.{mul-div_cancel', zero-div}
use lib.IntN.{*ℤ-zero}
use lib.Signed.{lt_z}
use Rattle.std.proofs.lemmas.List.FromFn.{get_or-map-range_with_len, length-map-range_with_len}
use Rattle.std.proofs.lemmas.List.{get_or-map, length-map}
use Rattle.std.proofs.lemmas.Int.{ints}
use Rattle.std.proofs.lemmas.Bool.{and_parts}
use Rattle.ints.specs.Divisors.{divisor_of}
use Rattle.ints.proofs.Euclid.{divides}
use Rattle.ints.proofs.Weighted.{weighted-blend, weighted-scale}
use Rattle.rows.specs.Limits.{fits}
use Rattle.domains.specs.declared.linear.Column.{Column}
use Rattle.domains.specs.declared.linear.Column.TheVariants.{Coef, Bound}
use Rattle.provers.specs.declared.derived.Derived.{Derived}
use Rattle.provers.specs.Derivations.{coef_at, times_at, blend, blended, quotient, lowest, all_modest, within, combine}
use Rattle.provers.proofs.Limited.{kept-some}
use Rattle.asking.proofs.Columns.{derived_entry, Listed, combination}
use Rattle.asking.proofs.Quotients.{exact}

module _ (q : ℕ) (p m w : Derived) (h : combine q p m ≡ Some w) where
  abbrev a : ℕ
  a = nat_abs (coef_at q m)

  abbrev b : ℕ
  b = nat_abs (coef_at q p)

  abbrev sum : Derived
  sum = blended a b p m

  abbrev g : ℕ
  g = divisor_of sum.times

  made : (within (lowest sum) ≡ true) × (lowest sum ≡ w)
  unfolding combine
  made = kept-some within (lowest sum) w (sym h)

  entry-is : (c : Column) → Listed c → quotient g (blend a b (derived_entry c p) (derived_entry c m)) ≡ derived_entry c w
  entry-is (Coef j) l =
      let f : ℕ → ℤ = λ i. blend a b (coef_at i p) (coef_at i m) in
      ap (quotient g) (sym (get_or-map-range_with_len f 0 16 j j (pos 0) l (omega arith)))
      ∙ sym (get_or-map (quotient g) sum.coefs j (pos 0) (pos 0) (let n = length-map-range_with_len f 0 16 in omega arith))
      ∙ ap (coef_at j) made.1
  entry-is Bound l = ap (λ (d : Derived). d.bound) made.1

  abbrev times_of : ℕ → ℕ
  times_of i = a * times_at i p + b * times_at i m

  times-sum : (i : ℕ) → i < 25 → times_at i sum ≡ times_of i
  times-sum i l = get_or-map-range_with_len times_of 0 25 i i 0 l (omega arith)

  times-count : length sum.times ≡ 25
  times-count = length-map-range_with_len times_of 0 25

  times-quotient : (i : ℕ) → i < 25 → times_at i sum / g ≡ times_at i w
  times-quotient i l = sym (get_or-map (λ n. n / g) sum.times i 0 0 (let n = times-count in omega arith)) ∙ ap (times_at i) made.1

  pub times_none : (i : ℕ) → i < 25 → times_at i p ≡ 0 → times_at i m ≡ 0 → times_at i w ≡ 0
  times_none i l e f =
      let z : a * 0 + b * 0 ≡ 0 = omega arith in
      sym (times-quotient i l) ∙ ap (λ n. n / g) (times-sum i l ∙ ap₂ (λ x y. a * x + b * y) e f ∙ z) ∙ zero-div g

  pub times_long : length w.times ≡ 25
  times_long = ap (λ (d : Derived). length d.times) (sym made.1) ∙ length-map sum.times (λ n. n / g) ∙ times-count

  pub times-modest : all_modest w.times ≡ true
  times-modest = ap (λ (d : Derived). all_modest d.times) (sym made.1) ∙ (and_parts (fits (lowest sum).coefs (lowest sum).bound) _ made.0).1

  times-exact : (i : ℕ) → i < 25 → times_at i sum ≡ g * times_at i w
  times-exact i l =
      let n : i < length sum.times = (let n = times-count in omega arith) in
      sym (ap (λ x. g * x) (sym (times-quotient i l)) ∙ mul-div_cancel' g (divides sum.times i n))

  -- a column of the sum is g times the column of the new row
  pub column-is : (t : ℕ → ℤ) → blend a b (combination t p.times) (combination t m.times) ≡ pos g *ℤ combination t w.times
  column-is t =
      sym (weighted-blend t a b (λ i. times_at i p) (λ i. times_at i m) (λ i. times_at i sum) 25 times-sum)
      ∙ weighted-scale t g (λ i. times_at i w) (λ i. times_at i sum) 25 times-exact

  pub entry-combined : (c : Column) → Listed c → (y : ℤ) → blend a b (derived_entry c p) (derived_entry c m) ≡ pos g *ℤ y → derived_entry c w ≡ y
  entry-combined c l y e = sym (entry-is c l) ∙ exact g y _ (omega arith) e

  pub zero-combined : (j : ℕ) → j < 16 → blend a b (coef_at j p) (coef_at j m) ≡ pos 0 → coef_at j w ≡ pos 0
  zero-combined j l e = entry-combined (Coef j) l (pos 0) (e ∙ sym (*ℤ-zero (pos g)))

-- the quantity itself leaves
pub cancels : (x y : ℤ) → lt_z (pos 0) x ≡ true → lt_z y (pos 0) ≡ true → blend (nat_abs y) (nat_abs x) x y ≡ pos 0
cancels (pos n) (negsuc k) h l = let e = mul_comm (suc k) n in omega (arith, ints)
cancels (pos n) (pos k) h l = let no : ⊥ = omega (arith, ints, l) in absurd no
cancels (negsuc n) y h l = let no : ⊥ = omega (arith, ints, h) in absurd no
