-- The first place at which a count exceeds a limit, and counts that only grow.
use Rattle.std.proofs.Common.{◌≡◌, ℕ, zero, suc, ◌+◌, ◌<◌, ◌≤◌, Bool, true, false, cond, leb, List, [], ◌∷◌, Some, None, Option, sym, refl, ap, ◌∙◌, inl, inr, arith}
use Rattle.std.proofs.lemmas.List.Sums.{sum_by-cons}
use Rattle.std.proofs.lemmas.Bool.{lt-ltb, le-ltb, leb-true, le-leb, cases_lt, false≢true}
use Rattle.counting.specs.Counts.{first_over, First, is_up_to, placed_up_to}

over-here : (limit : ℕ) (f : ℕ → ℕ) (p n : ℕ) → limit < f p → first_over limit f p (suc n) ≡ Some p
unfolding first_over
over-here limit f p n h = ap (λ b. cond b (Some p) (first_over limit f (suc p) n)) (lt-ltb limit (f p) h)

over-later : (limit : ℕ) (f : ℕ → ℕ) (p n : ℕ) → f p ≤ limit → first_over limit f p (suc n) ≡ first_over limit f (suc p) n
unfolding first_over
over-later limit f p n h = ap (λ b. cond b (Some p) (first_over limit f (suc p) n)) (le-ltb limit (f p) h)

over_none : (limit : ℕ) (f : ℕ → ℕ) (p n : ℕ) → ((q : ℕ) → q < p + n → f q ≤ limit) → first_over limit f p n ≡ None
unfolding first_over
over_none limit f p zero h = refl
over_none limit f p (suc n) h = over-later limit f p n (h p (omega arith)) ∙ over_none limit f (suc p) n (λ q l. h q (omega arith))

over-some : (limit : ℕ) (f : ℕ → ℕ) (p n r : ℕ) → p ≤ r → r < p + n → limit < f r → ((q : ℕ) → q < r → f q ≤ limit) → first_over limit f p n ≡ Some r
over-some limit f p zero r low high over under = let no : ⊥ = omega arith in absurd no
over-some limit f p (suc n) r low high over under = elim (cases_lt p r) [
  | inl l ↦ over-later limit f p n (under p l) ∙ over-some limit f (suc p) n r (omega arith) (omega arith) over under
  | inr l ↦ let e : p ≡ r = omega arith in over-here limit f p n (omega (arith, ap f e)) ∙ ap Some e
]

-- what is first in words is the first by the definition
pub first-is : (limit : ℕ) (f : ℕ → ℕ) (bytes : ℕ) (o : Option ℕ) → First limit f bytes o → o ≡ first_over limit f 0 (suc bytes)
first-is limit f bytes None h = sym (over_none limit f 0 (suc bytes) (λ q l. h q (omega arith)))
first-is limit f bytes (Some p) h = sym (over-some limit f 0 (suc bytes) p (omega arith) (omega arith) h.1 h.2)

over-kept : (limit : ℕ) (f : ℕ → ℕ) (p n : ℕ) → first_over limit f p n ≡ None → (q : ℕ) → p ≤ q → q < p + n → f q ≤ limit
over-kept limit f p zero e q low high = let no : ⊥ = omega arith in absurd no
over-kept limit f p (suc n) e q low high = elim (cases_lt limit (f p)) [
  | inl l ↦ let h = over-here limit f p n l in let z : ◌≡◌ {A = ℕ} 0 1 = cc in omega arith
  | inr l ↦ elim (cases_lt p q) [
    | inl m ↦ over-kept limit f (suc p) n (sym (over-later limit f p n l) ∙ e) q (omega arith) (omega arith)
    | inr m ↦ let z : q ≡ p = omega arith in omega (arith, ap f z)
  ]
]

pub first-kept : (limit : ℕ) (f : ℕ → ℕ) (bytes : ℕ) → first_over limit f 0 (suc bytes) ≡ None → f bytes ≤ limit
first-kept limit f bytes e = over-kept limit f 0 (suc bytes) e bytes (omega arith) (omega arith)

-- a count that only grows
abbrev pub Rising : (ℕ → ℕ) → Type 0
Rising f = (p q : ℕ) → p ≤ q → f p ≤ f q

pub first-none : (limit : ℕ) (f : ℕ → ℕ) (bytes : ℕ) → Rising f → f bytes ≤ limit → first_over limit f 0 (suc bytes) ≡ None
first-none limit f bytes rises h = sym (first-is limit f bytes None (λ q l. omega (arith, rises q bytes l)))

one-rises : (a b : Bool) → (a ≡ true → b ≡ true) → cond a 1 0 ≤ cond b 1 0
one-rises false b h = omega arith
one-rises true true h = omega arith
one-rises true false h = absurd (false≢true (h refl))

up-to-rises : (o : Option ℕ) (p q : ℕ) → p ≤ q → cond (is_up_to p o) 1 0 ≤ cond (is_up_to q o) 1 0
up-to-rises None p q h = omega arith
up-to-rises (Some r) p q h = one-rises (leb r p) (leb r q) (λ e. le-leb r q (omega (arith, leb-true r p e)))

-- of entries with places, there are no fewer up to a later byte
pub placed-rises : {X : Type 0} (place : X → Option ℕ) (xs : List X) → Rising (placed_up_to place xs)
placed-rises place [] p q h = omega arith
placed-rises place (x ∷ xs) p q h =
    let a = sum_by-cons (λ x. cond (is_up_to p (place x)) 1 0) x xs in
    let b = sum_by-cons (λ x. cond (is_up_to q (place x)) 1 0) x xs in
    omega (arith, up-to-rises (place x) p q h, placed-rises place xs p q h)
