-- Laws of Euclid's algorithm: its steps, and that what it gives divides.
use Rattle.std.proofs.Common.{◌≡◌, ℕ, zero, suc, ◌%◌, ◌<◌, ◌≤◌, max, List, [], ◌∷◌, length, get_or, fold, sym, refl, ap, subst, ⊎_elim, arith}
use Prim.Native.Nat.{◌∣◌}
use native.Mathlib.Nat.{dvd_refl, dvd-zero, dvd_trans, dvd-mod_iff, one-dvd}
use Rattle.std.proofs.lemmas.Bool.{cases_eq}
use Rattle.ints.specs.Divisors.{gcd_in, gcd_of, divisor_of}

enough : (k l a b : ℕ) → b ≤ k → b ≤ l → gcd_in k a b ≡ gcd_in l a b
unfolding gcd_in
enough zero zero a b h i = refl
enough zero (suc l) a zero h i = refl
enough zero (suc l) a (suc b) h i = let no : ⊥ = omega arith in absurd no
enough (suc k) zero a zero h i = refl
enough (suc k) zero a (suc b) h i = let no : ⊥ = omega arith in absurd no
enough (suc k) (suc l) a zero h i = refl
enough (suc k) (suc l) a (suc b) h i =
    let m : a % suc b < suc b = omega arith in
    enough k l (suc b) (a % suc b) (omega arith) (omega arith)

pub gcd-step : (a b : ℕ) → (b ≡ 0 → ⊥) → gcd_of a b ≡ gcd_of b (a % b)
unfolding gcd_of gcd_in
gcd-step a zero h = absurd (h refl)
gcd-step a (suc b) h =
    let m : a % suc b < suc b = omega arith in
    enough b (a % suc b) (suc b) (a % suc b) (omega arith) (omega arith)

pub gcd-none : (a b : ℕ) → b ≡ 0 → gcd_of a b ≡ a
unfolding gcd_of gcd_in
gcd-none a b e = ap (gcd_of a) e

both : (k a b : ℕ) → b ≤ k → (gcd_in k a b ∣ a) × (gcd_in k a b ∣ b)
unfolding gcd_in
both zero a b h = let e : b ≡ 0 = omega arith in (dvd_refl a, subst (λ (n : ℕ). a ∣ n) (sym e) (dvd-zero a))
both (suc k) a zero h = (dvd_refl a, dvd-zero a)
both (suc k) a (suc b) h =
    let m : a % suc b < suc b = omega arith in
    let p = both k (suc b) (a % suc b) (omega arith) in
    ((dvd-mod_iff (gcd_in k (suc b) (a % suc b)) {m = a} {n = suc b} p.0).0 p.1, p.0)

each : (xs : List ℕ) (g : ℕ) → (fold gcd_of g xs ∣ g) × ((i : ℕ) → i < length xs → fold gcd_of g xs ∣ get_or xs i 0)
unfolding gcd_of
each [] g = (dvd_refl g, λ i h. let no : ⊥ = omega arith in absurd no)
each (x ∷ xs) g =
    let p = each xs (gcd_of g x) in
    let q = both x g x (omega arith) in (
      dvd_trans (fold gcd_of (gcd_of g x) xs) p.0 q.0,
      λ i. elim i as (λ k. k < length (x ∷ xs) → fold gcd_of (gcd_of g x) xs ∣ get_or (x ∷ xs) k 0)
          [ zero ↦ λ h. dvd_trans (fold gcd_of (gcd_of g x) xs) p.0 q.1 | suc k ↦ λ h. p.1 k (omega arith) ],
    )

pub divides : (xs : List ℕ) (i : ℕ) → i < length xs → divisor_of xs ∣ get_or xs i 0
divides xs i h =
    let g = fold gcd_of 0 xs in
    ⊎_elim
    (λ z. let e : max g 1 ≡ 1 = omega arith in subst (λ (n : ℕ). n ∣ get_or xs i 0) (sym e) (one-dvd (get_or xs i 0)))
    (λ nz. let e : max g 1 ≡ g = omega arith in subst (λ (n : ℕ). n ∣ get_or xs i 0) (sym e) ((each xs 0).1 i h))
    (cases_eq g 0)
