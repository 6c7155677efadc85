-- Numbers that are each held to a limit.
use Rattle.std.proofs.Common.{◌≡◌, ℕ, zero, suc, ◌<◌, Bool, true, false, cond, ◌&&◌, List, [], ◌∷◌, length, get_or, ℤ, pos, Some, None, Ok, Err, Result, sym, refl, ap, ◌∙◌, ap₂, arith}
use Rattle.std.specs.Prelude.{MatchResult}
use Rattle.std.specs.Result.{result_ok}
use Rattle.std.proofs.lemmas.Bool.{and_right}
use Rattle.ints.specs.Tests.{within, all_within}
use Rattle.language.specs.Terms.{near, all_near}

-- the limit of terms as a limit that is given
pub within_near : (zs : List ℤ) → all_within (pos 1000000) zs ≡ all_near zs
unfolding all_within all_near
within_near [] = refl
within_near (z ∷ zs) = ap (λ (b : Bool). near z && b) (within_near zs)

module _ {X : Type 0} (x : X) where
  pub kept-none : (b : Bool) → None ≡ cond b (Some x) None → b ≡ false
  kept-none true e = cc
  kept-none false e = refl

  kept-some : (b : Bool) (y : X) → Some y ≡ cond b (Some x) None → (b ≡ true) × (y ≡ x)
  kept-some true y e = (refl, cc)
  kept-some false y e = (cc, cc)

-- each is held, or one is not
module _ (limit : ℤ) where
  pub all-held : (xs ys : List ℤ) → length xs ≡ length ys → ((i : ℕ) → i < length xs → Some (get_or ys i (pos 0)) ≡ cond (within limit (get_or xs i (pos 0))) (Some (get_or xs i (pos 0))) None)
      → Some ys ≡ cond (all_within limit xs) (Some xs) None
  unfolding all_within
  all-held [] [] l h = refl
  all-held [] (y ∷ ys) l h = let no : ⊥ = omega arith in absurd no
  all-held (x ∷ xs) [] l h = let no : ⊥ = omega arith in absurd no
  all-held (x ∷ xs) (y ∷ ys) l h =
      let k = kept-some x (within limit x) y (h 0 (omega arith)) in
      let r = kept-some xs (all_within limit xs) ys (all-held xs ys (omega arith) (λ i j. h (suc i) (omega arith))) in
      ap Some (ap₂ (λ z zs. z ∷ zs) k.1 r.1) ∙ sym (ap (λ b. cond b (Some (x ∷ xs)) None) (ap₂ (λ a b. a && b) k.0 r.0))

  one-broken : (d : ℤ) (xs : List ℤ) (i : ℕ) → i < length xs → within limit (get_or xs i d) ≡ false → all_within limit xs ≡ false
  unfolding all_within
  one-broken d [] i l h = let no : ⊥ = omega arith in absurd no
  one-broken d (x ∷ xs) zero l h = ap (λ b. b && all_within limit xs) h
  one-broken d (x ∷ xs) (suc i) l h = and_right (within limit x) _ (one-broken d xs i (omega arith) h)

  pub held-broken : (d : ℤ) (xs : List ℤ) (i : ℕ) → i < length xs → None ≡ cond (within limit (get_or xs i d)) (Some (get_or xs i d)) None → None ≡ cond (all_within limit xs) (Some xs) None
  held-broken d xs i l h = sym (ap (λ b. cond b (Some xs) None) (one-broken d xs i l (kept-none (get_or xs i d) _ h)))

  pub held-all : {E : Type 0} (xs : List ℤ) (r : Result (List ℤ) E) → MatchResult r (λ ys. Some ys ≡ cond (all_within limit xs) (Some xs) None) (λ e. None ≡ cond (all_within limit xs) (Some xs) None) → result_ok r ≡ cond (all_within limit xs) (Some xs) None
  held-all xs (Ok ys) h = h
  held-all xs (Err e) h = h
