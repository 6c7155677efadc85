-- Numbers that are each held to a limit.
use Rattle.std.proofs.Common.{◌≡◌, ℕ, zero, suc, ◌<◌, Bool, true, false, cond, ◌&&◌, List, [], ◌∷◌, map, length, get_or, ℤ, Some, None, sym, refl, ap, ◌∙◌, ap₂, arith}
use Rattle.std.specs.Prelude.{Ok, Err, Result}
use Rattle.std.specs.Result.{IsErr, result_ok}
use Rattle.std.proofs.lemmas.Bool.{true≢false, and_right}
use Rattle.rows.specs.Limits.{small, all_small}
use Rattle.provers.specs.Derivations.{kept, modest, all_modest}

pub kept-some : {X : Type 0} (test : X → Bool) (x y : X) → Some y ≡ kept test x → (test x ≡ true) × (x ≡ y)
kept-some test x y h =
    let F : Bool → Type 0 = λ b. Some y ≡ cond b (Some x) None → (b ≡ true) × (x ≡ y) in
    let both : F (test x) = elim (test x) as F [ true ↦ λ e. (refl, cc) | false ↦ λ e. (cc, cc) ] in
    both h

-- a call that refused gives nothing
pub unresulted : {X E : Type 0} (r : Result X E) → IsErr r → result_ok r ≡ None
unresulted (Ok x) h = absurd (true≢false (sym h))
unresulted (Err e) h = refl

pub kept-none : {X : Type 0} (test : X → Bool) (x : X) → None ≡ kept test x → test x ≡ false
kept-none test x h =
    let F : Bool → Type 0 = λ b. None ≡ cond b (Some x) None → b ≡ false in
    let both : F (test x) = elim (test x) as F [ true ↦ λ e. cc | false ↦ λ e. refl ] in
    both h

module _ {X Y : Type 0} (test : Y → Bool) (all : List Y → Bool) (none : all [] ≡ true) (more : (y : Y) (ys : List Y) → all (y ∷ ys) ≡ (test y && all ys)) (f : X → Y) where
  -- each passes
  pub all_kept : (d : X) (e : Y) (xs : List X) (ys : List Y) → length xs ≡ length ys → ((i : ℕ) → i < length xs → Some (get_or ys i e) ≡ kept test (f (get_or xs i d))) → Some ys ≡ kept all (map f xs)
  all_kept d e [] [] l h = sym (ap (λ b. cond b (Some []) None) none)
  all_kept d e [] (y ∷ ys) l h = let no : ⊥ = omega arith in absurd no
  all_kept d e (x ∷ xs) [] l h = let no : ⊥ = omega arith in absurd no
  all_kept d e (x ∷ xs) (y ∷ ys) l h =
      let k = kept-some test (f x) y (h 0 (omega arith)) in
      let r = kept-some all (map f xs) ys (all_kept d e xs ys (omega arith) (λ i j. h (suc i) (omega arith))) in
      let t : all (map f (x ∷ xs)) ≡ true = more (f x) (map f xs) ∙ ap₂ (λ a b. a && b) k.0 r.0 in
      ap Some (ap₂ (λ z zs. z ∷ zs) (sym k.1) (sym r.1)) ∙ sym (ap (λ b. cond b (Some (map f (x ∷ xs))) None) t)

  -- one does not
  none-all : (d : X) (xs : List X) (i : ℕ) → i < length xs → test (f (get_or xs i d)) ≡ false → all (map f xs) ≡ false
  none-all d [] i l h = let no : ⊥ = omega arith in absurd no
  none-all d (y ∷ xs) zero l h = more (f y) (map f xs) ∙ ap (λ b. b && all (map f xs)) h
  none-all d (y ∷ xs) (suc i) l h = more (f y) (map f xs) ∙ and_right (test (f y)) _ (none-all d xs i (omega arith) h)

  pub none_kept : (d : X) (xs : List X) (i : ℕ) → i < length xs → None ≡ kept test (f (get_or xs i d)) → None ≡ kept all (map f xs)
  none_kept d xs i l h = sym (ap (λ b. cond b (Some (map f xs)) None) (none-all d xs i l (kept-none test (f (get_or xs i d)) h)))

-- the two tests of a derived row's numbers
pub small-none : all_small [] ≡ true
unfolding all_small
small-none = refl

pub small-more : (z : ℤ) (zs : List ℤ) → all_small (z ∷ zs) ≡ (small z && all_small zs)
unfolding all_small
small-more z zs = refl

pub modest-none : all_modest [] ≡ true
unfolding all_modest
modest-none = refl

pub modest-more : (n : ℕ) (ns : List ℕ) → all_modest (n ∷ ns) ≡ (modest n && all_modest ns)
unfolding all_modest
modest-more n ns = refl
