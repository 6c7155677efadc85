-- Steps of a loop that tests the numbers below a bound.
use Rattle.std.proofs.Common.{◌≡◌, ℕ, zero, suc, ◌+◌, ◌<◌, ◌≤◌, Bool, true, false, cond, ◌&&◌, List, [], ◌∷◌, length, get_or, map, sym, refl, ap, ap₂, ◌∙◌, ⊎_elim, add-one, arith}
use Rattle.std.specs.List.{list_all, filter, range_with_len}
use Rattle.std.proofs.lemmas.List.Folds.{list_all-append, list_all-map}
use Rattle.std.proofs.lemmas.List.FromFn.{map-range_with_len_more}
use Rattle.std.proofs.lemmas.Bool.{and_from, and_left, and_right, or_from, or_left, or_right, or_parts, or_cases, cases_eq}
use Rattle.ints.specs.Tests.{all_below, any_below, count_below}

pub all_more : (p : ℕ → Bool) (n : ℕ) → all_below n p ≡ true → p n ≡ true → all_below (n + 1) p ≡ true
unfolding all_below
all_more p n h k = rw add-one (and_from _ _ h k)

pub all_from : (p : ℕ → Bool) (n : ℕ) → ((j : ℕ) → j < n → p j ≡ true) → all_below n p ≡ true
unfolding all_below
all_from p zero h = refl
all_from p (suc n) h = and_from _ _ (all_from p n (λ j l. h j (omega arith))) (h n (omega arith))

pub all-broken : (p : ℕ → Bool) (n j : ℕ) → j < n → p j ≡ false → all_below n p ≡ false
unfolding all_below
all-broken p zero j h k = let no : ⊥ = omega arith in absurd no
all-broken p (suc n) j h k =
    ⊎_elim (λ e. and_right _ _ (ap p (sym e) ∙ k)) (λ ne. and_left _ _ (all-broken p n j (omega arith) k)) (cases_eq j n)

pub any-more : (p : ℕ → Bool) (n : ℕ) → any_below n p ≡ false → p n ≡ false → any_below (n + 1) p ≡ false
unfolding any_below
any-more p n h k = rw add-one (or_from _ _ h k)

pub any_found : (p : ℕ → Bool) (n j : ℕ) → j < n → p j ≡ true → any_below n p ≡ true
unfolding any_below
any_found p zero j h k = let no : ⊥ = omega arith in absurd no
any_found p (suc n) j h k =
    ⊎_elim (λ e. or_right _ _ (ap p (sym e) ∙ k)) (λ ne. or_left _ _ (any_found p n j (omega arith) k)) (cases_eq j n)

pub any_none : (p : ℕ → Bool) (n j : ℕ) → j < n → any_below n p ≡ false → p j ≡ false
unfolding any_below
any_none p zero j h k = let no : ⊥ = omega arith in absurd no
any_none p (suc n) j h k =
    let o = or_parts _ _ k in
    ⊎_elim (λ e. ap p e ∙ o.1) (λ ne. any_none p n j (omega arith) o.0) (cases_eq j n)

pub any_some : (p : ℕ → Bool) (n : ℕ) → any_below n p ≡ true → (j : ℕ) × ((j < n) × (p j ≡ true))
unfolding any_below
any_some p zero h = let no : ◌≡◌ {A = ℕ} 0 1 = cc in let bad : ⊥ = omega arith in absurd bad
any_some p (suc n) h =
    ⊎_elim (λ e. let r = any_some p n e in (r.0, (omega (arith, r.1.0), r.1.1))) (λ e. (n, (omega arith, e))) (or_cases _ _ h)

-- the same tests over the list of the numbers below a bound
and_true : (b : Bool) → (b && true) ≡ b
and_true true = refl
and_true false = refl

all_ids : (p : ℕ → Bool) (n : ℕ) → list_all (λ b. b) (map p (range_with_len 0 n)) ≡ all_below n p
unfolding all_below
all_ids p zero = refl
all_ids p (suc n) =
    ap (list_all (λ b. b)) (ap (λ k. map p (range_with_len 0 k)) (sym (add-one n)) ∙ map-range_with_len_more p 0 n n (omega arith))
    ∙ list_all-append (λ b. b) (map p (range_with_len 0 n)) (p n ∷ [])
    ∙ ap₂ (λ x y. x && y) (all_ids p n) (and_true (p n))

pub all_range : (p : ℕ → Bool) (n : ℕ) → list_all p (range_with_len 0 n) ≡ all_below n p
all_range p n = sym (list_all-map (λ b. b) p (range_with_len 0 n)) ∙ all_ids p n

count_front : (p : ℕ → Bool) (n : ℕ) → count_below (suc n) p ≡ cond (p 0) (suc (count_below n (λ j. p (suc j)))) (count_below n (λ j. p (suc j)))
unfolding count_below
count_front p zero = refl
count_front p (suc n) = let e = count_front p n in grind arith

count_none : 0 ≡ count_below 0 (λ j. false)
unfolding count_below
count_none = refl

-- how many of a list of flags are set
pub count_flags : (flags : List Bool) → length (filter (λ b. b) flags) ≡ count_below (length flags) (λ j. get_or flags j false)
count_flags [] = count_none
count_flags (true ∷ bs) = ap suc (count_flags bs) ∙ sym (count_front (λ j. get_or (true ∷ bs) j false) (length bs))
count_flags (false ∷ bs) = count_flags bs ∙ sym (count_front (λ j. get_or (false ∷ bs) j false) (length bs))

pub count-bound : (p : ℕ → Bool) (n : ℕ) → count_below n p ≤ n
unfolding count_below
count-bound p zero = omega arith
count-bound p (suc n) = let h = count-bound p n in grind arith
