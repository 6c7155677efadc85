-- What lies within a limit, and within a wider one.
use Rattle.std.proofs.Common.{◌≡◌, ℕ, zero, suc, ◌+◌, ◌≤◌, Bool, true, false, ◌&&◌, List, [], ◌∷◌, map, get_or, ℤ, pos, neg_ℤ, sym, refl, ap, ◌∙◌, arith}
use lib.Signed.{le_z}
use Rattle.std.specs.List.{range_with_len}
use Rattle.std.proofs.lemmas.Int.{ints}
use Rattle.std.proofs.lemmas.Bool.{and_parts, and_from, and_left, and_right, both_ways}
use Rattle.ints.specs.Sums.{Near}
use Rattle.ints.specs.Tests.{within, all_within}
use Rattle.rows.specs.Limits.{small, all_small, fits}
use Rattle.rows.proofs.Limiting.{small_is, within_small}
use Rattle.language.specs.Terms.{each}

module _ (k : ℕ) where
  pub within-is : (z : ℤ) → within (pos k) z ≡ true → Near k z
  within-is z h = let p = and_parts (le_z (neg_ℤ (pos k)) z) (le_z z (pos k)) h in (omega (arith, ints), omega (arith, ints))

  pub within-from : (z : ℤ) → Near k z → within (pos k) z ≡ true
  within-from z h =
      let a : le_z (neg_ℤ (pos k)) z ≡ true = grind (arith, ints, h.0) in
      let b : le_z z (pos k) ≡ true = grind (arith, ints, h.1) in
      and_from _ _ a b

  pub within-at : (zs : List ℤ) → all_within (pos k) zs ≡ true → (j : ℕ) → Near k (get_or zs j (pos 0))
  unfolding all_within
  within-at [] h j = (omega (arith, ints), omega (arith, ints))
  within-at (z ∷ zs) h zero = within-is z (and_parts _ _ h).0
  within-at (z ∷ zs) h (suc j) = within-at zs (and_parts _ _ h).1 j

  within-map : (f : ℕ → ℤ) → ((j : ℕ) → Near k (f j)) → (a n : ℕ) → all_within (pos k) (map f (range_with_len a n)) ≡ true
  unfolding all_within
  within-map f h a zero = refl
  within-map f h a (suc n) = and_from _ _ (within-from (f a) (h a)) (within-map f h (a + 1) n)

  pub within-each : (f : ℕ → ℤ) → ((j : ℕ) → Near k (f j)) → all_within (pos k) (each f) ≡ true
  unfolding each
  within-each f h = within-map f h 0 16

  module _ (l : ℕ) (wide : k ≤ l) where
    pub within_wider : (z : ℤ) → within (pos k) z ≡ true → within (pos l) z ≡ true
    within_wider z h =
        let n = within-is z h in
        let a : le_z (neg_ℤ (pos l)) z ≡ true = grind (arith, ints, n.0, wide) in
        let b : le_z z (pos l) ≡ true = grind (arith, ints, n.1, wide) in
        and_from _ _ a b

    pub all-wider : (zs : List ℤ) → all_within (pos k) zs ≡ true → all_within (pos l) zs ≡ true
    unfolding all_within
    all-wider [] h = refl
    all-wider (z ∷ zs) h = let p = and_parts _ _ h in and_from _ _ (within_wider z p.0) (all-wider zs p.1)

-- a row's limit is as far below 0 as above
too-far : (z : ℤ) → within (pos 4000000) z ≡ false → small (neg_ℤ z) ≡ false
too-far z h = by (small (neg_ℤ z)) refl
  where
    by : (b : Bool) → small (neg_ℤ z) ≡ b → small (neg_ℤ z) ≡ false
    by false e = e
    by true e = let n = small_is (neg_ℤ z) e in absurd (both_ways _ h (within-from 4000000 z (omega (arith, ints), omega (arith, ints))))

pub past-limits : (z : ℤ) (zs : List ℤ) → within (pos 4000000) z && all_within (pos 4000000) zs ≡ false → fits zs (neg_ℤ z) ≡ false
past-limits z zs h = by (within (pos 4000000) z) refl
  where
    by : (b : Bool) → within (pos 4000000) z ≡ b → fits zs (neg_ℤ z) ≡ false
    by false e = and_left (small (neg_ℤ z)) (all_small zs) (too-far z e)
    by true e = and_right (small (neg_ℤ z)) (all_small zs) (sym (within_small zs) ∙ sym (ap (λ b. b && all_within (pos 4000000) zs) e) ∙ h)
