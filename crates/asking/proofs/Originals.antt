-- The rows that elimination begins with.
use Rattle.std.proofs.Common.{◌≡◌, ℕ, zero, suc, ◌+◌, ◌<◌, true, ◌≢◌, List, [], ◌∷◌, length, get_or, set, replicate, ℤ, pos, neg_ℤ, Some, refl, ap, ◌∙◌, subst, add-zero, arith}
use Rattle.std.proofs.lemmas.List.FromFn.{get_or-map-range_with_len}
use Rattle.std.proofs.lemmas.List.{get_or-set_same, get_or-set_other}
use Rattle.std.proofs.lemmas.Bool.{and_parts, and_from}
use Rattle.std.proofs.lemmas.Option.{same_Some}
use Rattle.ints.proofs.Weighted.{weighted-one}
use Rattle.rows.specs.declared.row.Row.{Row}
use Rattle.rows.specs.declared.row.Kind.TheVariants.{AtMost}
use Rattle.rows.specs.Meaning.{coef}
use Rattle.rows.specs.Questions.{is_at_most}
use Rattle.rows.proofs.Making.{made-fields}
use Rattle.domains.specs.declared.linear.Column.{Column}
use Rattle.domains.specs.declared.linear.Column.TheVariants.{Coef, Bound}
use Rattle.domains.specs.Linear.{entry, negated}
use Rattle.provers.specs.declared.derived.Derived.{Derived}
use Rattle.provers.specs.Derivations.{original, negation, modest, all_modest}
use Rattle.provers.specs.Elimination.{fact_of, originals}
use Rattle.asking.proofs.Columns.{derived_entry, Listed, combination}
use Rattle.asking.proofs.Options.{opened}
use Rattle.asking.proofs.Stepping.{Sure, sure-append, sure-cond, sure-one}

-- 1 at the place i and 0 elsewhere
abbrev pub alone : ℕ → List ℕ
alone i = set (replicate 25 0) i 1

zeros-at : (n i : ℕ) → get_or {A = ℕ} (replicate n 0) i 0 ≡ 0
zeros-at zero i = refl
zeros-at (suc n) zero = refl
zeros-at (suc n) (suc i) = zeros-at n i

pub alone-here : (i : ℕ) → i < 25 → get_or (alone i) i 0 ≡ 1
alone-here i h = get_or-set_same (replicate 25 0) i 1 0 h

pub alone-there : (i k : ℕ) → k ≢ i → get_or (alone i) k 0 ≡ 0
alone-there i k n = get_or-set_other (replicate 25 0) i k 1 0 n ∙ zeros-at 25 k

modest-set : (xs : List ℕ) (i x : ℕ) → modest x ≡ true → all_modest xs ≡ true → all_modest (set xs i x) ≡ true
unfolding all_modest
modest-set [] i x h k = refl
modest-set (y ∷ ys) zero x h k = and_from _ _ h (and_parts _ _ k).1
modest-set (y ∷ ys) (suc i) x h k = and_from _ _ (and_parts _ _ k).0 (modest-set ys i x h (and_parts _ _ k).1)

pub alone-modest : (i : ℕ) → all_modest (alone i) ≡ true
unfolding all_modest
alone-modest i = modest-set (replicate 25 0) i 1 refl refl

pub alone-picks : (t : ℕ → ℤ) (i : ℕ) → i < 25 → combination t (alone i) ≡ t i
alone-picks t i h = weighted-one t (λ k. get_or (alone i) k 0) i 25 h (alone-here i h) (alone-there i)

pub original-entry : (c : Column) (i : ℕ) (r : Row) → derived_entry c (original i r) ≡ entry c r
original-entry (Coef j) i r = refl
original-entry Bound i r = refl

pub negation-entry : (c : Column) (goal r : Row) → Listed c → negation goal ≡ Some r → entry c r ≡ negated c goal
negation-entry (Coef j) goal r l e =
    let f : ℕ → ℤ = λ i. neg_ℤ (coef goal i) in
    ap (λ cs. get_or cs j (pos 0)) (made-fields _ _ AtMost r e).0 ∙ get_or-map-range_with_len f 0 16 j j (pos 0) l (omega arith)
negation-entry Bound goal r l e = (made-fields _ _ AtMost r e).1

-- what the first rows have, given it of a fact's row and of the negated goal's
module _ (R : Derived → Type 0) (goal : Row) where
  pub sure-originals : (i : ℕ) (rs : List Row) → ((k : ℕ) (r : Row) → k < length rs → r ≡ get_or rs k r → is_at_most r.kind ≡ true → R (original (i + k) r)) →
      ((r : Row) → negation goal ≡ Some r → R (original (i + length rs) r)) → Sure R (originals i rs goal)
  unfolding originals
  sure-originals i [] h d =
      sure-one R _ (λ w e.
      let o = opened (negation goal) (λ r. Some (original i r)) w e in
      subst R (same_Some (original i o.0) w o.1.1) (rw add-zero at (d o.0 o.1.0)))
  sure-originals i (r ∷ rs) h d =
      sure-append R (fact_of i r) (originals (i + 1) rs goal)
      (sure-cond R (is_at_most r.kind) _ (λ e. (rw add-zero at (h 0 r (omega arith) refl e), tt)))
      (sure-originals (i + 1) rs
      (λ k s l e m. let q : i + suc k ≡ i + 1 + k = omega arith in subst (λ (x : ℕ). R (original x s)) q (h (suc k) s (omega arith) e m))
      (λ s e. let q : i + length (r ∷ rs) ≡ i + 1 + length rs = omega arith in subst (λ (x : ℕ). R (original x s)) q (d s e)))
