-- The modes decide: where no values break the goal it follows, and where some do there is an assignment that breaks it.
use Rattle.std.specs.Prelude.{◌≡◌, ℕ, zero, suc, ◌<◌, ◌≤◌, Bool, true, false, cond, not, ◌&&◌, List, [], ◌∷◌, length, replicate, ℤ, pos, negsuc, ◌*ℤ◌, ◌≤ℤ◌, Ok, ◌==◌, ◌≢◌, nat_le, slice_index, slice_set}
use Rattle.std.proofs.Math.Logic.{⊎_elim}
use Rattle.std.proofs.Math.Path.{refl, sym, ap}
use Rattle.std.proofs.Common.{ap₂, subst, ◌∙◌}
use native.Mathlib.Omega.{arith}
use Rattle.std.proofs.Math.IntN.{zero-*ℤ}
use Rattle.std.proofs.lemmas.List.{length-set, length-replicate, get_or-set_same, get_or-set_other}
use Rattle.std.proofs.lemmas.Int.{ints}
use Rattle.std.proofs.lemmas.Bool.{and_parts, or_left, or_right, cases_eq}
use Rattle.ints.specs.Tests.{is_zero, any_below}
use Rattle.ints.proofs.Belows.{any_none, any_some}
use Rattle.ints.proofs.Sums.{sum_same}
use Rattle.rows.specs.declared.row.Row.{Row}
use Rattle.rows.specs.Meaning.{Assignment, coef, value, Meets, MeetsAll, Within, Follows}
use Rattle.rows.specs.Questions.{well_shaped}
use Rattle.rows.specs.Testing.{holds, meets, meets_all}
use Rattle.rows.proofs.Tested.{holds-is, is-holds, meets-all-is}
use Rattle.domains.specs.declared.fault.Reason.TheVariants.{Shape, Width, Case}
use Rattle.domains.specs.Faults.{Good, fault}
use Rattle.domains.specs.Modes.{occurs_in, occurs, width, at, breaks, broken, modes, Broken}
use Rattle.domains.specs.Outcomes.{good-parts}

zero_or : (z p q : ℤ) → (is_zero z ≡ false → p ≡ q) → z *ℤ p ≡ z *ℤ q
zero_or (pos zero) p q h = zero-*ℤ p ∙ sym (zero-*ℤ q)
zero_or (pos (suc n)) p q h = ap (λ x. pos (suc n) *ℤ x) (h refl)
zero_or (negsuc n) p q h = ap (λ x. negsuc n *ℤ x) (h refl)

-- a row's value looks only at its own quantities
same-value : (r : Row) (p q : Assignment) → ((j : ℕ) → j < 16 → is_zero (coef r j) ≡ false → p j ≡ q j) → value r p ≡ value r q
same-value r p q h = sum_same _ _ 16 (λ j l. zero_or (coef r j) (p j) (q j) (h j l))

all-met : (p q : Assignment) (rs : List Row) → ((j : ℕ) → j < 16 → occurs_in j rs ≡ true → p j ≡ q j) → MeetsAll q rs → meets_all p rs ≡ true
unfolding meets_all occurs_in
all-met p q [] h m = refl
all-met p q (r ∷ rs) h m =
    ap₂ (λ x y. x && y)
    (ap (λ v. holds r.kind v r.bound) (same-value r p q (λ j l z. h j l (or_left _ _ (ap not z)))) ∙ is-holds _ _ _ m.0)
    (all-met p q rs (λ j l o. h j l (or_right _ _ o)) m.1)

not-broken : (x y : Bool) → (x && not y) ≡ false → x ≡ true → y ≡ true
not-broken x true h k = refl
not-broken true false h k = cc
not-broken false false h k = cc

module _ (facts : List Row) (goal : Row) where
  module _ (q : Assignment) where
    -- p has q's values at the occurring quantities from n on
    abbrev Agrees : ℕ → List ℕ → Type 0
    Agrees n p = (j : ℕ) → n ≤ j → j < 16 → occurs facts goal j ≡ true → at p j ≡ q j

    found : (z : ℤ) → pos 0 ≤ℤ z → z ≤ℤ pos 15 → (v : ℕ) × ((v < 16) × (z ≡ pos v))
    found (pos v) l h = (v, (omega (arith, ints), refl))
    found (negsuc v) l h = let no : ⊥ = omega (arith, ints) in absurd no

    holds-up : Within (pos 0) (pos 15) q → MeetsAll q facts → (n : ℕ) (p : List ℕ) → n ≤ 16 → length p ≡ 16 → Agrees n p → broken facts goal n p ≡ false → Meets q goal
    unfolding broken
    holds-up w m zero p l s a f =
        let g = same-value goal (at p) q (λ j k z. a j (omega arith) k (or_left _ _ (ap not z))) in
        let h = all-met (at p) q facts (λ j k o. a j (omega arith) k (or_right _ _ o)) m in
        holds-is _ _ _ (ap (λ v. holds goal.kind v goal.bound) (sym g) ∙ not-broken _ _ f h)
    holds-up w m (suc n) p l s a f =
        let r = w n (omega arith) in
        let v = found (q n) r.0 r.1 in
        let F : Bool → Type 0 = λ b. occurs facts goal n ≡ b → cond b (any_below 16 (λ x. broken facts goal n (slice_set p n x))) (broken facts goal n p) ≡ false → Meets q goal in
        let both : F (occurs facts goal n) = elim (occurs facts goal n) as F [
          | true ↦ λ o k. holds-up w m n (slice_set p n v.0) (omega arith) (simp length-set s)
              (λ j b c d. ⊎_elim (λ e. ap pos (ap (λ i. slice_index (slice_set p n v.0) i) e ∙ get_or-set_same p n v.0 0 (omega arith)) ∙ sym (ap q e ∙ v.1.1)) (λ ne. ap pos (get_or-set_other p n j v.0 0 ne) ∙ a j (omega arith) c d) (cases_eq j n))
              (any_none (λ x. broken facts goal n (slice_set p n x)) 16 v.0 v.1.0 k)
          | false ↦ λ o k. holds-up w m n p (omega arith) s
              (λ j b c d. ⊎_elim (λ e. let z : true ≡ false = sym d ∙ ap (occurs facts goal) e ∙ o in let no : ⊥ = grind arith in absurd no) (λ ne. a j (omega arith) c d) (cases_eq j n)) k
        ] in
        both refl f

  pub modes-follow : broken facts goal 16 (replicate 16 0) ≡ false → Follows (pos 0) (pos 15) facts goal
  modes-follow f = record { follows = λ q w m. holds-up q w m 16 (replicate 16 0) (omega arith) (length-replicate {A = ℕ} 16 0) (λ j a b c. let no : ⊥ = omega arith in absurd no) f }

  -- values from 0 to 15
  abbrev Low : List ℕ → Type 0
  Low p = (j : ℕ) → slice_index p j ≤ 15

  low-set : (p : List ℕ) (n v : ℕ) → length p ≡ 16 → n < 16 → v < 16 → Low p → Low (slice_set p n v)
  low-set p n v s l h low j =
      let M : ℕ → Type 0 = λ x. x ≤ 15 in
      ⊎_elim (λ e. subst M (sym (ap (λ i. slice_index (slice_set p n v) i) e ∙ get_or-set_same p n v 0 (omega arith))) (omega arith))
      (λ ne. subst M (sym (get_or-set_other p n j v 0 ne)) (low j)) (cases_eq j n)

  module _ where
    breaking : (n : ℕ) (p : List ℕ) → n ≤ 16 → length p ≡ 16 → Low p → broken facts goal n p ≡ true → (r : List ℕ) × (Low r × (breaks facts goal (at r) ≡ true))
    unfolding broken
    breaking zero p l s low f = (p, (low, f))
    breaking (suc n) p l s low f =
        let F : Bool → Type 0 = λ b. cond b (any_below 16 (λ x. broken facts goal n (slice_set p n x))) (broken facts goal n p) ≡ true → (r : List ℕ) × (Low r × (breaks facts goal (at r) ≡ true)) in
        let both : F (occurs facts goal n) = elim (occurs facts goal n) as F [
          | true ↦ λ k. let v = any_some (λ x. broken facts goal n (slice_set p n x)) 16 k in breaking n (slice_set p n v.0) (omega arith) (simp length-set s) (low-set p n v.0 s (omega arith) v.1.0 low) v.1.1
          | false ↦ λ k. breaking n p (omega arith) s low k
        ] in
        both f

  low_zeros : Low (replicate 16 0)
  low_zeros j = zeros 16 j
    where
      zeros : (n j : ℕ) → slice_index (replicate n 0) j ≤ 15
      zeros zero j = omega arith
      zeros (suc n) zero = omega arith
      zeros (suc n) (suc j) = zeros n j

  true-not : (b : Bool) → not b ≡ true → b ≢ true
  true-not true h k = let no : ◌≡◌ {A = ℕ} 0 1 = cc in omega arith
  true-not false h k = let no : ◌≡◌ {A = ℕ} 0 1 = cc in omega arith

  pub modes-broken : broken facts goal 16 (replicate 16 0) ≡ true → Broken (pos 0) (pos 15) facts goal
  modes-broken f =
      let r = breaking 16 (replicate 16 0) (omega arith) (length-replicate {A = ℕ} 16 0) low_zeros f in
      let p = and_parts (meets_all (at r.0) facts) _ r.1.1 in
      record {
        by = at r.0;
        within = λ j l. let h = r.1.0 j in (omega (arith, ints), omega (arith, ints));
        meets_facts = meets-all-is (at r.0) facts p.0;
        breaks_goal = λ m. true-not (meets (at r.0) goal) p.1 (is-holds _ _ _ m);
      }

  good-last : (b : Bool) → Good (cond b (fault Case) (Ok tt)) → b ≡ false
  good-last true g = absurd g
  good-last false g = refl

  pub modes-sound : (cert : List ℕ) → Good (modes facts goal cert) → Follows (pos 0) (pos 15) facts goal
  modes-sound cert g =
      let s = good-parts (well_shaped facts goal && length cert == 0) _ Shape g in
      let w = good-parts (nat_le (width facts goal) 4) _ Width s.1 in
      modes-follow (good-last (broken facts goal 16 (replicate 16 0)) w.1)
