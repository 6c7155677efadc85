-- The coefficients of one quantity: a one among zeros.
use Rattle.std.proofs.Common.{◌≡◌, ℕ, ◌<◌, ◌≤◌, Bool, cond, eqb, List, get_or, set, replicate, ℤ, pos, sym, refl, ap, ◌∙◌, ⊎_elim, arith}
use Rattle.std.proofs.lemmas.List.{length-set, get_or-set_same, get_or-set_other, get_or-replicate}
use Rattle.std.proofs.lemmas.Bool.{cases_eq, eq-eqb, ne_eqb}
use Rattle.language.specs.Terms.{each}
use Rattle.terms.proofs.Filling.{filled-all}

abbrev zeros : List ℤ
zeros = replicate 16 (pos 0)

module _ (n : ℕ) where
  abbrev unit : ℕ → ℤ
  unit j = cond (eqb j n) (pos 1) (pos 0)

  unit-other : (k : ℕ) → (k ≡ n → ⊥) → pos 0 ≡ unit k
  unit-other k h = sym (ap (λ (b : Bool). cond b (pos 1) (pos 0)) (ne_eqb k n h))

  pub unit-below : n < 16 → set zeros n (pos 1) ≡ each unit
  unit-below h = filled-all unit (set zeros n (pos 1)) 16 (record { long = length-set zeros n (pos 1); done = go }) (omega arith)
    where
      go : (k : ℕ) → k < 16 → get_or (set zeros n (pos 1)) k (pos 0) ≡ unit k
      go k l =
          ⊎_elim
          (λ (e : k ≡ n). ap (λ (i : ℕ). get_or (set zeros n (pos 1)) i (pos 0)) e ∙ get_or-set_same zeros n (pos 1) (pos 0) h ∙ sym (ap (λ (b : Bool). cond b (pos 1) (pos 0)) (eq-eqb k n e)))
          (λ (e : k ≡ n → ⊥). get_or-set_other zeros n k (pos 1) (pos 0) e ∙ get_or-replicate 16 k (pos 0) (pos 0) l ∙ unit-other k e)
          (cases_eq k n)

  pub unit-past : 16 ≤ n → zeros ≡ each unit
  unit-past h = filled-all unit zeros 16 (record { long = refl; done = λ k l. get_or-replicate 16 k (pos 0) (pos 0) l ∙ unit-other k (λ e. let no : ⊥ = omega arith in no) }) (omega arith)
