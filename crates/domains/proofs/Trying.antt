-- Steps of the search for values that break the goal.
use Rattle.std.proofs.Common.{◌≡◌, ℕ, zero, suc, ◌-◌, ◌<◌, ◌≤◌, Bool, true, false, cond, not, ◌&&◌, ◌||◌, eqb, leb, List, [], ◌∷◌, length, set, replicate, Ok, sym, refl, ap, ◌∙◌, arith}
use Rattle.std.specs.List.{list_any}
use Rattle.std.proofs.lemmas.Bool.{le-leb}
use Rattle.ints.specs.Tests.{any_below, count_below, is_zero}
use Rattle.rows.specs.declared.row.Row.{Row}
use Rattle.rows.specs.Meaning.{coef}
use Rattle.rows.specs.Questions.{well_shaped}
use Rattle.domains.specs.declared.fault.Reason.TheVariants.{Shape, Width, Case}
use Rattle.domains.specs.Faults.{fault}
use Rattle.domains.specs.Modes.{occurs_in, occurs, width, at, breaks, broken, modes}

pub occurs_some : (j : ℕ) (rs : List Row) → occurs_in j rs ≡ list_any (λ r. not (is_zero (coef r j))) rs
unfolding occurs_in
occurs_some j [] = refl
occurs_some j (r ∷ rs) = ap (λ b. not (is_zero (coef r j)) || b) (occurs_some j rs)

module _ (facts : List Row) (goal : Row) (n : ℕ) (p : List ℕ) where
  stepped : (b : Bool) → (n ≡ 0 → ⊥) → occurs facts goal (n - 1) ≡ b → broken facts goal n p ≡ cond b (any_below 16 (λ v. broken facts goal (n - 1) (set p (n - 1) v))) (broken facts goal (n - 1) p)
  unfolding broken
  stepped b h o =
      let e : n ≡ suc (n - 1) = omega arith in
      ap (λ k. broken facts goal k p) e ∙ ap (λ c. cond c (any_below 16 (λ v. broken facts goal (n - 1) (set p (n - 1) v))) (broken facts goal (n - 1) p)) o

  pub broken-skip : (n ≡ 0 → ⊥) → occurs facts goal (n - 1) ≡ false → broken facts goal n p ≡ broken facts goal (n - 1) p
  broken-skip h o = stepped false h o

  pub broken-each : (n ≡ 0 → ⊥) → occurs facts goal (n - 1) ≡ true → broken facts goal n p ≡ any_below 16 (λ v. broken facts goal (n - 1) (set p (n - 1) v))
  broken-each h o = stepped true h o

  pub broken-none : n ≡ 0 → broken facts goal n p ≡ breaks facts goal (at p)
  unfolding broken
  broken-none e = ap (λ k. broken facts goal k p) e

pub count_same : (f g : ℕ → Bool) (n : ℕ) → ((j : ℕ) → j < n → f j ≡ g j) → count_below n f ≡ count_below n g
unfolding count_below
count_same f g zero h = refl
count_same f g (suc n) h =
    ap (λ b. cond b (suc (count_below n f)) (count_below n f)) (h n (omega arith)) ∙ ap (λ c. cond (g n) (suc c) c) (count_same f g n (λ j l. h j (omega arith)))

module _ (facts : List Row) (goal : Row) (cert : List ℕ) (shaped : (well_shaped facts goal && eqb (length cert) 0) ≡ true) where
  tested : (w b : Bool) → leb (width facts goal) 4 ≡ w → broken facts goal 16 (replicate 16 0) ≡ b → modes facts goal cert ≡ cond w (cond b (fault Case) (Ok tt)) (fault Width)
  tested w b e f =
      ap (λ s. cond s (cond (leb (width facts goal) 4) (cond (broken facts goal 16 (replicate 16 0)) (fault Case) (Ok tt)) (fault Width)) (fault Shape)) shaped
      ∙ ap (λ x. cond x (cond (broken facts goal 16 (replicate 16 0)) (fault Case) (Ok tt)) (fault Width)) e
      ∙ ap (λ x. cond w (cond x (fault Case) (Ok tt)) (fault Width)) f

  pub tried : (b : Bool) → width facts goal ≤ 4 → broken facts goal 16 (replicate 16 0) ≡ b → cond b (fault Case) (Ok tt) ≡ modes facts goal cert
  tried b h f = sym (tested true b (le-leb _ _ h) f)
