-- Steps of the linear domain's loops.
use Rattle.std.proofs.Common.{◌≡◌, ℕ, zero, suc, ◌≤◌, true, ◌&&◌, leb, List, [], ◌∷◌, length, get_or, ℤ, pos, ◌+ℤ◌, ◌*ℤ◌, sym, refl, ap, ◌∙◌, ap₂, arith}
use Rattle.std.specs.List.{list_all, zip}
use Rattle.std.proofs.lemmas.Bool.{and_parts, leb-true}
use Rattle.std.proofs.lemmas.Int.{ints}
use Rattle.ints.specs.Sums.{Near}
use Rattle.rows.specs.declared.row.Row.{Row}
use Rattle.rows.proofs.Limiting.{coef-near, bound-near}
use Rattle.domains.specs.declared.linear.Column.{Column}
use Rattle.domains.specs.declared.linear.Column.TheVariants.{Coef, Bound}
use Rattle.domains.specs.Linear.{weigh, numbers, kinds, kind_ok, entry, negated}

pub entry-near : (c : Column) (r : Row) → Near 4000000 (entry c r)
entry-near (Coef j) r = coef-near r j
entry-near Bound r = bound-near r

pub negated-near : (c : Column) (r : Row) → Near 4000001 (negated c r)
negated-near (Coef j) r = let n = coef-near r j in (omega (arith, ints), omega (arith, ints))
negated-near Bound r = let n = bound-near r in (omega (arith, ints), omega (arith, ints))

pub numbers_is : (ms : List ℕ) → numbers ms ≡ list_all (λ m. leb m 1000000) ms
unfolding numbers
numbers_is [] = refl
numbers_is (m ∷ ms) = ap (λ b. leb m 1000000 && b) (numbers_is ms)

pub kinds_is : (ms : List ℕ) (rs : List Row) → kinds ms rs ≡ list_all (λ p. kind_ok p.1 p.0.kind) (zip rs ms)
unfolding kinds
kinds_is [] [] = refl
kinds_is [] (r ∷ rs) = refl
kinds_is (m ∷ ms) [] = refl
kinds_is (m ∷ ms) (r ∷ rs) = ap (λ b. kind_ok m r.kind && b) (kinds_is ms rs)

-- the first of some multipliers keeps the limit, and so do those after it
pub numbers_turn : (ms more : List ℕ) (m : ℕ) → ms ≡ m ∷ more → numbers ms ≡ true → (m ≤ 1000000) × (numbers more ≡ true)
unfolding numbers
numbers_turn ms more m e h = let p = and_parts _ _ (sym (ap numbers e) ∙ h) in (leb-true m 1000000 p.0, p.1)

pub numbers_at : (xs : List ℕ) (i : ℕ) → numbers xs ≡ true → get_or xs i 0 ≤ 1000000
unfolding numbers
numbers_at [] i h = omega arith
numbers_at (x ∷ xs) zero h = leb-true x 1000000 (and_parts _ _ h).0
numbers_at (x ∷ xs) (suc i) h = numbers_at xs i (and_parts _ _ h).1

module _ (f : Row → ℤ) (last : ℤ) where
  pub weigh_turn : (ms ns : List ℕ) (rs ss : List Row) (m : ℕ) (r : Row) → ms ≡ m ∷ ns → rs ≡ r ∷ ss → weigh ms rs f last ≡ ((pos m *ℤ f r) +ℤ weigh ns ss f last)
  unfolding weigh
  weigh_turn ms ns rs ss m r d e = ap₂ (λ x y. weigh x y f last) d e

  pub weigh_end : (ms : List ℕ) (rs : List Row) → length ms ≡ 1 → length rs ≡ 0 → weigh ms rs f last ≡ pos (get_or ms 0 0) *ℤ last
  unfolding weigh
  weigh_end [] rs h e = let no : ⊥ = omega arith in absurd no
  weigh_end (m ∷ ms) [] h e = refl
  weigh_end (m ∷ ms) (r ∷ rs) h e = let no : ⊥ = omega arith in absurd no
