-- Stretches with nothing in them.
use Rattle.std.proofs.Common.{◌≡◌, ℕ, zero, suc, ◌-◌, ◌≤◌, List, [], take, drop, None, refl, ap, ◌∙◌, inl, inr, arith}
use Rattle.std.specs.List.{slice_get}
use Rattle.std.proofs.lemmas.List.{drop_all}
use Rattle.std.proofs.lemmas.Option.{slice_get_cases, none-some}
use Rattle.records.specs.Tables.{stretch}

module _ {X : Type 0} where
  -- a stretch that ends where it begins
  pub ended : (xs : List X) (at to : ℕ) → to ≤ at → stretch xs at to ≡ []
  ended xs at to h = ap (λ n. take n (drop at xs)) (let e : to - at ≡ 0 = omega arith in e)

  -- one that begins past the table's end
  pub past : (xs : List X) (at to : ℕ) → slice_get xs at ≡ None → stretch xs at to ≡ []
  past xs at to e = elim (slice_get_cases xs at).1 [
    | inl (x, within, is, same) ↦ absurd (none-some x (cc))
    | inr (over, none) ↦ ap (take (to - at)) (drop_all at xs (omega arith)) ∙ taken (to - at)
  ]
    where
      taken : (n : ℕ) → take {A = X} n [] ≡ []
      taken zero = refl
      taken (suc n) = refl
