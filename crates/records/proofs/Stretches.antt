-- Stretches of a table: the same as the table grows, and from their second entry on.
use Rattle.std.proofs.Common.{◌≡◌, ℕ, suc, ◌+◌, ◌-◌, ◌<◌, ◌≤◌, List, [], ◌∷◌, ◌++◌, length, take, drop, Some, sym, refl, ap, ◌∙◌, ap₂, inl, inr, arith}
use Rattle.std.proofs.lemmas.List.{take_all, take-append-le, length-drop, drop-append-le, drop_more}
use Rattle.std.proofs.lemmas.Bool.{cases_lt}
use Rattle.std.proofs.lemmas.Option.{slice_get_within, get_or_from_slice_get}
use Rattle.std.specs.List.{slice_get}
use Rattle.records.specs.Tables.{stretch}

module _ {X : Type 0} where
  -- a stretch that ends in the table stays as the table grows
  pub stays : (xs ys : List X) (from to : ℕ) → to ≤ length xs → stretch (xs ++ ys) from to ≡ stretch xs from to
  stays xs ys from to k = elim (cases_lt from to) [
    | inl h ↦ ap (take (to - from)) (drop-append-le from xs ys (omega arith)) ∙ take-append-le (to - from) (drop from xs) ys (omega (arith, length-drop from xs))
    | inr h ↦ ap (λ n. take n (drop from (xs ++ ys))) (let e : to - from ≡ 0 = omega arith in e) ∙ ap (λ n. take n (drop from xs)) (let e : 0 ≡ to - from = omega arith in e)
  ]

  -- a stretch up to the end, and one entry more
  pub grows : (xs : List X) (x : X) (from : ℕ) → from ≤ length xs → stretch (xs ++ x ∷ []) from (suc (length xs)) ≡ stretch xs from (length xs) ++ x ∷ []
  grows xs x from h =
      take_all (suc (length xs) - from) (drop from (xs ++ x ∷ [])) (omega (arith, ap length (drop-append-le from xs (x ∷ []) h), length-drop from (xs ++ x ∷ []), size xs))
      ∙ drop-append-le from xs (x ∷ []) h ∙ ap (λ ys. ys ++ x ∷ []) (sym (take_all (length xs - from) (drop from xs) (omega (arith, length-drop from xs))))
    where
      size : (ys : List X) → length (ys ++ x ∷ []) ≡ suc (length ys)
      size [] = refl
      size (y ∷ ys) = ap suc (size ys)

  -- a stretch is its first entry, and then the others
  pub cut : (xs : List X) (from to : ℕ) (x : X) → from < to → slice_get xs from ≡ Some x → stretch xs from to ≡ x ∷ stretch xs (from + 1) to
  cut xs from to x h e =
      ap₂ take (let z : to - from ≡ suc (to - (from + 1)) = omega arith in z) (drop_more xs from x (slice_get_within xs from x e) ∙ ap (λ y. y ∷ drop (from + 1) xs) (get_or_from_slice_get xs from x x e))
