-- The items of a side come to the same term when they are taken in turn.
use Rattle.std.proofs.Common.{◌≡◌, ℕ, ◌<◌, List, [], ◌∷◌, pos, ◌+ℤ◌, sym, refl, ap, ◌∙◌, ap₂, arith}
use Rattle.std.proofs.lemmas.Int.{ints}
use Rattle.language.specs.declared.term.Term.{Term}
use Rattle.language.specs.Tree.{Side}
use Rattle.language.specs.Terms.{each, coef_of, constant, zero_term, plus, scaled}
use Rattle.language.specs.Comparing.{atom_term, side_term, condition_rows}
use Rattle.language.proofs.Worths.{each_at}
use Rattle.terms.specs.Narrow.{term_of}
use Rattle.terms.specs.Totals.{side_from, InTurn}
use Rattle.terms.proofs.Adding.{each_same}

plus-at : (t u : Term) (j : ℕ) → j < 16 → coef_of (plus t u) j ≡ coef_of t j +ℤ coef_of u j
unfolding plus
plus-at t u j l = each_at (λ i. coef_of t i +ℤ coef_of u i) j l

zero-at : (j : ℕ) → j < 16 → coef_of zero_term j ≡ pos 0
unfolding constant
zero-at j l = each_at (λ i. pos 0) j l

same_sum : (t u v w : Term) → t.constant +ℤ u.constant ≡ v.constant +ℤ w.constant → ((j : ℕ) → j < 16 → coef_of t j +ℤ coef_of u j ≡ coef_of v j +ℤ coef_of w j) → plus t u ≡ plus v w
unfolding plus
same_sum t u v w e h = ap₂ term_of e (each_same _ _ h)

plus_turn : (x t s : Term) → plus (plus x t) s ≡ plus t (plus x s)
unfolding plus
plus_turn x t s =
    same_sum (plus x t) s t (plus x s) (omega (arith, ints))
    (λ j l. let a = plus-at x t j l in let b = plus-at x s j l in omega (arith, ints))

plus-zero : (x y : Term) → plus (plus x y) zero_term ≡ plus x y
unfolding plus constant
plus-zero x y =
    same_sum (plus x y) zero_term x y (omega (arith, ints))
    (λ j l. let a = plus-at x y j l in let b = zero-at j l in omega (arith, ints))

zero-plus : (x y : Term) → plus zero_term (plus x y) ≡ plus x y
unfolding plus constant
zero-plus x y =
    same_sum zero_term (plus x y) x y (omega (arith, ints))
    (λ j l. let a = plus-at x y j l in let b = zero-at j l in omega (arith, ints))

zero-zero : plus zero_term zero_term ≡ zero_term
unfolding plus constant each
zero-zero = refl

module _ (ts : List Term) (r : Term) where
  from-sum : (x t : Term) (is : Side) → side_from ts r (plus x t) is ≡ plus (plus x t) (side_term ts r is)
  unfolding side_from side_term
  from-sum x t [] = sym (plus-zero x t)
  from-sum x t (i ∷ is) =
      let y = scaled i.factor (atom_term ts r i.atom) in
      from-sum y (plus x t) is ∙ plus_turn y (plus x t) (side_term ts r is)

  zero-side : (is : Side) → plus zero_term (side_term ts r is) ≡ side_term ts r is
  unfolding side_term
  zero-side [] = zero-zero
  zero-side (i ∷ is) = zero-plus (scaled i.factor (atom_term ts r i.atom)) (side_term ts r is)

  side-in-turn : (is : Side) → side_from ts r zero_term is ≡ side_term ts r is
  side-in-turn is =
      ap (λ (t : Term). side_from ts r t is) (sym zero-zero)
      ∙ from-sum zero_term zero_term is
      ∙ ap (λ (t : Term). plus t (side_term ts r is)) zero-zero
      ∙ zero-side is

pub in-turn : InTurn
unfolding condition_rows
in-turn = record { side = side-in-turn; condition = λ ts r c. refl }
