-- Comparisons as rows, the rows of their negations, and conditions: what they say of numbers, and which rows they come to.
use Rattle.std.specs.Prelude.{◌≡◌, Bool, true, cond, ◌&&◌, List, [], ◌∷◌, ℤ, pos, ◌+ℤ◌, ◌-ℤ◌, ◌*ℤ◌, is_some, None, Option, slice_index_or}
use Rattle.std.specs.List.{flat_map, AllByRecursion}
use Rattle.rows.specs.declared.row.Row.{Row}
use Rattle.rows.specs.declared.row.Kind.TheVariants.{AtMost, Unequal}
use Rattle.rows.specs.Rows.{row_of}
use Rattle.language.specs.declared.term.Term.{Term}
use Rattle.language.specs.declared.comparison.Comparison.{Comparison}
use Rattle.language.specs.declared.comparison.Comparison.TheVariants.{Less, LessOrEqual, Equal, NotEqual}
use Rattle.language.specs.Vocabulary.{holds}
use Rattle.language.specs.Tree.{Atom, one, named, result, Side, Condition}
use Rattle.language.specs.Terms.{constant, zero_term, plus, minus, scaled, term_at, fits_term}

-- A row is none where it would lie outside its limits; terms within their own limits always make one (`RowsFit`).

-- t + k ≤ u
unfoldable pub at_most : ℤ → Term → Term → Option Row
at_most k t u = row_of (minus t u).coefs ((u.constant -ℤ t.constant) -ℤ k) AtMost

unfoldable pub unequal : Term → Term → Option Row
unequal t u = row_of (minus t u).coefs (u.constant -ℤ t.constant) Unequal

abbrev pub rows : Comparison → Term → Term → List (Option Row)
rows Less t u = at_most (pos 1) t u ∷ []
rows LessOrEqual t u = at_most (pos 0) t u ∷ []
rows Equal t u = at_most (pos 0) t u ∷ at_most (pos 0) u t ∷ []
rows NotEqual t u = unequal t u ∷ []

-- the rows of the negation
abbrev pub otherwise : Comparison → Term → Term → List (Option Row)
otherwise Less t u = rows LessOrEqual u t
otherwise LessOrEqual t u = rows Less u t
otherwise Equal t u = rows NotEqual t u
otherwise NotEqual t u = rows Equal t u

pub record RowsFit : Type 0 where
  pub made : (c : Comparison) (t u : Term) → fits_term t ≡ true → fits_term u ≡ true → AllByRecursion (λ o. is_some o ≡ true) (rows c t u)

-- what a side is worth, where names have these values and the result is r
abbrev pub atom_value : List ℤ → ℤ → Atom → ℤ
atom_value xs r one = pos 1
atom_value xs r (named i) = slice_index_or xs i (pos 0)
atom_value xs r result = r

unfoldable pub side_value : List ℤ → ℤ → Side → ℤ
side_value xs r [] = pos 0
side_value xs r (i ∷ is) = i.factor *ℤ atom_value xs r i.atom +ℤ side_value xs r is

-- a condition, in exact arithmetic
abbrev pub satisfied : List ℤ → ℤ → Condition → Bool
satisfied xs r c = holds c.comparison (side_value xs r c.left) (side_value xs r c.right)

-- the same of terms: a side taken whole, without a limit
abbrev pub atom_term : List Term → Term → Atom → Term
atom_term ts r one = constant (pos 1)
atom_term ts r (named i) = term_at ts i
atom_term ts r result = r

unfoldable pub side_term : List Term → Term → Side → Term
side_term ts r [] = zero_term
side_term ts r (i ∷ is) = plus (scaled i.factor (atom_term ts r i.atom)) (side_term ts r is)

-- the rows of a condition; none in their place where a side is large
unfoldable pub condition_rows : List Term → Term → Condition → List (Option Row)
condition_rows ts r c =
    let t = side_term ts r c.left in
    let u = side_term ts r c.right in
    cond (fits_term t && fits_term u) (rows c.comparison t u) (None ∷ [])

abbrev pub conditions_rows : List Term → Term → List Condition → List (Option Row)
conditions_rows ts r cs = flat_map (condition_rows ts r) cs
