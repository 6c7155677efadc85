-- Totals: which items they take, and what the items of a side come to when they are taken in turn.
use Rattle.std.specs.Prelude.{◌≡◌, ℕ, ◌+◌, Bool, cond, ◌&&◌, List, [], ◌∷◌, ℤ, Some, None, Option, nat_lt}
use Rattle.rows.specs.declared.row.Row.{Row}
use Rattle.language.specs.declared.term.Term.{Term}
use Rattle.language.specs.declared.comparison.Comparison.{Comparison}
use Rattle.language.specs.Tree.{Side, Condition}
use Rattle.language.specs.Terms.{zero_term, near, fits_term, plus, scaled}
use Rattle.language.specs.Comparing.{rows, atom_term, side_term, condition_rows}
use Rattle.terms.specs.declared.total.Total.{Total}
use Rattle.terms.specs.Narrow.{wide_term}

abbrev pub sum_of : Total → Term
sum_of s = wide_term s.sum

-- a total of n items takes one more, while it has room, if factor and term keep the limit of terms
abbrev pub takes : ℕ → ℤ → Term → Bool
takes n factor t = nat_lt n 16384 && (near factor && fits_term t)

-- how many items a total has, and their sum
abbrev pub seen : Option Total → Option (ℕ × Term)
seen None = None
seen (Some s) = Some (s.count, sum_of s)

abbrev pub taken : Total → ℤ → Term → Option (ℕ × Term)
taken s factor t = cond (takes s.count factor t) (Some (s.count + 1, plus (scaled factor t) (sum_of s))) None

-- a term, and the items of a side added to it in turn
unfoldable pub side_from : List Term → Term → Term → Side → Term
side_from ts r t [] = t
side_from ts r t (i ∷ is) = side_from ts r (plus (scaled i.factor (atom_term ts r i.atom)) t) is

-- the rows of a comparison of two sides; none in their place where a side is large
abbrev pub side_rows : Comparison → Term → Term → List (Option Row)
side_rows c t u = cond (fits_term t && fits_term u) (rows c t u) (None ∷ [])

-- taken in turn, the items of a side come to the side, and so two totals to the rows of a condition
pub record InTurn : Type 0 where
  pub side : (ts : List Term) (r : Term) (is : Side) → side_from ts r zero_term is ≡ side_term ts r is
  pub condition : (ts : List Term) (r : Term) (c : Condition) → side_rows c.comparison (side_term ts r c.left) (side_term ts r c.right) ≡ condition_rows ts r c
