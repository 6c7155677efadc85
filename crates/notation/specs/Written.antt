-- How a row is written: `-1*q0 2*q3 <= 5`, `0 != 7`.
use Rattle.std.specs.Prelude.{ℕ, zero, suc, cond, List, [], ◌∷◌, ◌++◌, ℤ, codes, decimal}
use Rattle.std.specs.Fmt.{signed_decimal}
use Rattle.ints.specs.Tests.{is_zero}
use Rattle.rows.specs.declared.row.Row.{Row}
use Rattle.rows.specs.declared.row.Kind.{Kind}
use Rattle.rows.specs.declared.row.Kind.TheVariants.{AtMost, Unequal}
use Rattle.rows.specs.Meaning.{coef}

abbrev pub relation : Kind → List ℕ
relation AtMost = codes "<="
relation Unequal = codes "!="

abbrev pub term_word : ℤ → ℕ → List ℕ
term_word c j = signed_decimal c ++ (codes "*q" ++ decimal j)

-- the term of a non-zero coefficient, and a blank
abbrev pub term_text : ℤ → ℕ → List ℕ
term_text c j = cond (is_zero c) [] (term_word c j ++ codes " ")

-- the terms of the quantities below n, in their order
unfoldable pub terms_to : Row → ℕ → List ℕ
terms_to r zero = []
terms_to r (suc n) = terms_to r n ++ term_text (coef r n) n

abbrev pub or_zero : List ℕ → List ℕ
or_zero [] = codes "0 "
or_zero (c ∷ cs) = c ∷ cs

abbrev pub row_text : Row → List ℕ
row_text r = or_zero (terms_to r 16) ++ (relation r.kind ++ (codes " " ++ signed_decimal r.bound))
