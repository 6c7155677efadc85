-- The linear domain: Farkas' condition on a multiplier for each fact and a last one for the negated goal.
use Rattle.std.specs.Prelude.{ℕ, ◌+◌, Bool, true, cond, ◌&&◌, List, [], ◌∷◌, length, ℤ, pos, ◌+ℤ◌, ◌-ℤ◌, ◌*ℤ◌, neg_ℤ, Ok, ◌==◌, int_lt, nat_le}
use Rattle.ints.specs.Tests.{is_zero, all_below}
use Rattle.rows.specs.declared.row.Row.{Row}
use Rattle.rows.specs.declared.row.Kind.{Kind}
use Rattle.rows.specs.declared.row.Kind.TheVariants.{AtMost, Unequal}
use Rattle.rows.specs.Meaning.{coef}
use Rattle.rows.specs.Questions.{well_shaped}
use Rattle.domains.specs.declared.fault.Reason.TheVariants.{Shape, Number, Kind as OfKind, Sum}
use Rattle.domains.specs.declared.linear.Column.{Column}
use Rattle.domains.specs.declared.linear.Column.TheVariants.{Coef, Bound}
use Rattle.domains.specs.Faults.{Outcome, fault}

-- what a row has in a column
abbrev pub entry : Column → Row → ℤ
entry (Coef j) r = coef r j
entry Bound r = r.bound

-- what its negation has there: the negation of S ≤ d is -S ≤ -d - 1
abbrev pub negated : Column → Row → ℤ
negated (Coef j) r = neg_ℤ (coef r j)
negated Bound r = neg_ℤ r.bound -ℤ pos 1

-- each multiplier times what f gives for its fact; the first one past the facts is that of the last
unfoldable pub weigh : List ℕ → List Row → (Row → ℤ) → ℤ → ℤ
weigh [] rs f last = pos 0
weigh (m ∷ ms) [] f last = pos m *ℤ last
weigh (m ∷ ms) (r ∷ rs) f last = (pos m *ℤ f r) +ℤ weigh ms rs f last

-- the weighted sum of a column
abbrev pub total : List Row → Row → List ℕ → Column → ℤ
total facts goal cert c = weigh cert facts (entry c) (negated c goal)

-- shape: a well-shaped question, a multiplier for each fact and one for the negated goal
abbrev pub fitting : List Row → Row → List ℕ → Bool
fitting facts goal cert = well_shaped facts goal && length cert == length facts + 1

-- number: no multiplier above 1,000,000
unfoldable pub numbers : List ℕ → Bool
numbers [] = true
numbers (m ∷ ms) = nat_le m 1000000 && numbers ms

-- kind: no multiplier but 0 at an unequal fact
abbrev pub kind_ok : ℕ → Kind → Bool
kind_ok m AtMost = true
kind_ok m Unequal = m == 0

unfoldable pub kinds : List ℕ → List Row → Bool
kinds [] rs = true
kinds (m ∷ ms) [] = true
kinds (m ∷ ms) (r ∷ rs) = kind_ok m r.kind && kinds ms rs

-- sum: the coefficients add to 0 for every quantity, and the bounds to less than 0
abbrev pub sums : List Row → Row → List ℕ → Bool
sums facts goal cert = all_below 16 (λ j. is_zero (total facts goal cert (Coef j))) && int_lt (total facts goal cert Bound) (pos 0)

abbrev pub linear : List Row → Row → List ℕ → Outcome
linear facts goal cert =
    cond (fitting facts goal cert) (
    cond (numbers cert) (
    cond (kinds cert facts) (
    cond (sums facts goal cert) (Ok tt)
    (fault Sum)) (fault OfKind)) (fault Number)) (fault Shape)
