-- The modes domain: every assignment of 0 to 15 to the quantities that occur.
use Rattle.std.specs.Prelude.{◌≡◌, ℕ, zero, suc, Bool, false, cond, not, ◌&&◌, ◌||◌, List, [], ◌∷◌, length, replicate, ℤ, pos, Ok, Err, ◌==◌, nat_le, slice_index, slice_set}
use Rattle.ints.specs.Tests.{is_zero, any_below, count_below}
use Rattle.rows.specs.declared.row.Row.{Row}
use Rattle.rows.specs.Meaning.{Assignment, coef, Meets, MeetsAll, Within, Follows}
use Rattle.rows.specs.Questions.{well_shaped}
use Rattle.rows.specs.Testing.{meets, meets_all}
use Rattle.domains.specs.declared.fault.Reason.TheVariants.{Shape, Width, Case}
use Rattle.domains.specs.Faults.{Outcome, fault}

-- the quantity j has a non-zero coefficient in some of the rows
unfoldable pub occurs_in : ℕ → List Row → Bool
occurs_in j [] = false
occurs_in j (r ∷ rs) = not (is_zero (coef r j)) || occurs_in j rs

abbrev pub occurs : List Row → Row → ℕ → Bool
occurs facts goal j = not (is_zero (coef goal j)) || occurs_in j facts

-- how many quantities occur
abbrev pub width : List Row → Row → ℕ
width facts goal = count_below 16 (occurs facts goal)

-- the assignment of a list of values
abbrev pub at : List ℕ → Assignment
at p j = pos (slice_index p j)

-- the assignment meets all facts and breaks the goal
abbrev pub breaks : List Row → Row → Assignment → Bool
breaks facts goal q = meets_all q facts && not (meets q goal)

-- with the values p elsewhere, some values 0 to 15 of the occurring quantities below n break the goal
unfoldable pub broken : List Row → Row → ℕ → List ℕ → Bool
broken facts goal zero p = breaks facts goal (at p)
broken facts goal (suc n) p = cond (occurs facts goal n) (any_below 16 (λ v. broken facts goal n (slice_set p n v))) (broken facts goal n p)

abbrev pub modes : List Row → Row → List ℕ → Outcome
modes facts goal cert =
    cond (well_shaped facts goal && length cert == 0) (
    cond (nat_le (width facts goal) 4) (
    cond (broken facts goal 16 (replicate 16 0)) (fault Case) (Ok tt))
    (fault Width)) (fault Shape)

-- some assignment within the range meets all facts and breaks the goal
pub record Broken (low high : ℤ) (facts : List Row) (goal : Row) : Type 0 where
  pub by : Assignment
  pub within : Within low high by
  pub meets_facts : MeetsAll by facts
  pub breaks_goal : Meets by goal → ⊥

-- what an answer says of the question: good that the goal follows, case that it does not
abbrev pub Decides : List Row → Row → Outcome → Type 0
Decides facts goal (Ok _) = Follows (pos 0) (pos 15) facts goal
Decides facts goal (Err f) = f.reason ≡ Case → Broken (pos 0) (pos 15) facts goal
