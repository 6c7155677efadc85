-- Fourier-Motzkin elimination: q0 to q15 leave the work list in turn, until only bounds are left.
use Rattle.std.specs.Prelude.{ℕ, ◌+◌, ◌-◌, cond, List, [], ◌∷◌, ◌++◌, length, take, pos, Some, None, Option, int_lt, nat_lt}
use Rattle.std.specs.List.{range_with_len, flat_map}
use Rattle.ints.specs.Tests.{is_zero}
use Rattle.rows.specs.declared.row.Row.{Row}
use Rattle.rows.specs.Questions.{is_at_most, well_shaped}
use Rattle.provers.specs.declared.derived.Derived.{Derived}
use Rattle.provers.specs.Derivations.{coef_at, original, negation, combine}

abbrev pub bind : {X Y : Type 0} → Option X → (X → Option Y) → Option Y
bind None f = None
bind (Some x) f = f x

-- the rows at the end of a list, unless one is missing or the list grows above 128
unfoldable pub push_all : List Derived → List (Option Derived) → Option (List Derived)
push_all rows [] = Some rows
push_all rows (None ∷ more) = None
push_all rows (Some r ∷ more) = cond (nat_lt (length rows) 128) (push_all (rows ++ r ∷ []) more) None

-- the first list: the facts of kind at most from the i-th on, then the negated goal
abbrev pub fact_of : ℕ → Row → List (Option Derived)
fact_of i r = cond (is_at_most r.kind) (Some (original i r) ∷ []) []

abbrev pub goal_of : ℕ → Row → List (Option Derived)
goal_of i goal = bind (negation goal) (λ r. Some (original i r)) ∷ []

unfoldable pub originals : ℕ → List Row → Row → List (Option Derived)
originals i [] goal = goal_of i goal
originals i (r ∷ rs) goal = fact_of i r ++ originals (i + 1) rs goal

-- without q: the rows with 0 there, then each positive row with each negative one
abbrev pub zero_of : ℕ → Derived → List (Option Derived)
zero_of q r = cond (is_zero (coef_at q r)) (Some r ∷ []) []

abbrev pub pair_of : ℕ → Derived → Derived → List (Option Derived)
pair_of q p m = cond (int_lt (coef_at q m) (pos 0)) (combine q p m ∷ []) []

abbrev pub pairs_of : ℕ → List Derived → Derived → List (Option Derived)
pairs_of q rows p = cond (int_lt (pos 0) (coef_at q p)) (flat_map (pair_of q p) rows) []

unfoldable pub without : ℕ → List Derived → Option (List Derived)
without q rows = push_all [] (flat_map (zero_of q) rows ++ flat_map (pairs_of q rows) rows)

unfoldable pub without_all : List ℕ → List Derived → Option (List Derived)
without_all [] rows = Some rows
without_all (q ∷ qs) rows = bind (without q rows) (without_all qs)

-- the quantities from q on
unfoldable pub from : ℕ → List ℕ
from q = range_with_len q (16 - q)

-- the multipliers of the first row with a bound below 0
unfoldable pub first_below : List Derived → Option (List ℕ)
first_below [] = None
first_below (r ∷ rs) = cond (int_lt r.bound (pos 0)) (Some r.times) (first_below rs)

unfoldable pub refutation : List Row → Row → Option (List ℕ)
refutation facts goal = bind (push_all [] (originals 0 facts goal)) (λ rows. bind (without_all (from 0) rows) first_below)

-- a multiplier for each fact and a last for the negated goal, or none
abbrev pub fourier_motzkin : List Row → Row → Option (List ℕ)
fourier_motzkin facts goal = cond (well_shaped facts goal) (bind (refutation facts goal) (λ times. Some (take (length facts + 1) times))) None
