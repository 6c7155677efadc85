-- What a sheet may have: 32 rules, 4 lists and 8 numbers a rule, 1,024 expressions, 128 conditions; and the first place past that.
use Rattle.std.specs.Prelude.{ℕ, zero, suc, ◌+◌, ◌<◌, ◌≤◌, Bool, true, false, cond, not, List, [], ◌∷◌, ◌++◌, map, length, is_some, Some, None, sum_by, count_by, Option, nat_le, nat_lt}
use Rattle.std.specs.List.{AllByRecursion, slice_get}
use Rattle.grammar.specs.Raw as Raw
use Rattle.language.specs.Tree as Tree
use Rattle.naming.specs.Least.{least}
use Rattle.records.specs.declared.node.Node.{Node}
use Rattle.records.specs.declared.node.Node.TheVariants.{Blank, Num, Name, Calc, Read, Call, Bind, Test, Put, Claim, End, Value, Lent}
use Rattle.records.specs.declared.condition.Condition.{Condition}
use Rattle.records.specs.Counting.{exprs_up_to, conditions_up_to, claims_up_to, nodes_up_to, listed_up_to}

-- of so many bytes from p on, the first at which a count exceeds the limit
unfoldable pub first_over : ℕ → (ℕ → ℕ) → ℕ → ℕ → Option ℕ
first_over limit f p zero = None
first_over limit f p (suc n) = cond (nat_lt limit (f p)) (Some p) (first_over limit f (suc p) n)

-- the same in words: of the places up to the text's end, the count at this one is past the limit and at none before it; or it is at none
abbrev pub First : ℕ → (ℕ → ℕ) → ℕ → Option ℕ → Type 0
First limit f bytes None = (q : ℕ) → q ≤ bytes → f q ≤ limit
First limit f bytes (Some p) = (p ≤ bytes) × (limit < f p) × ((q : ℕ) → q < p → f q ≤ limit)

-- an entry has a place, and that lies up to a byte
abbrev pub is_up_to : ℕ → Option ℕ → Bool
is_up_to q None = false
is_up_to q (Some p) = nat_le p q

-- how many entries have a place up to a byte
abbrev pub placed_up_to : {X : Type 0} → (X → Option ℕ) → List X → ℕ → ℕ
placed_up_to place xs q = count_by (λ x. is_up_to q (place x)) xs

-- the place of a node that is an expression
abbrev pub expr_place : Node → Option ℕ
expr_place Blank = None
expr_place (Num p n) = Some p
expr_place (Name p i) = Some p
expr_place (Calc p o a b) = Some p
expr_place (Read p n l a) = Some p
expr_place (Call p f xs) = Some p
expr_place (Bind p a b) = Some p
expr_place (Test p c a b d e) = Some p
expr_place (Put p s n l a b e) = Some p
expr_place (Claim p a cs) = Some p
expr_place End = None
expr_place (Value a xs) = None
expr_place (Lent l xs) = None

-- the expressions and the conditions of a sheet up to a byte
unfoldable pub sheet_exprs : ℕ → List Tree.Rule → ℕ
sheet_exprs q rules = sum_by (λ r. exprs_up_to q r.body) rules

unfoldable pub sheet_conditions : ℕ → List Tree.Rule → ℕ
sheet_conditions q rules = sum_by (λ r. (conditions_up_to q r.needs + conditions_up_to q r.gives) + claims_up_to q r.body) rules

abbrev pub same : Bool → Bool → Bool
same true b = b
same false b = not b

-- the place of a parameter's name, if it is a list, or else if it is a number
abbrev pub place_if : Bool → Raw.Param → Option ℕ
place_if list p = cond (same list (is_some p.length)) (Some p.name.place) None

abbrev pub listed : Option ℕ → List ℕ
listed None = []
listed (Some p) = p ∷ []

-- the places of the names of a head's lists, or else of its numbers
unfoldable pub places_of : Bool → List Raw.Param → List ℕ
places_of list [] = []
places_of list (p ∷ ps) = listed (place_if list p) ++ places_of list ps

-- the fifth list and the ninth number of a head
abbrev pub head_over : List Raw.Param → List ℕ
head_over ps = listed (slice_get (places_of true ps) 4) ++ listed (slice_get (places_of false ps) 8)

unfoldable pub heads_over : List Raw.Rule → List ℕ
heads_over [] = []
heads_over (r ∷ rs) = head_over r.params ++ heads_over rs

abbrev pub keywords : List Raw.Rule → List ℕ
keywords rules = map (λ r. r.keyword.place) rules

-- the 33rd rule, at its keyword
unfoldable pub rules_over : List Raw.Rule → List ℕ
rules_over rules = listed (slice_get (keywords rules) 32)

-- the first place past a limit, given how many expressions and conditions lie up to a byte
abbrev pub fault_by : ℕ → List Raw.Rule → (ℕ → ℕ) → (ℕ → ℕ) → Option ℕ
fault_by bytes written exprs conditions =
    least ((rules_over written ++ heads_over written) ++ (listed (first_over 1024 exprs 0 (suc bytes)) ++ listed (first_over 128 conditions 0 (suc bytes))))

-- of a sheet as it is written and its tree
abbrev pub count_fault : ℕ → List Raw.Rule → List Tree.Rule → Option ℕ
count_fault bytes written tree = fault_by bytes written (λ q. sheet_exprs q tree) (λ q. sheet_conditions q tree)

-- of a sheet as it is written and the tables that its tree lies in
abbrev pub flat_fault : ℕ → List Raw.Rule → List Node → List Condition → Option ℕ
flat_fault bytes written nodes conditions = fault_by bytes written (λ q. nodes_up_to q nodes) (λ q. listed_up_to q conditions)

-- no limit is passed: of a sheet as it is written, with so many expressions and conditions
pub record Within (written : List Raw.Rule) (exprs conditions : ℕ) : Type 0 where
  pub rules : length written ≤ 32
  pub lists : AllByRecursion (λ r. length (places_of true r.params) ≤ 4) written
  pub numbers : AllByRecursion (λ r. length (places_of false r.params) ≤ 8) written
  pub exprs-few : exprs ≤ 1024
  pub conditions-few : conditions ≤ 128

-- of the tables that its tree lies in, as far as the text goes
abbrev pub FlatWithin : ℕ → List Raw.Rule → List Node → List Condition → Type 0
FlatWithin bytes written nodes conditions = Within written (nodes_up_to bytes nodes) (listed_up_to bytes conditions)
