-- What a sheet may have: 32 rules, 4 lists and 8 numbers a rule, 1,024 expressions, 128 conditions; and the first place past that.
use Rattle.std.specs.Prelude.{ℕ, zero, suc, Bool, false, cond, ◌||◌, List, [], ◌∷◌, ◌++◌, map, length, Some, None, Option, ◌==◌}
use Rattle.std.specs.List.{slice_get}
use Rattle.grammar.specs.Raw as Raw
use Rattle.language.specs.Tree.{Expr, num, name, calc, read, call, bind, test, put, claim, Args, end, value, lent, Rule}
use Rattle.naming.specs.Least.{least}
use Rattle.naming.specs.Resolving.{sheet_of}

-- the places of the expressions: list arguments and brackets alone are none
unfoldable mutual
  pub expr_places : Expr → List ℕ
  expr_places (num p n) = p ∷ []
  expr_places (name p i) = p ∷ []
  expr_places (calc p o a b) = p ∷ (expr_places a ++ expr_places b)
  expr_places (read site e) = site.place ∷ expr_places e
  expr_places (call p f es) = p ∷ args_places es
  expr_places (bind p a b) = p ∷ (expr_places a ++ expr_places b)
  expr_places (test p c a b d e) = p ∷ ((expr_places a ++ expr_places b) ++ (expr_places d ++ expr_places e))
  expr_places (put p site a b e) = p ∷ (expr_places a ++ (expr_places b ++ expr_places e))
  expr_places (claim p e cs) = p ∷ expr_places e

  pub args_places : Args → List ℕ
  args_places end = []
  args_places (value e es) = expr_places e ++ args_places es
  args_places (lent l es) = args_places es

-- the places of the conditions inside expressions
unfoldable mutual
  pub expr_conditions : Expr → List ℕ
  expr_conditions (num p n) = []
  expr_conditions (name p i) = []
  expr_conditions (calc p o a b) = expr_conditions a ++ expr_conditions b
  expr_conditions (read site e) = expr_conditions e
  expr_conditions (call p f es) = args_conditions es
  expr_conditions (bind p a b) = expr_conditions a ++ expr_conditions b
  expr_conditions (test p c a b d e) = (expr_conditions a ++ expr_conditions b) ++ (expr_conditions d ++ expr_conditions e)
  expr_conditions (put p site a b e) = expr_conditions a ++ (expr_conditions b ++ expr_conditions e)
  expr_conditions (claim p e cs) = expr_conditions e ++ map (λ c. c.place) cs

  pub args_conditions : Args → List ℕ
  args_conditions end = []
  args_conditions (value e es) = expr_conditions e ++ args_conditions es
  args_conditions (lent l es) = args_conditions es

unfoldable pub all_places : List Rule → List ℕ
all_places [] = []
all_places (r ∷ rs) = expr_places r.body ++ all_places rs

unfoldable pub all_conditions : List Rule → List ℕ
all_conditions [] = []
all_conditions (r ∷ rs) = (map (λ c. c.place) r.needs ++ (map (λ c. c.place) r.gives ++ expr_conditions r.body)) ++ all_conditions rs

unfoldable pub is_in : ℕ → List ℕ → Bool
is_in p [] = false
is_in p (q ∷ qs) = p == q || is_in p qs

abbrev pub past_or : ℕ → ℕ → (ℕ → Option ℕ) → Option ℕ
past_or zero p rest = Some p
past_or (suc left) p rest = rest left

-- of so many bytes from p on, the first that is one of the places after `left` others
unfoldable pub past : ℕ → ℕ → ℕ → List ℕ → Option ℕ
past zero p left places = None
past (suc bytes) p left places =
    cond (is_in p places) (past_or left p (λ fewer. past bytes (suc p) fewer places)) (past bytes (suc p) left places)

-- the places of the names of a head's lists, and of its numbers
unfoldable pub list_places : List Raw.Param → List ℕ
list_places [] = []
list_places (p ∷ ps) = elim p.length [ None ↦ list_places ps | Some n ↦ p.name.place ∷ list_places ps ]

unfoldable pub number_places : List Raw.Param → List ℕ
number_places [] = []
number_places (p ∷ ps) = elim p.length [ None ↦ p.name.place ∷ number_places ps | Some n ↦ number_places ps ]

abbrev pub listed : Option ℕ → List ℕ
listed None = []
listed (Some p) = p ∷ []

-- the fifth list and the ninth number of a head
unfoldable pub heads_over : List Raw.Rule → List ℕ
heads_over [] = []
heads_over (r ∷ rs) = (listed (slice_get (list_places r.params) 4) ++ listed (slice_get (number_places r.params) 8)) ++ heads_over rs

-- the 33rd rule, at its keyword
abbrev pub rules_over : List Raw.Rule → List ℕ
rules_over rules = listed (slice_get (map (λ r. r.keyword.place) rules) 32)

-- the first place past what a sheet may have
abbrev pub count_fault : List ℕ → Raw.Sheet → Option ℕ
count_fault text rules =
    let tree = sheet_of text rules in
    least ((rules_over rules ++ heads_over rules) ++ (listed (past (length text) 0 1024 (all_places tree)) ++ listed (past (length text) 0 128 (all_conditions tree))))
