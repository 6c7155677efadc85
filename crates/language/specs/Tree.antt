-- The tree of a sheet, its names resolved to slots: rules, expressions and conditions, with their places in the text.
use Rattle.std.specs.Prelude.{ℕ, List, [], ◌∷◌, ℤ, slice_index_or}
use Rattle.language.specs.declared.operator.Operator.{Operator}
use Rattle.language.specs.declared.comparison.Comparison.{Comparison}

-- an item of a side is a factor times one, a name's number or the result
pub data Atom : Type 0 where
  one : Atom
  named : ℕ → Atom
  result : Atom

pub record Item : Type 0 where
  pub factor : ℤ
  pub atom : Atom

abbrev pub Side : Type 0
Side = List Item

pub record Condition : Type 0 where
  pub place : ℕ
  pub left : Side
  pub comparison : Comparison
  pub right : Side

-- where a read or a put touches a list: the place of the list's name, the number of its check below (the check above has
-- the next), and the list's slot; the walk gives the number
pub record Site : Type 0 where
  pub place : ℕ
  pub number : ℕ
  pub list : ℕ

-- An expression, its place first. A name's slot counts the names in force: the rule's numbers and lengths in the order of its
-- head, then the lets. A list's slot counts the rule's lists.
mutual
  pub data Expr : Type 0 where
    -- a numeral
    num : ℕ → ℕ → Expr
    -- a name, by its slot
    name : ℕ → ℕ → Expr
    -- a sum, difference or product
    calc : ℕ → Operator → Expr → Expr → Expr
    -- list[e]
    read : Site → Expr → Expr
    -- a call of a rule, by its number
    call : ℕ → ℕ → Args → Expr
    -- let name = a in b
    bind : ℕ → Expr → Expr → Expr
    -- if a < b then d else e, with any comparison
    test : ℕ → Comparison → Expr → Expr → Expr → Expr → Expr
    -- put list[a] := b in e; the first place is the keyword's, the site's is the list's name's
    put : ℕ → Site → Expr → Expr → Expr → Expr
    -- (e as conditions)
    claim : ℕ → Expr → List Condition → Expr

  -- arguments: the value of an expression, or a list that is lent, by its slot
  pub data Args : Type 0 where
    end : Args
    value : Expr → Args → Args
    lent : ℕ → Args → Args

abbrev pub place_of : Expr → ℕ
place_of (num p n) = p
place_of (name p i) = p
place_of (calc p o a b) = p
place_of (read site e) = site.place
place_of (call p f es) = p
place_of (bind p a b) = p
place_of (test p c a b d e) = p
place_of (put p site a b e) = p
place_of (claim p e cs) = p

-- a parameter is a number, or a list, which brings its length's name
pub data Param : Type 0 where
  a_number : Param
  a_list : Param

pub record Rule : Type 0 where
  pub place : ℕ
  pub params : List Param
  pub needs : List Condition
  pub gives : List Condition
  pub body : Expr

abbrev pub no_expr : Expr
no_expr = num 0 0

-- past the last rule: it has nothing and gives 0
abbrev pub no_rule : Rule
no_rule = record { place = 0; params = []; needs = []; gives = []; body = no_expr }

abbrev pub rule_at : List Rule → ℕ → Rule
rule_at rules f = slice_index_or rules f no_rule

-- of a list with an entry for each parameter, those of the lists
unfoldable pub at_lists : {A : Type 0} → List Param → List A → List A
at_lists [] xs = []
at_lists (p ∷ ps) [] = []
at_lists (a_number ∷ ps) (x ∷ xs) = at_lists ps xs
at_lists (a_list ∷ ps) (x ∷ xs) = x ∷ at_lists ps xs

-- what the arguments are, as parameters
unfoldable pub shape : Args → List Param
shape end = []
shape (value e es) = a_number ∷ shape es
shape (lent l es) = a_list ∷ shape es

-- the slots of the lists that are lent
unfoldable pub lent_of : Args → List ℕ
lent_of end = []
lent_of (value e es) = lent_of es
lent_of (lent l es) = l ∷ lent_of es
