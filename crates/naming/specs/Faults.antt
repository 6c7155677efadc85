-- The faults of names, by their places: unknown, declared twice, of the wrong sort, or with a wrong number of arguments.
use Rattle.std.specs.Prelude.{ℕ, ◌+◌, cond, List, [], ◌∷◌, ◌++◌, length, is_some, Some, None, Option, ◌==◌}
use Rattle.std.specs.List.{slice_get}
use Rattle.letters.specs.declared.kind.Kind.TheVariants.{Name}
use Rattle.letters.specs.declared.token.Token.{Token}
use Rattle.letters.specs.Kinds.{same_kind}
use Rattle.grammar.specs.Raw as Raw
use Rattle.grammar.specs.Raw.{num, name, calc, read, call, bind, test, put, claim, nest, none, more}
use Rattle.naming.specs.Least.{least}
use Rattle.naming.specs.Scopes.{Scope, Sheet, slot_in, rule_in, known, naming, listing, empty, param_scope, head_scope}

-- where a name must be found
abbrev pub found : Option ℕ → Token → List ℕ
found None t = t.place ∷ []
found (Some i) t = []

-- where a name must be new
abbrev pub fresh : List ℕ → Scope → Token → List ℕ
fresh text Γ t = cond (known text Γ t) (t.place ∷ []) []

-- a side's names are names of numbers
abbrev pub atom_faults : List ℕ → List Token → Token → List ℕ
atom_faults text names t = cond (same_kind t.kind Name) (found (slot_in text names t) t) []

unfoldable pub side_faults : List ℕ → List Token → Raw.Side → List ℕ
side_faults text names [] = []
side_faults text names (i ∷ is) = atom_faults text names i.atom ++ side_faults text names is

unfoldable pub condition_faults : List ℕ → List Token → List Raw.Condition → List ℕ
condition_faults text names [] = []
condition_faults text names (c ∷ cs) = (side_faults text names c.left ++ side_faults text names c.right) ++ condition_faults text names cs

-- an expression's place; brackets alone have that of what is in them
unfoldable pub place_of : Raw.Expr → ℕ
place_of (num t) = t.place
place_of (name t) = t.place
place_of (calc t a b) = t.place
place_of (read t e) = t.place
place_of (call t es) = t.place
place_of (bind t n a b) = t.place
place_of (test t c a b d e) = t.place
place_of (put t l a b e) = t.place
place_of (claim t e cs) = t.place
place_of (nest t e) = place_of e

-- the bare name of one of these lists
abbrev pub bare_list : List ℕ → List Token → Raw.Expr → Option ℕ
bare_list text lists (num t) = None
bare_list text lists (name t) = slot_in text lists t
bare_list text lists (calc t a b) = None
bare_list text lists (read t e) = None
bare_list text lists (call t es) = None
bare_list text lists (bind t n a b) = None
bare_list text lists (test t c a b d e) = None
bare_list text lists (put t l a b e) = None
bare_list text lists (claim t e cs) = None
bare_list text lists (nest t e) = None

unfoldable pub count_args : Raw.Args → ℕ
count_args none = 0
count_args (more es e) = count_args es + 1

-- an argument for a number is an expression; one for a list is the bare name of a list
abbrev pub arg_faults : Option Token → Option ℕ → ℕ → List ℕ → List ℕ
arg_faults None bare place inside = inside
arg_faults (Some n) (Some slot) place inside = []
arg_faults (Some n) None place inside = place ∷ inside

-- the parameters of a rule; none where there is no such rule
abbrev pub params_of : Sheet → Option ℕ → Option (List Raw.Param)
params_of S None = None
params_of S (Some f) = elim (slice_get S.rules f) [ None ↦ None | Some r ↦ Some r.params ]

-- the length of the parameter with so many before it; none of a number
abbrev pub length_at : List Raw.Param → ℕ → Option Token
length_at ps k = elim (slice_get ps k) [ None ↦ None | Some p ↦ p.length ]

-- the call's own fault, or those of its arguments
abbrev pub call_faults : Option (List Raw.Param) → Token → ℕ → (List Raw.Param → List ℕ) → List ℕ
call_faults None t n inside = t.place ∷ []
call_faults (Some ps) t n inside = cond (length ps == n) (inside ps) (t.place ∷ [])

unfoldable mutual
  pub expr_faults : Sheet → Scope → Raw.Expr → List ℕ
  expr_faults S Γ (num t) = []
  expr_faults S Γ (name t) = found (slot_in S.text Γ.names t) t
  expr_faults S Γ (calc t a b) = expr_faults S Γ a ++ expr_faults S Γ b
  expr_faults S Γ (read t e) = found (slot_in S.text Γ.lists t) t ++ expr_faults S Γ e
  expr_faults S Γ (call t es) = call_faults (params_of S (rule_in S.text S.rules t)) t (count_args es) (λ ps. args_faults S Γ ps es)
  expr_faults S Γ (bind t n a b) = (fresh S.text Γ n ++ expr_faults S Γ a) ++ expr_faults S (naming Γ n) b
  expr_faults S Γ (test t c a b d e) = (expr_faults S Γ a ++ expr_faults S Γ b) ++ (expr_faults S Γ d ++ expr_faults S Γ e)
  expr_faults S Γ (put t l a b e) = (found (slot_in S.text Γ.lists l) l ++ expr_faults S Γ a) ++ (expr_faults S Γ b ++ expr_faults S Γ e)
  expr_faults S Γ (claim t e cs) = expr_faults S Γ e ++ condition_faults S.text Γ.names cs
  expr_faults S Γ (nest t e) = expr_faults S Γ e

  -- each argument is for the parameter with as many before it
  pub args_faults : Sheet → Scope → List Raw.Param → Raw.Args → List ℕ
  args_faults S Γ ps none = []
  args_faults S Γ ps (more es e) = args_faults S Γ ps es ++ arg_faults (length_at ps (count_args es)) (bare_list S.text Γ.lists e) (place_of e) (expr_faults S Γ e)

-- a head declares each of its names once
abbrev pub length_faults : List ℕ → Scope → Token → Option Token → List ℕ
length_faults text Γ list None = []
length_faults text Γ list (Some n) = fresh text (listing Γ list) n

abbrev pub param_faults : List ℕ → Scope → Raw.Param → List ℕ
param_faults text Γ p = fresh text Γ p.name ++ length_faults text Γ p.name p.length

unfoldable pub head_faults : List ℕ → Scope → List Raw.Param → List ℕ
head_faults text Γ [] = []
head_faults text Γ (p ∷ ps) = param_faults text Γ p ++ head_faults text (param_scope Γ p.name p.length) ps

abbrev pub rule_faults : Sheet → Raw.Rule → List ℕ
rule_faults S r =
    let Γ = head_scope empty r.params in
    head_faults S.text empty r.params ++ ((condition_faults S.text Γ.names r.needs ++ condition_faults S.text Γ.names r.gives) ++ expr_faults S Γ r.body)

-- rule after rule; a rule's name is declared once
unfoldable pub rules_faults : Sheet → List Raw.Rule → List Raw.Rule → List ℕ
rules_faults S before [] = []
rules_faults S before (r ∷ rs) = (cond (is_some (rule_in S.text before r.name)) (r.name.place ∷ []) [] ++ rule_faults S r) ++ rules_faults S (before ++ r ∷ []) rs

-- the first place at which a name is at fault
abbrev pub name_fault : List ℕ → Raw.Sheet → Option ℕ
name_fault text rules = least (rules_faults (record { text = text; rules = rules }) [] rules)
