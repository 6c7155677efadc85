-- The grammar of a sheet, as parsers: each production in the order of its tokens. Fuel bounds the depth.
use Rattle.std.specs.Prelude.{ℕ, zero, suc, Bool, true, false, cond, List, [], ◌∷◌, ◌++◌, Some, None}
use Rattle.letters.specs.declared.kind.Kind.{Kind}
use Rattle.letters.specs.declared.kind.Kind.TheVariants.{Name, Numeral, Rule, Needs, Gives, Let, In, If, Then, Else, Put, As, TheResult, Open, Close, OpenSquare, CloseSquare, Comma, Semicolon, Plus, Minus, Times, Less, AtMost, Equal, Unequal, Becomes, End}
use Rattle.letters.specs.declared.token.Token.{Token}
use Rattle.grammar.specs.Raw.{Item, Side, Condition, Expr, Args, num, name, calc, read, call, bind, test, put, claim, nest, none, more, Param, Sheet}
use Rattle.grammar.specs.Raw as raw
use Rattle.grammar.specs.Parsers.{P, is_a, give, stop, out, next, seq, on, wanted, want, turn, chain}

-- kinds of tokens that stand in one place
abbrev pub sum_sign : Token → Bool
sum_sign t = cond (is_a Plus t) true (is_a Minus t)

-- a comparison; `!=` is one only in a test
abbrev pub compares : Bool → Token → Bool
compares tested t = cond (is_a Less t) true (cond (is_a AtMost t) true (cond (is_a Equal t) true (cond tested (is_a Unequal t) false)))

-- a name; in gives and as, `result` too
abbrev pub quantity : Bool → Token → Bool
quantity res t = cond (is_a Name t) true (cond res (is_a TheResult t) false)

-- item ::= NUMERAL | quantity | NUMERAL `*` quantity
abbrev pub plain_item : Bool → Token → Item
plain_item m t = record { minus = m; factor = None; atom = t }

abbrev pub times_item : Bool → Token → Token → Item
times_item m n t = record { minus = m; factor = Some n; atom = t }

abbrev pub item_s : Bool → Bool → P Item
item_s res m = on Numeral
    (seq next (λ n. on Times (seq next (λ _. seq (wanted (quantity res)) (λ t. give (times_item m n t)))) (give (plain_item m n))))
    (seq (wanted (quantity res)) (λ t. give (plain_item m t)))

-- side ::= item | side (`+` | `-`) item
abbrev pub item_on : Bool → ℕ → Side → Token → P Side
item_on res f its t = seq (item_s res (is_a Minus t)) (λ it. give (its ++ it ∷ []))

abbrev pub side_s : Bool → ℕ → P Side
side_s res f = seq (item_s res false) (λ it. chain sum_sign (item_on res) f (it ∷ []))

-- condition ::= side comparison side
abbrev pub condition_of : Side → Token → Side → Condition
condition_of a c b = record { left = a; comparison = c; right = b }

abbrev pub condition_s : Bool → ℕ → P Condition
condition_s res f = seq (side_s res f) (λ a. seq (wanted (compares false)) (λ c. seq (side_s res f) (λ b. give (condition_of a c b))))

-- conditions ::= condition | conditions `,` condition
abbrev pub condition_on : Bool → ℕ → List Condition → Token → P (List Condition)
condition_on res f cs t = seq (condition_s res f) (λ c. give (cs ++ c ∷ []))

abbrev pub conditions_s : Bool → ℕ → P (List Condition)
conditions_s res f = seq (condition_s res f) (λ c. chain (is_a Comma) (condition_on res) f (c ∷ []))

-- conditions after a keyword, if that stands there
abbrev pub optional_s : Kind → Bool → ℕ → P (List Condition)
optional_s k res f = on k (seq next (λ _. conditions_s res f)) (give [])

-- param ::= NAME | NAME `[` NAME `]`
abbrev pub number_param : Token → Param
number_param n = record { name = n; length = None }

abbrev pub list_param : Token → Token → Param
list_param n m = record { name = n; length = Some m }

abbrev pub param_s : P Param
param_s = seq (want Name) (λ n. on OpenSquare (seq next (λ _. seq (want Name) (λ m. seq (want CloseSquare) (λ _. give (list_param n m))))) (give (number_param n)))

-- params, up to and with their `)`
abbrev pub param_on : ℕ → List Param → Token → P (List Param)
param_on f ps t = seq param_s (λ p. give (ps ++ p ∷ []))

abbrev pub params_s : ℕ → P (List Param)
params_s f = on Close (seq next (λ _. give [])) (seq param_s (λ p. seq (chain (is_a Comma) param_on f (p ∷ [])) (λ ps. seq (want Close) (λ _. give ps))))

-- after `let`: NAME `=` expr `in` expr
abbrev pub let_by : P Expr → Token → P Expr
let_by expr t = seq (want Name) (λ n. seq (want Equal) (λ _. seq expr (λ a. seq (want In) (λ _. seq expr (λ b. give (bind t n a b))))))

-- after `if`: sum comparison sum `then` expr `else` expr
abbrev pub if_by : P Expr → P Expr → Token → P Expr
if_by sum expr t = seq sum (λ a. seq (wanted (compares true)) (λ c. seq sum (λ b. seq (want Then) (λ _. seq expr (λ d. seq (want Else) (λ _. seq expr (λ e. give (test t c a b d e))))))))

-- after `put`: NAME `[` sum `]` `:=` sum `in` expr
abbrev pub put_by : P Expr → P Expr → Token → P Expr
put_by sum expr t = seq (want Name) (λ n. seq (want OpenSquare) (λ _. seq sum (λ a. seq (want CloseSquare) (λ _. seq (want Becomes) (λ _. seq sum (λ b. seq (want In) (λ _. seq expr (λ c. give (put t n a b c)))))))))

-- expr ::= let | if | put | sum
abbrev pub expr_by : P Expr → P Expr → P Expr
expr_by sum expr = on Let (seq next (let_by expr)) (on If (seq next (if_by sum expr)) (on Put (seq next (put_by sum expr)) sum))

-- one more part of a sum or a product
abbrev pub calc_on : P Expr → Expr → Token → P Expr
calc_on part a t = seq part (λ b. give (calc t a b))

-- one more argument
abbrev pub arg_on : P Expr → Args → P Args
arg_on sum xs = seq sum (λ e. give (more xs e))

-- arguments, up to and with their `)`
abbrev pub args_by : P Expr → (Args → P Args) → P Args
args_by sum rest = on Close (seq next (λ _. give none)) (seq (arg_on sum none) (λ xs. seq (rest xs) (λ ys. seq (want Close) (λ _. give ys))))

-- what a name begins: NAME `[` sum `]` | NAME `(` args | NAME
abbrev pub name_by : P Expr → P Args → Token → P Expr
name_by sum args n = on OpenSquare (seq next (λ _. seq sum (λ a. seq (want CloseSquare) (λ _. give (read n a)))))
    (on Open (seq next (λ _. seq args (λ xs. give (call n xs)))) (give (name n)))

-- what a `(` begins: expr `)` | expr `as` conditions `)`
abbrev pub bracket_by : P Expr → P (List Condition) → Token → P Expr
bracket_by expr conds t = seq expr (λ e. on As (seq next (λ a. seq conds (λ cs. seq (want Close) (λ _. give (claim a e cs))))) (seq (want Close) (λ _. give (nest t e))))

abbrev pub atom_by : P Expr → P Args → P Expr → P (List Condition) → P Expr
atom_by sum args expr conds = on Numeral (seq next (λ t. give (num t))) (on Name (seq next (name_by sum args)) (on Open (seq next (bracket_by expr conds)) stop))

unfoldable mutual
  pub expr_s : ℕ → P Expr
  expr_s zero = out
  expr_s (suc f) = expr_by (sum_s f) (expr_s f)

  -- sum ::= product | sum (`+` | `-`) product
  pub sum_s : ℕ → P Expr
  sum_s zero = out
  sum_s (suc f) = seq (product_s f) (sum_from_s f)

  pub sum_from_s : ℕ → Expr → P Expr
  sum_from_s zero a = out
  sum_from_s (suc f) a = turn sum_sign (calc_on (product_s f)) (sum_from_s f) a

  -- product ::= atom | product `*` atom
  pub product_s : ℕ → P Expr
  product_s zero = out
  product_s (suc f) = seq (atom_s f) (product_from_s f)

  pub product_from_s : ℕ → Expr → P Expr
  product_from_s zero a = out
  product_from_s (suc f) a = turn (is_a Times) (calc_on (atom_s f)) (product_from_s f) a

  pub args_s : ℕ → P Args
  args_s zero = out
  args_s (suc f) = args_by (sum_s f) (args_from_s f)

  pub args_from_s : ℕ → Args → P Args
  args_from_s zero a = out
  args_from_s (suc f) a = turn (is_a Comma) (λ xs _. arg_on (sum_s f) xs) (args_from_s f) a

  pub atom_s : ℕ → P Expr
  atom_s zero = out
  atom_s (suc f) = atom_by (sum_s f) (args_s f) (expr_s f) (conditions_s true f)

-- what follows `rule`: NAME `(` params [`needs` conditions] [`gives` conditions] `=` expr `;`
abbrev pub rule_of : Token → Token → List Param → List Condition → List Condition → Expr → raw.Rule
rule_of t n ps ns gs e = record { keyword = t; name = n; params = ps; needs = ns; gives = gs; body = e }

abbrev pub rule_s : Token → ℕ → P raw.Rule
rule_s t f = seq (want Name) (λ n. seq (want Open) (λ _. seq (params_s f) (λ ps. seq (optional_s Needs false f) (λ ns. seq (optional_s Gives true f) (λ gs. seq (want Equal) (λ _. seq (expr_s f) (λ e. seq (want Semicolon) (λ _. give (rule_of t n ps ns gs e)))))))))

-- sheet ::= rules END; rules ::= | rules `rule` ..
abbrev pub rule_on : ℕ → Sheet → Token → P Sheet
rule_on f rs t = seq (rule_s t f) (λ r. give (rs ++ r ∷ []))

abbrev pub sheet_s : ℕ → P Sheet
sheet_s f = seq (chain (is_a Rule) rule_on f []) (λ rs. on End (give rs) stop)
