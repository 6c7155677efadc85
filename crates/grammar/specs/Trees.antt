-- The trees that nodes stand for. A node is read from its tokens and its parts, which are to lie below it.
use Rattle.std.specs.Prelude.{ℕ, zero, suc, cond, List, [], ◌∷◌, ◌++◌, length, Some, None, Option, nat_lt}
use Rattle.std.specs.List.{slice_get}
use Rattle.letters.specs.declared.kind.Kind.TheVariants.{End, Needs, Gives}
use Rattle.letters.specs.declared.token.Token.{Token}
use Rattle.letters.specs.Tokens.{token_of}
use Rattle.grammar.specs.declared.node.Node.{Node}
use Rattle.grammar.specs.declared.node.Node.TheVariants.{Blank, Num, Name, Calc, Read, Call, Bind, Test, Put, Claim, Nest, NoArgs, Arg, Rule}
use Rattle.grammar.specs.Raw.{Expr, Args, num, name, calc, read, call, bind, test, put, claim, nest, none, more, Sheet}
use Rattle.grammar.specs.Parsers.{Look, look_in}
use Rattle.grammar.specs.Sheets.{rule_of}
use Rattle.grammar.specs.Stretches.{conditions_at, optional_at, params_at}

-- the tokens of a text, and its length
pub record Source : Type 0 where
  pub tokens : List Token
  pub end : ℕ

abbrev pub look_of : Source → Look
look_of s = look_in s.tokens s.end

-- what a node is read as: an expression, or arguments
pub record Part : Type 0 where
  pub expr : Expr
  pub args : Args

-- what no expression stands for is read as the numeral of no token
abbrev pub no_expr : Expr
no_expr = num (token_of End 0 0 0)

abbrev pub no_part : Part
no_part = record { expr = no_expr; args = none }

abbrev pub grown_expr : Source → (ℕ → Part) → Node → Expr
grown_expr s part Blank = no_expr
grown_expr s part (Num t) = num (look_of s t)
grown_expr s part (Name t) = name (look_of s t)
grown_expr s part (Calc t a b) = calc (look_of s t) (part a).expr (part b).expr
grown_expr s part (Read t a) = read (look_of s t) (part a).expr
grown_expr s part (Call t xs) = call (look_of s t) (part xs).args
grown_expr s part (Bind t n a b) = bind (look_of s t) (look_of s n) (part a).expr (part b).expr
grown_expr s part (Test t c a b d e) = test (look_of s t) (look_of s c) (part a).expr (part b).expr (part d).expr (part e).expr
grown_expr s part (Put t n a b c) = put (look_of s t) (look_of s n) (part a).expr (part b).expr (part c).expr
grown_expr s part (Claim t c a) = claim (look_of s t) (part a).expr (conditions_at (length s.tokens) (look_of s) c).value
grown_expr s part (Nest t a) = nest (look_of s t) (part a).expr
grown_expr s part NoArgs = no_expr
grown_expr s part (Arg xs a) = no_expr
grown_expr s part (Rule t m ps n g b) = no_expr

abbrev pub grown_args : (ℕ → Part) → Node → Args
grown_args part Blank = none
grown_args part (Num t) = none
grown_args part (Name t) = none
grown_args part (Calc t a b) = none
grown_args part (Read t a) = none
grown_args part (Call t xs) = none
grown_args part (Bind t n a b) = none
grown_args part (Test t c a b d e) = none
grown_args part (Put t n a b c) = none
grown_args part (Claim t c a) = none
grown_args part (Nest t a) = none
grown_args part NoArgs = none
grown_args part (Arg xs a) = more (part xs).args (part a).expr
grown_args part (Rule t m ps n g b) = none

abbrev pub grown : Source → (ℕ → Part) → Option Node → Part
grown s part None = no_part
grown s part (Some node) = record { expr = grown_expr s part node; args = grown_args part node }

-- the node at a position, with at most so many nodes on a way down
unfoldable pub fuelled : Source → ℕ → List Node → ℕ → Part
fuelled s zero ns p = no_part
fuelled s (suc f) ns p = grown s (λ q. cond (nat_lt q p) (fuelled s f ns q) no_part) (slice_get ns p)

-- the node at a position below top
unfoldable pub part_in : Source → ℕ → List Node → ℕ → Part
part_in s top ns p = cond (nat_lt p top) (fuelled s (suc p) ns p) no_part

-- the expression at a position below top
abbrev pub raw_at : Source → ℕ → List Node → ℕ → Expr
raw_at s top ns p = (part_in s top ns p).expr

-- the arguments at a position below top
abbrev pub args_at : Source → ℕ → List Node → ℕ → Args
args_at s top ns p = (part_in s top ns p).args

-- the rule of a node, its body given
abbrev pub rule_in : Source → (ℕ → Expr) → Option Node → Sheet
rule_in s body None = []
rule_in s body (Some Blank) = []
rule_in s body (Some (Num t)) = []
rule_in s body (Some (Name t)) = []
rule_in s body (Some (Calc t a b)) = []
rule_in s body (Some (Read t a)) = []
rule_in s body (Some (Call t xs)) = []
rule_in s body (Some (Bind t n a b)) = []
rule_in s body (Some (Test t c a b d e)) = []
rule_in s body (Some (Put t n a b c)) = []
rule_in s body (Some (Claim t c a)) = []
rule_in s body (Some (Nest t a)) = []
rule_in s body (Some NoArgs) = []
rule_in s body (Some (Arg xs a)) = []
rule_in s body (Some (Rule t m ps n g b)) =
    rule_of (look_of s t) (look_of s m) (params_at (length s.tokens) (look_of s) ps)
    (optional_at (length s.tokens) (look_of s) Needs n) (optional_at (length s.tokens) (look_of s) Gives g) (body b) ∷ []

-- the rules among the nodes below a position, in their order
unfoldable pub rules_to : Source → ℕ → List Node → Sheet
rules_to s zero ns = []
rules_to s (suc k) ns = rules_to s k ns ++ rule_in s (raw_at s k ns) (slice_get ns k)
