-- The trees that nodes stand for. A node is read from its parts, which are to lie below it.
use Rattle.std.specs.Prelude.{ℕ, zero, suc, cond, List, map, length, Some, None, Option, nat_lt}
use Rattle.std.specs.List.{slice_get}
use Rattle.language.specs.Tree.{Expr, Args, num, name, calc, read, call, bind, test, put, claim, end, value, lent, no_expr, Rule}
use Rattle.language.specs.Tree as Tree
use Rattle.records.specs.declared.node.Node.{Node}
use Rattle.records.specs.declared.node.Node.TheVariants.{Blank, Num, Name, Calc, Read, Call, Bind, Test, Put, Claim, End, Value, Lent}
use Rattle.records.specs.declared.entry.Param.{Param}
use Rattle.records.specs.declared.entry.Entry.{Entry}
use Rattle.records.specs.Tables.{Tables, stretch, conditions_in, param_of}

-- what a node is read as: an expression, or arguments
pub record Part : Type 0 where
  pub expr : Expr
  pub args : Args

abbrev pub no_part : Part
no_part = record { expr = no_expr; args = end }

-- the conditions of two positions in their table
abbrev pub Reader : Type 0
Reader = ℕ → ℕ → List Tree.Condition

abbrev pub reader_of : Tables → Reader
reader_of t = conditions_in t.items t.conditions

abbrev pub grown_expr : Reader → (ℕ → Part) → Node → Expr
grown_expr cs part Blank = no_expr
grown_expr cs part (Num p n) = num p n
grown_expr cs part (Name p i) = name p i
grown_expr cs part (Calc p o a b) = calc p o (part a).expr (part b).expr
grown_expr cs part (Read p n l a) = read (record { place = p; number = n; list = l }) (part a).expr
grown_expr cs part (Call p f xs) = call p f (part xs).args
grown_expr cs part (Bind p a b) = bind p (part a).expr (part b).expr
grown_expr cs part (Test p c a b d e) = test p c (part a).expr (part b).expr (part d).expr (part e).expr
grown_expr cs part (Put p s n l a b e) = put p (record { place = s; number = n; list = l }) (part a).expr (part b).expr (part e).expr
grown_expr cs part (Claim p a s) = claim p (part a).expr (cs s.from s.to)
grown_expr cs part End = no_expr
grown_expr cs part (Value a xs) = no_expr
grown_expr cs part (Lent l xs) = no_expr

abbrev pub grown_args : (ℕ → Part) → Node → Args
grown_args part Blank = end
grown_args part (Num p n) = end
grown_args part (Name p i) = end
grown_args part (Calc p o a b) = end
grown_args part (Read p n l a) = end
grown_args part (Call p f xs) = end
grown_args part (Bind p a b) = end
grown_args part (Test p c a b d e) = end
grown_args part (Put p s n l a b e) = end
grown_args part (Claim p a s) = end
grown_args part End = end
grown_args part (Value a xs) = value (part a).expr (part xs).args
grown_args part (Lent l xs) = lent l (part xs).args

abbrev pub grown : Reader → (ℕ → Part) → Option Node → Part
grown cs part None = no_part
grown cs part (Some node) = record { expr = grown_expr cs part node; args = grown_args part node }

-- the node at a position, if that lies below top
abbrev pub node_in : ℕ → List Node → ℕ → Option Node
node_in top ns at = cond (nat_lt at top) (slice_get ns at) None

-- the node at a position, with at most so many nodes on a way down
unfoldable pub fuelled : Reader → ℕ → List Node → ℕ → Part
fuelled cs zero ns p = no_part
fuelled cs (suc f) ns p = grown cs (λ q. cond (nat_lt q p) (fuelled cs f ns q) no_part) (slice_get ns p)

-- the node at a position below top
unfoldable pub part_in : Reader → ℕ → List Node → ℕ → Part
part_in cs top ns p = cond (nat_lt p top) (fuelled cs (suc p) ns p) no_part

-- the expression at a position below top
abbrev pub expr_in : Tables → ℕ → ℕ → Expr
expr_in t top p = (part_in (reader_of t) top t.nodes p).expr

-- the arguments at a position below top
abbrev pub args_in : Tables → ℕ → ℕ → Args
args_in t top p = (part_in (reader_of t) top t.nodes p).args

-- a rule
abbrev pub rule_in : Tables → List Param → Entry → Rule
rule_in t params e = record {
  place = e.place;
  params = map param_of (stretch params e.params.from e.params.to);
  needs = reader_of t e.needs.from e.needs.to;
  gives = reader_of t e.gives.from e.gives.to;
  body = expr_in t (length t.nodes) e.body;
}

abbrev pub rules_in : Tables → List Param → List Entry → List Rule
rules_in t params entries = map (rule_in t params) entries
