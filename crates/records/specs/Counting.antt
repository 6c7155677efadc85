-- How many expressions and conditions have a place up to a byte: of trees, and of the tables that they lie in.
use Rattle.std.specs.Prelude.{ℕ, ◌+◌, cond, List, sum_by, nat_le}
use Rattle.language.specs.Tree as Tree
use Rattle.language.specs.Tree.{Expr, Args, num, name, calc, read, call, bind, test, put, claim, end, value, lent}
use Rattle.records.specs.declared.node.Node.{Node}
use Rattle.records.specs.declared.node.Node.TheVariants.{Blank, Num, Name, Calc, Read, Call, Bind, Test, Put, Claim, End, Value, Lent}
use Rattle.records.specs.declared.condition.Condition.{Condition}

abbrev pub up_to : ℕ → ℕ → ℕ
up_to q p = cond (nat_le p q) 1 0

-- the expressions of a tree; list arguments are none
unfoldable mutual
  pub exprs_up_to : ℕ → Expr → ℕ
  exprs_up_to q (num p n) = up_to q p
  exprs_up_to q (name p i) = up_to q p
  exprs_up_to q (calc p o a b) = (exprs_up_to q a + exprs_up_to q b) + up_to q p
  exprs_up_to q (read site e) = exprs_up_to q e + up_to q site.place
  exprs_up_to q (call p f es) = args_up_to q es + up_to q p
  exprs_up_to q (bind p a b) = (exprs_up_to q a + exprs_up_to q b) + up_to q p
  exprs_up_to q (test p c a b d e) = (((exprs_up_to q a + exprs_up_to q b) + exprs_up_to q d) + exprs_up_to q e) + up_to q p
  exprs_up_to q (put p site a b e) = ((exprs_up_to q a + exprs_up_to q b) + exprs_up_to q e) + up_to q p
  exprs_up_to q (claim p e cs) = exprs_up_to q e + up_to q p

  pub args_up_to : ℕ → Args → ℕ
  args_up_to q end = 0
  args_up_to q (value e es) = exprs_up_to q e + args_up_to q es
  args_up_to q (lent l es) = args_up_to q es

-- the conditions of a list, and those in a tree
unfoldable pub conditions_up_to : ℕ → List Tree.Condition → ℕ
conditions_up_to q cs = sum_by (λ c. up_to q c.place) cs

unfoldable mutual
  pub claims_up_to : ℕ → Expr → ℕ
  claims_up_to q (num p n) = 0
  claims_up_to q (name p i) = 0
  claims_up_to q (calc p o a b) = claims_up_to q a + claims_up_to q b
  claims_up_to q (read site e) = claims_up_to q e
  claims_up_to q (call p f es) = claims_in q es
  claims_up_to q (bind p a b) = claims_up_to q a + claims_up_to q b
  claims_up_to q (test p c a b d e) = ((claims_up_to q a + claims_up_to q b) + claims_up_to q d) + claims_up_to q e
  claims_up_to q (put p site a b e) = (claims_up_to q a + claims_up_to q b) + claims_up_to q e
  claims_up_to q (claim p e cs) = claims_up_to q e + conditions_up_to q cs

  pub claims_in : ℕ → Args → ℕ
  claims_in q end = 0
  claims_in q (value e es) = claims_up_to q e + claims_in q es
  claims_in q (lent l es) = claims_in q es

-- a node is an expression, or a link of arguments
abbrev pub node_up_to : ℕ → Node → ℕ
node_up_to q Blank = 0
node_up_to q (Num p n) = up_to q p
node_up_to q (Name p i) = up_to q p
node_up_to q (Calc p o a b) = up_to q p
node_up_to q (Read p n l a) = up_to q p
node_up_to q (Call p f xs) = up_to q p
node_up_to q (Bind p a b) = up_to q p
node_up_to q (Test p c a b d e) = up_to q p
node_up_to q (Put p s n l a b e) = up_to q p
node_up_to q (Claim p a cs) = up_to q p
node_up_to q End = 0
node_up_to q (Value a xs) = 0
node_up_to q (Lent l xs) = 0

unfoldable pub nodes_up_to : ℕ → List Node → ℕ
nodes_up_to q ns = sum_by (node_up_to q) ns

unfoldable pub listed_up_to : ℕ → List Condition → ℕ
listed_up_to q cs = sum_by (λ c. up_to q c.place) cs
