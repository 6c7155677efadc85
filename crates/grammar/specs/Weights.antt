-- The weight of a sheet as it is written, which is at most the number of its tokens.
use Rattle.std.specs.Prelude.{ℕ, ◌+◌, List, length, sum_by}
use Rattle.grammar.specs.Raw.{Condition, Expr, Args, num, name, calc, read, call, bind, test, put, claim, nest, none, more, Rule, Sheet}

abbrev pub condition_weight : Condition → ℕ
condition_weight c = length c.left + length c.right + 1

abbrev pub conditions_weight : List Condition → ℕ
conditions_weight cs = sum_by condition_weight cs

unfoldable mutual
  pub expr_weight : Expr → ℕ
  expr_weight (num t) = 1
  expr_weight (name t) = 1
  expr_weight (calc t a b) = 1 + expr_weight a + expr_weight b
  expr_weight (read t a) = 1 + expr_weight a
  expr_weight (call t xs) = 2 + args_weight xs
  expr_weight (bind t n a b) = 1 + expr_weight a + expr_weight b
  expr_weight (test t c a b d e) = 1 + expr_weight a + expr_weight b + expr_weight d + expr_weight e
  expr_weight (put t n a b e) = 1 + expr_weight a + expr_weight b + expr_weight e
  expr_weight (claim t e cs) = 1 + expr_weight e + conditions_weight cs
  expr_weight (nest t e) = expr_weight e

  pub args_weight : Args → ℕ
  args_weight none = 0
  args_weight (more xs e) = args_weight xs + expr_weight e + 1

abbrev pub rule_weight : Rule → ℕ
rule_weight r = 1 + length r.params + conditions_weight r.needs + conditions_weight r.gives + expr_weight r.body

abbrev pub weight_of : Sheet → ℕ
weight_of rs = sum_by rule_weight rs
