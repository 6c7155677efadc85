-- The tree of a sheet with its names resolved, by its text alone: an argument is lent where it is the bare name of a list. Where there is no fault of names, that is where the callee has a list.
use Rattle.std.specs.Prelude.{ℕ, List, map, Some, None, Option}
use Rattle.grammar.specs.Raw as Raw
use Rattle.grammar.specs.Raw.{num, name, calc, read, call, bind, test, put, claim, nest, none, more}
use Rattle.language.specs.Tree as Tree
use Rattle.naming.specs.Scopes.{Scope, Sheet, slot_in, rule_in, naming, empty, head_scope}
use Rattle.naming.specs.Faults.{bare_list}
use Rattle.naming.specs.Resolving.{slot_of, operator_of, comparison_of, conditions_of, site_of, param_of}

-- an argument before the others: the bare name of a list lends it, by its slot
abbrev pub arg_of : Option ℕ → Tree.Expr → Tree.Args → Tree.Args
arg_of (Some slot) e es = Tree.lent slot es
arg_of None e es = Tree.value e es

unfoldable mutual
  pub expr_of : Sheet → Scope → Raw.Expr → Tree.Expr
  expr_of S Γ (num t) = Tree.num t.place t.value
  expr_of S Γ (name t) = Tree.name t.place (slot_of (slot_in S.text Γ.names t))
  expr_of S Γ (calc t a b) = Tree.calc t.place (operator_of t.kind) (expr_of S Γ a) (expr_of S Γ b)
  expr_of S Γ (read t e) = Tree.read (site_of S.text Γ t) (expr_of S Γ e)
  expr_of S Γ (call t es) = Tree.call t.place (slot_of (rule_in S.text S.rules t)) (args_of S Γ es Tree.end)
  expr_of S Γ (bind t n a b) = Tree.bind t.place (expr_of S Γ a) (expr_of S (naming Γ n) b)
  expr_of S Γ (test t c a b d e) = Tree.test t.place (comparison_of c.kind) (expr_of S Γ a) (expr_of S Γ b) (expr_of S Γ d) (expr_of S Γ e)
  expr_of S Γ (put t l a b e) = Tree.put t.place (site_of S.text Γ l) (expr_of S Γ a) (expr_of S Γ b) (expr_of S Γ e)
  expr_of S Γ (claim t e cs) = Tree.claim t.place (expr_of S Γ e) (conditions_of S.text Γ cs)
  expr_of S Γ (nest t e) = expr_of S Γ e

  -- the arguments, from the last, before those that come after them
  pub args_of : Sheet → Scope → Raw.Args → Tree.Args → Tree.Args
  args_of S Γ none after = after
  args_of S Γ (more es e) after = args_of S Γ es (arg_of (bare_list S.text Γ.lists e) (expr_of S Γ e) after)

abbrev pub rule_of : Sheet → Raw.Rule → Tree.Rule
rule_of S r =
    let Γ = head_scope empty r.params in
    record {
      place = r.keyword.place;
      params = map param_of r.params;
      needs = conditions_of S.text Γ r.needs;
      gives = conditions_of S.text Γ r.gives;
      body = expr_of S Γ r.body;
    }

-- what the written sheet stands for
abbrev pub sheet_of : List ℕ → Raw.Sheet → List Tree.Rule
sheet_of text rules = map (rule_of (record { text = text; rules = rules })) rules
