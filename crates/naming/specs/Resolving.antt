-- The tree of a sheet with its names resolved: what a written sheet stands for.
use Rattle.std.specs.Prelude.{ℕ, Bool, true, false, cond, List, [], ◌∷◌, map, ℤ, pos, neg_ℤ, Some, None, Option}
use Rattle.std.specs.Option.{unwrap_or}
use Rattle.letters.specs.declared.kind.Kind.{Kind}
use Rattle.letters.specs.declared.kind.Kind.TheVariants as Kinds
use Rattle.letters.specs.declared.token.Token.{Token}
use Rattle.letters.specs.Kinds.{same_kind}
use Rattle.grammar.specs.Raw as Raw
use Rattle.grammar.specs.Raw.{num, name, calc, read, call, bind, test, put, claim, nest, none, more}
use Rattle.language.specs.declared.operator.Operator.{Operator}
use Rattle.language.specs.declared.operator.Operator.TheVariants.{Sum, Difference, Product}
use Rattle.language.specs.declared.comparison.Comparison.{Comparison}
use Rattle.language.specs.declared.comparison.Comparison.TheVariants.{Less, LessOrEqual, Equal, NotEqual}
use Rattle.language.specs.Tree as Tree
use Rattle.naming.specs.Scopes.{Scope, Sheet, slot_in, rule_in, naming, empty, head_scope}
use Rattle.naming.specs.Faults.{bare_list, count_args, params_of, length_at}

-- A name that is not found has slot 0; a sheet with such a name is refused.
abbrev pub slot_of : Option ℕ → ℕ
slot_of o = unwrap_or o 0

abbrev pub operator_of : Kind → Operator
operator_of k = cond (same_kind k Kinds.Plus) Sum (cond (same_kind k Kinds.Minus) Difference Product)

abbrev pub comparison_of : Kind → Comparison
comparison_of k = cond (same_kind k Kinds.Less) Less (cond (same_kind k Kinds.AtMost) LessOrEqual (cond (same_kind k Kinds.Equal) Equal NotEqual))

abbrev pub signed : Bool → ℤ → ℤ
signed true z = neg_ℤ z
signed false z = z

-- a numeral is so many times one
abbrev pub atom_of : List ℕ → Scope → Token → Tree.Atom
atom_of text Γ t = cond (same_kind t.kind Kinds.Name) (Tree.named (slot_of (slot_in text Γ.names t))) (cond (same_kind t.kind Kinds.TheResult) Tree.result Tree.one)

abbrev pub factor_of : Option Token → Token → ℕ
factor_of (Some f) t = f.value
factor_of None t = cond (same_kind t.kind Kinds.Numeral) t.value 1

abbrev pub item_of : List ℕ → Scope → Raw.Item → Tree.Item
item_of text Γ i = record { factor = signed i.minus (pos (factor_of i.factor i.atom)); atom = atom_of text Γ i.atom }

-- a condition's place is the first byte of its first item
abbrev pub item_place : Raw.Item → ℕ
item_place i = elim i.factor [ Some f ↦ f.place | None ↦ i.atom.place ]

abbrev pub side_place : Raw.Side → ℕ
side_place [] = 0
side_place (i ∷ is) = item_place i

abbrev pub condition_of : List ℕ → Scope → Raw.Condition → Tree.Condition
condition_of text Γ c = record {
  place = side_place c.left;
  left = map (item_of text Γ) c.left;
  comparison = comparison_of c.comparison.kind;
  right = map (item_of text Γ) c.right;
}

abbrev pub conditions_of : List ℕ → Scope → List Raw.Condition → List Tree.Condition
conditions_of text Γ cs = map (condition_of text Γ) cs

abbrev pub site_of : List ℕ → Scope → Token → Tree.Site
site_of text Γ t = record { place = t.place; number = 0; list = slot_of (slot_in text Γ.lists t) }

-- an argument before the others: a list is lent, by its slot
abbrev pub arg_of : Option Token → Option ℕ → Tree.Expr → Tree.Args → Tree.Args
arg_of None bare e es = Tree.value e es
arg_of (Some n) (Some slot) e es = Tree.lent slot es
arg_of (Some n) None e es = Tree.value e es

unfoldable mutual
  pub expr_of : Sheet → Scope → Raw.Expr → Tree.Expr
  expr_of S Γ (num t) = Tree.num t.place t.value
  expr_of S Γ (name t) = Tree.name t.place (slot_of (slot_in S.text Γ.names t))
  expr_of S Γ (calc t a b) = Tree.calc t.place (operator_of t.kind) (expr_of S Γ a) (expr_of S Γ b)
  expr_of S Γ (read t e) = Tree.read (site_of S.text Γ t) (expr_of S Γ e)
  expr_of S Γ (call t es) =
      let f = rule_in S.text S.rules t in
      Tree.call t.place (slot_of f) (args_of S Γ (unwrap_or (params_of S f) []) es Tree.end)
  expr_of S Γ (bind t n a b) = Tree.bind t.place (expr_of S Γ a) (expr_of S (naming Γ n) b)
  expr_of S Γ (test t c a b d e) = Tree.test t.place (comparison_of c.kind) (expr_of S Γ a) (expr_of S Γ b) (expr_of S Γ d) (expr_of S Γ e)
  expr_of S Γ (put t l a b e) = Tree.put t.place (site_of S.text Γ l) (expr_of S Γ a) (expr_of S Γ b) (expr_of S Γ e)
  expr_of S Γ (claim t e cs) = Tree.claim t.place (expr_of S Γ e) (conditions_of S.text Γ cs)
  expr_of S Γ (nest t e) = expr_of S Γ e

  -- the arguments, from the last, before those that come after them
  pub args_of : Sheet → Scope → List Raw.Param → Raw.Args → Tree.Args → Tree.Args
  args_of S Γ ps none after = after
  args_of S Γ ps (more es e) after = args_of S Γ ps es (arg_of (length_at ps (count_args es)) (bare_list S.text Γ.lists e) (expr_of S Γ e) after)

abbrev pub param_of : Raw.Param → Tree.Param
param_of p = elim p.length [ None ↦ Tree.a_number | Some n ↦ Tree.a_list ]

abbrev pub rule_of : Sheet → Raw.Rule → Tree.Rule
rule_of S r =
    let Γ = head_scope empty r.params in
    record {
      place = r.keyword.place;
      params = map param_of r.params;
      needs = conditions_of S.text Γ r.needs;
      gives = conditions_of S.text Γ r.gives;
      body = expr_of S Γ r.body;
    }

-- what the written sheet stands for
abbrev pub sheet_of : List ℕ → Raw.Sheet → List Tree.Rule
sheet_of text rules = map (rule_of (record { text = text; rules = rules })) rules
