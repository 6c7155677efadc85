-- The node at the position of an expression, of arguments or of a rule's entry says what they are.
use Rattle.std.proofs.Common.{◌≡◌, ℕ, zero, suc, List, [], ◌∷◌, Some, None, Option, sym, refl, ◌∙◌, subst, arith}
use Rattle.std.proofs.lemmas.Option.{none-some, same_Some}
use Rattle.std.specs.List.{slice_get}
use Rattle.language.specs.Tree.{Expr, Args, Rule}
use Rattle.records.specs.declared.node.Node.{Node}
use Rattle.records.specs.declared.entry.Param.{Param}
use Rattle.records.specs.declared.entry.Entry.{Entry}
use Rattle.records.specs.Tables.{Tables}
use Rattle.records.specs.Standing.{Stands, num, name, calc, read, call, bind, test, put, claim, ArgsStand, end, value, lent}
use Rattle.records.specs.Inverting.{ExprAs, ArgsAs, RuleOf}
use Rattle.records.specs.Rules.{RuleStands, RulesStand}
use Rattle.records.proofs.Standing.{low_end}

-- where two nodes lie at one position, what holds of one holds of the other
same_node : (P : Node → Type 0) (o : Option Node) (m n : Node) → o ≡ Some m → o ≡ Some n → P m → P n
same_node P o m n h g x = subst P (same_Some m n (sym h ∙ g)) x

pub expr_as : (t : Tables) (lo at : ℕ) (e : Expr) (n : Node) → Stands t lo at e → slice_get t.nodes at ≡ Some n → ExprAs t lo at e n
expr_as t lo at e n (num h l) g = same_node (ExprAs t lo at e) _ _ n h g (record { is = refl; low = l })
expr_as t lo at e n (name h l) g = same_node (ExprAs t lo at e) _ _ n h g (record { is = refl; low = l })
expr_as t lo at e n (calc h a b x y) g = same_node (ExprAs t lo at e) _ _ n h g (record { left = _; right = _; is = refl; left_below = a; right_below = b; left_stands = x; right_stands = y })
expr_as t lo at e n (read h a x) g = same_node (ExprAs t lo at e) _ _ n h g (record { index = _; is = refl; index_below = a; index_stands = x })
expr_as t lo at e n (call h a x) g = same_node (ExprAs t lo at e) _ _ n h g (record { args = _; is = refl; args_below = a; args_stand = x })
expr_as t lo at e n (bind h a b x y) g = same_node (ExprAs t lo at e) _ _ n h g (record { bound = _; body = _; is = refl; bound_below = a; body_below = b; bound_stands = x; body_stands = y })
expr_as t lo at e n (test h a b c d x y u v) g =
    same_node (ExprAs t lo at e) _ _ n h g (record { left = _; right = _; met = _; unmet = _; is = refl; left_below = a; right_below = b; met_below = c; unmet_below = d; left_stands = x; right_stands = y; met_stands = u; unmet_stands = v })
expr_as t lo at e n (put h a b c x y u) g =
    same_node (ExprAs t lo at e) _ _ n h g (record { index = _; given = _; rest = _; is = refl; index_below = a; given_below = b; rest_below = c; index_stands = x; given_stands = y; rest_stands = u })
expr_as t lo at e n (claim h a x l) g = same_node (ExprAs t lo at e) _ _ n h g (record { claimed = _; conditions = _; is = refl; claimed_below = a; claimed_stands = x; listed = l })

pub args_as : (t : Tables) (lo at : ℕ) (xs : Args) (n : Node) → ArgsStand t lo at xs → slice_get t.nodes at ≡ Some n → ArgsAs t lo at xs n
args_as t lo at xs n (end h l) g = same_node (ArgsAs t lo at xs) _ _ n h g (record { is = refl; low = l })
args_as t lo at xs n (value h a b y x) g = same_node (ArgsAs t lo at xs) _ _ n h g (record { argument = _; rest = _; is = refl; argument_below = a; rest_below = b; rest_stand = y; argument_stands = x })
args_as t lo at xs n (lent h b y) g = same_node (ArgsAs t lo at xs) _ _ n h g (record { rest = _; is = refl; rest_below = b; rest_stand = y })

-- the entry with a number is the rule's, and past the last entry there is none
pub rule_of : (t : Tables) (ps : List Param) (lo : ℕ) (es : List Entry) (rs : List Rule) (f : ℕ) (e : Entry) → RulesStand t ps lo es rs → slice_get es f ≡ Some e → RuleOf t ps lo rs f e
rule_of t ps lo [] rs f e x g = absurd (none-some e g)
rule_of t ps lo (d ∷ es) [] f e x g = absurd x
rule_of t ps lo (d ∷ es) (r ∷ rs) zero e x g = record { rule = r; is = refl; from = lo; low = omega arith; stands = subst (λ c. RuleStands t ps lo c r) (same_Some d e g) x.0 }
rule_of t ps lo (d ∷ es) (r ∷ rs) (suc f) e x g =
    let l = low_end t lo d.body r.body x.0.body in
    let q = rule_of t ps (suc d.body) es rs f e x.1 g in record { rule = q.rule; is = q.is; from = q.from; low = omega (arith, l, q.low); stands = q.stands }

pub no_rule_past : (t : Tables) (ps : List Param) (lo : ℕ) (es : List Entry) (rs : List Rule) (f : ℕ) → RulesStand t ps lo es rs → slice_get es f ≡ None → slice_get rs f ≡ None
no_rule_past t ps lo [] [] f x g = refl
no_rule_past t ps lo [] (r ∷ rs) f x g = absurd x
no_rule_past t ps lo (d ∷ es) [] f x g = absurd x
no_rule_past t ps lo (d ∷ es) (r ∷ rs) zero x g = absurd (none-some d (sym g))
no_rule_past t ps lo (d ∷ es) (r ∷ rs) (suc f) x g = no_rule_past t ps (suc d.body) es rs f x.1 g
