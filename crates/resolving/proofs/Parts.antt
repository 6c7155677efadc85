-- What a written node is, and the room that its parts have.
use Rattle.std.proofs.Common.{◌≡◌, ℕ, ◌≤◌, cond, List, [], ◌∷◌, map, length, Some, Option, sym, refl, ap, ◌∙◌, subst, arith}
use Rattle.letters.specs.declared.token.Token.{Token}
use Rattle.grammar.specs.declared.node.Node.{Node}
use Rattle.grammar.specs.Raw as Raw
use Rattle.grammar.specs.Trees.{Source, Part, grown, part_in, raw_at}
use Rattle.grammar.proofs.Parts.{step}
use Rattle.grammar.specs.Weights.{expr_weight, condition_weight, conditions_weight}
use Rattle.naming.specs.declared.written.Written.{Written}
use Rattle.naming.specs.Reaches.{scope_of}
use Rattle.naming.specs.Scopes.{Scope, Sheet, slot_in, rule_in, next}
use Rattle.naming.specs.Sources.{node_in}
use Rattle.letters.specs.declared.kind.Kind.TheVariants.{End}
use Rattle.letters.specs.Tokens.{token_of, same_name}
use Rattle.std.proofs.lemmas.List.{length-map}
use Rattle.std.proofs.lemmas.List.Sums.{sum_by-cons}
use Rattle.naming.specs.Resolving.{slot_of, condition_of, conditions_of}
use Rattle.records.specs.Columns.{Columns}
use Rattle.resolving.specs.Growing.{Roomy, ExprMade}

pub raw-is : (s : Source) (top : ℕ) (ns : List Node) (at : ℕ) (o : Option Node) → o ≡ node_in top ns at → raw_at s top ns at ≡ (grown s (part_in s at ns) o).expr
raw-is s top ns at o e = ap (λ (p : Part). p.expr) (step s top ns at ∙ ap (grown s (part_in s at ns)) (sym e))

pub roomy-less : {u w : ℕ} {p : Columns} → Roomy w p → u ≤ w → Roomy u p
roomy-less r h = record { nodes = omega (arith, r.nodes); conditions = omega (arith, r.conditions); items = omega (arith, r.items) }

pub roomy-is : (e f : Raw.Expr) (p : Columns) → Roomy (expr_weight e) p → e ≡ f → Roomy (expr_weight f) p
roomy-is e f p r h = subst (λ x. Roomy (expr_weight x) p) h r

pub made-is : (S : Sheet) (Γ : Scope) (e f : Raw.Expr) (i j : ℕ) (p q : Columns) → ExprMade S Γ f j p q → e ≡ f → i ≡ j → ExprMade S Γ e i p q
made-is S Γ e f i j p q m h k = subst (λ x. ExprMade S Γ x i p q) (sym h) (subst (λ n. ExprMade S Γ f n p q) (sym k) m)

pub made_in-law : (S : Sheet) (w : Written) (xs ys ls : List ℕ) (e : Raw.Expr) (i : ℕ) (p q : Columns) → ExprMade S (scope_of w xs ls) e i p q → xs ≡ ys → ExprMade S (scope_of w ys ls) e i p q
made_in-law S w xs ys ls e i p q m h = subst (λ zs. ExprMade S (scope_of w zs ls) e i p q) h m

-- a rule is found as a name among the rules' names
rule-slot : (text : List ℕ) (rs : List Raw.Rule) (t : Token) → slot_in text (map (λ (r : Raw.Rule). r.name) rs) t ≡ rule_in text rs t
unfolding slot_in rule_in
rule-slot text [] t = refl
rule-slot text (r ∷ rs) t = ap (λ o. cond (same_name text r.name t) (Some 0) (next o)) (rule-slot text rs t)

pub rule_found : (text : List ℕ) (ts : List Token) (rs : List Raw.Rule) (t u : Token) (i : ℕ) → i ≡ slot_of (slot_in text ts t) → ts ≡ map (λ (r : Raw.Rule). r.name) rs → t ≡ u → i ≡ slot_of (rule_in text rs u)
rule_found text ts rs t u i e h k = e ∙ ap (λ (x : Token). slot_of (slot_in text ts x)) k ∙ ap (λ xs. slot_of (slot_in text xs u)) h ∙ ap slot_of (rule-slot text rs u)

-- the token of what no expression stands for
abbrev pub nothing : Token
nothing = token_of End 0 0 0

sum-few : (cs : List Raw.Condition) → length cs ≤ conditions_weight cs
sum-few [] = omega arith
sum-few (c ∷ cs) = let h = sum-few cs in let e = sum_by-cons condition_weight c cs in omega arith

pub listed-few : (text : List ℕ) (Γ : Scope) (cs : List Raw.Condition) → length (conditions_of text Γ cs) ≤ conditions_weight cs
listed-few text Γ cs = let h = sum-few cs in let e = length-map cs (condition_of text Γ) in omega arith
