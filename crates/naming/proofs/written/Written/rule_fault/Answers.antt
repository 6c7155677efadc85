use Rattle.std.proofs.Common.{cond, [], ◌∷◌, length, is_some, sym, ap, ◌∙◌, ap₂}
use Rattle.letters.specs.declared.token.Token.{Token}
use Rattle.grammar.specs.Trees.{look_of, rules_to}
use Rattle.pile.specs.Entries.{entries}
use Rattle.naming.specs.Faults.{head_faults, condition_faults}
use Rattle.naming.specs.Least.{least}
use Rattle.naming.specs.Reaches.{tokens_of, scope_of, sheet_of}
use Rattle.naming.specs.Scopes as Scopes
use Rattle.naming.specs.Scopes.{empty, head_scope}
use Rattle.naming.specs.Sources.{source_of}
use Rattle.naming.specs.Stretching.{left}
use Rattle.naming.specs.declared.written.Written.{Written}
use Rattle.naming.specs.Walks.{expr_at}
use Rattle.naming.proofs.Grown.{rule-here, rule-not}
use Rattle.naming.proofs.Ruling.{no-rule, one-rule}
use Rattle.naming.proofs.written.Written.rule_fault.Goals as goal

pub returns-in_err-rule : goal.returns-in_err-rule
returns-in_err-rule c =
    let w = c.args.self in c.from_residual.ensures ∙ no-rule (sheet_of w) (rules_to (source_of w) c.args.at w.nodes.now) _ (rule-not (source_of w) w.nodes.now c.args.at c.in_err-rule.ensures)

pub returns : goal.returns
returns c =
    let w = c.args.self in let s = source_of w in let l = look_of s in let text = w.text.now in let at = c.args.at in let k = c.in_ok-rule.rule in let n = length w.tokens.now in
    let d = c.enter-head in let names = entries d.new.self.names in let lists = entries d.new.self.lists in let ps = left c.params.result in
    let v = c.params.ensures.sheet in
    one-rule (sheet_of w) (rules_to s at w.nodes.now) _ _ (scope_of w names lists) _ _ _ _ _ _ _ _ _ (rule-here s w.nodes.now at k c.in_ok-rule.ensures)
    (ap (λ (x : Written). scope_of x names lists) (sym v) ∙ d.ensures.scope ∙ ap (head_scope empty) c.params.ensures.params)
    (c.named_twice-twice.ensures ∙ ap (λ (t : Token). least (cond (is_some (Scopes.rule_in text (rules_to s at w.nodes.now) t)) (t.place ∷ []) [])) c.token.ensures)
    (d.ensures.value ∙ ap (λ (x : Written). least (head_faults x.text.now empty ps)) v ∙ ap (λ qs. least (head_faults text empty qs)) c.params.ensures.params)
    (c.conditions_fault-needs.ensures ∙ ap₂ (λ xs cs. least (condition_faults text (tokens_of w xs) cs)) c.as_slice.ensures c.optional.ensures.conditions)
    (c.conditions_fault-gives.ensures ∙ ap₂ (λ xs cs. least (condition_faults text (tokens_of w xs) cs)) c.as_slice-2.ensures c.optional-2.ensures.conditions)
    (c.expr_fault-body.ensures.told ∙ ap (λ xs. least (expr_at w xs at k.body names)) c.as_slice-3.ensures)
    c.earlier.ensures c.earlier-2.ensures c.earlier-3.ensures c.earlier-4.ensures
