use Rattle.std.proofs.Common.{length, sym, ap, ◌∙◌, ne_eqb}
use Rattle.grammar.specs.Trees.{args_at}
use Rattle.naming.specs.Calls.{called}
use Rattle.naming.specs.Faults.{call_faults, count_args}
use Rattle.naming.specs.Sources.{source_of, rules_of}
use Rattle.naming.specs.Walks.{head_params}
use Rattle.naming.proofs.Called.{params-named, call_fits, call-wrong}
use Rattle.naming.proofs.written.Written.callee.Goals as goal

pub returns-in_err-params : goal.returns-in_err-params
returns-in_err-params c =
    let w = c.args.self in let n = count_args (args_at (source_of w) c.args.top w.nodes.now c.args.at) in
    λ inside. ap (λ o. call_faults o c.args.token n inside) (params-named w.text.now (rules_of w) c.args.token ∙ c.in_err-params.ensures) ∙ ap (λ o. called w o c.args.token inside) (sym c.from_residual.ensures)

pub returns-then-number-count_args : goal.returns-then-number-count_args
returns-then-number-count_args c =
    let w = c.args.self in let n = count_args (args_at (source_of w) c.args.top w.nodes.now c.args.at) in
    λ inside. ap (λ o. call_faults o c.args.token n inside) (params-named w.text.now (rules_of w) c.args.token ∙ c.in_ok-params.ensures)
    ∙ call_fits (head_params w c.in_ok-params.params) c.args.token n inside (sym (ap length c.params.ensures.params) ∙ sym c.number.ensures ∙ c.if-number-count_args.true ∙ c.count_args.ensures)

pub returns-else-number-count_args : goal.returns-else-number-count_args
returns-else-number-count_args c =
    let w = c.args.self in let n = count_args (args_at (source_of w) c.args.top w.nodes.now c.args.at) in
    λ inside. ap (λ o. call_faults o c.args.token n inside) (params-named w.text.now (rules_of w) c.args.token ∙ c.in_ok-params.ensures)
    ∙ call-wrong (head_params w c.in_ok-params.params) c.args.token n inside (ne_eqb _ _ (λ e. c.if-number-count_args.false (c.number.ensures ∙ ap length c.params.ensures.params ∙ e ∙ sym c.count_args.ensures)))
