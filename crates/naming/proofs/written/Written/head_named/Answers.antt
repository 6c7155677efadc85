use Rattle.std.proofs.Common.{sym, ap, ◌∙◌}
use Rattle.letters.specs.Tokens.{same_name}
use Rattle.naming.specs.Calls.{named, head_at}
use Rattle.naming.specs.Sources.{source_of}
use Rattle.naming.proofs.Grown.{rule-here, rule-not}
use Rattle.naming.proofs.Called.{named_when, head_when, named-no}
use Rattle.naming.proofs.written.Written.head_named.Goals as goal

pub returns-in_err-rule : goal.returns-in_err-rule
returns-in_err-rule c =
    let w = c.args.self in
    ap (λ rs. named w.text.now rs c.args.token) (rule-not (source_of w) w.nodes.now c.args.at c.in_err-rule.ensures) ∙ named-no w.text.now c.args.token ∙ ap (head_at w) (sym c.from_residual.ensures)

pub returns : goal.returns
returns c =
    let w = c.args.self in let k = c.in_ok-rule.rule in
    ap (λ rs. named w.text.now rs c.args.token) (rule-here (source_of w) w.nodes.now c.args.at k c.in_ok-rule.ensures)
    ∙ named_when w.text.now c.args.token _ c.same_name.result (c.same_name.ensures ∙ ap (λ n. same_name w.text.now n c.args.token) c.token.ensures)
    ∙ head_when w k.params c.same_name.result ∙ ap (head_at w) (sym c.then_some.ensures)
