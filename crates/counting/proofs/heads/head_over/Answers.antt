use Rattle.std.proofs.Common.{◌∙◌}
use Rattle.naming.specs.Sources.{source_of}
use Rattle.naming.proofs.Grown.{rule-here, rule-not}
use Rattle.counting.proofs.Rules.{head-not, head-here}
use Rattle.counting.proofs.heads.head_over.Goals as goal

pub returns-in_err-rule : goal.returns-in_err-rule
returns-in_err-rule c = let w = c.args.sheet in c.from_residual.ensures ∙ head-not _ (rule-not (source_of w) w.nodes.now c.args.at c.in_err-rule.ensures)

pub returns : goal.returns
returns c =
    let w = c.args.sheet in
    head-here _ _ c.nth_param.result c.nth_param-2.result _ (rule-here (source_of w) w.nodes.now c.args.at c.in_ok-rule.rule c.in_ok-rule.ensures)
    c.nth_param.ensures c.nth_param-2.ensures c.earlier.ensures
