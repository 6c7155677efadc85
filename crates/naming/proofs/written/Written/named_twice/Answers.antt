use Rattle.std.proofs.Common.{is_some, ap, ◌∙◌}
use Rattle.grammar.specs.Trees.{rules_to}
use Rattle.naming.specs.Sources.{source_of}
use Rattle.naming.proofs.Called.{is-named}
use Rattle.naming.proofs.Slots.{least-if, least-else}
use Rattle.naming.proofs.written.Written.named_twice.Goals as goal

pub returns-in_err-rule_named : goal.returns-in_err-rule_named
returns-in_err-rule_named c =
    let w = c.args.self in
    c.from_residual.ensures ∙ least-else _ _ (is-named w.text.now (rules_to (source_of w) c.args.at w.nodes.now) c.args.name ∙ ap is_some c.in_err-rule_named.ensures)

pub returns : goal.returns
returns c =
    let w = c.args.self in
    least-if _ c.args.name.place (is-named w.text.now (rules_to (source_of w) c.args.at w.nodes.now) c.args.name ∙ ap is_some c.in_ok-rule_named.ensures)
