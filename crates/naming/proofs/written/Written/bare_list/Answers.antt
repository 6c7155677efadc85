use Rattle.std.proofs.Common.{sym, ap, ◌∙◌}
use Rattle.naming.specs.Reaches.{tokens_of}
use Rattle.naming.specs.Scopes.{slot_in}
use Rattle.naming.specs.Sources.{source_of}
use Rattle.naming.proofs.Grown.{bare-name, bare-other}
use Rattle.naming.proofs.Slots.{none-is}
use Rattle.naming.proofs.written.Written.bare_list.Goals as goal

pub returns : goal.returns
returns c =
    let w = c.args.self in
    c.find.ensures ∙ ap (slot_in w.text.now (tokens_of w c.args.lists.now)) c.token.ensures
    ∙ sym (bare-name (source_of w) c.args.top w.nodes.now c.args.at w.text.now (tokens_of w c.args.lists.now) c.in_ok-name.name c.in_ok-name.ensures)

pub returns-in_err-name : goal.returns-in_err-name
returns-in_err-name c =
    let w = c.args.self in
    c.from_residual.ensures ∙ none-is _ (bare-other (source_of w) c.args.top w.nodes.now c.args.at w.text.now (tokens_of w c.args.lists.now) c.in_err-name.ensures)
