use Rattle.std.proofs.Common.{sym, ap, ◌∙◌}
use Rattle.std.specs.Bool.{then_some}
use Rattle.naming.specs.Reaches.{among}
use Rattle.naming.proofs.Slots.{either_first, either_second, least_when}
use Rattle.naming.proofs.written.Written.declared.Goals as goal
use Rattle.naming.proofs.written.Written.declared.Goals.{then-is_among, else-is_among}

pub returns : goal.returns
returns c =
    let w = c.args.self in let t = c.args.token in let first = among w c.args.names.now t in let second = among w c.args.lists.now t in
    c.then_some.ensures ∙ elim c.if-is_among.branch [
      | then-is_among v ↦ ap (λ b. then_some b t.place) (v.then_some-is ∙ c.is_among.ensures ∙ either_first first second (sym v.if-is_among.ensures))
      | else-is_among v ↦ ap (λ b. then_some b t.place) (v.then_some-is ∙ v.is_among-else-is_among.ensures ∙ either_second first second (sym v.if-is_among.ensures))
    ] ∙ least_when _ t.place
