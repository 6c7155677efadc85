use Rattle.std.proofs.Common.{length, sym, ap, ◌∙◌}
use Rattle.grammar.specs.Stretches.{conditions_at}
use Rattle.grammar.specs.Trees.{look_of}
use Rattle.naming.specs.Sources.{source_of}
use Rattle.naming.specs.Stretching.{begun}
use Rattle.naming.proofs.SideLists.{conditions-list, clamped}
use Rattle.naming.proofs.written.Written.conditions.Goals as goal

pub returns-clause-conditions : goal.returns-clause-conditions
unfolding begun
returns-clause-conditions c =
    let w = c.args.self in let l = look_of (source_of w) in let n = length w.tokens.now in
    sym (conditions-list l n c.min.result) ∙ ap (λ i. (conditions_at n l i).value) c.min.ensures ∙ clamped w.tokens.now (length w.text.now) n c.args.at
