use Rattle.std.proofs.Common.{rules, [], sym, ap, ◌∙◌}
use Rattle.std.specs.List.{flat_map}
use Rattle.provers.specs.Elimination.{bind, push_all, zero_of, pairs_of, without}
use Rattle.provers.proofs.Pushing.{unanswered, push-append}
use Rattle.provers.proofs.eliminate.eliminate.Goals as goal

pub returns-in_err-with_each : goal.returns-in_err-with_each
unfolding without
returns-in_err-with_each c =
    let rows = c.args.rows.now in let q = c.args.q in
    unanswered c.from_residual.result c.with_each.new.into.items c.from_residual.ensures.0
    ∙ ap (λ o. bind o (λ rs. push_all rs (flat_map (pairs_of q rows) rows))) (c.in_err-with_each.ensures (zero_of q) (λ row before r after p. search rules) ∙ ap (λ l. push_all l (flat_map (zero_of q) rows)) c.clear.ensures)
    ∙ sym (push-append [] (flat_map (zero_of q) rows) (flat_map (pairs_of q rows) rows))

pub returns : goal.returns
unfolding without
returns c =
    let rows = c.args.rows.now in let q = c.args.q in
    c.with_each-2.ensures (pairs_of q rows) (λ row before r after p. search rules)
    ∙ ap (λ o. bind o (λ rs. push_all rs (flat_map (pairs_of q rows) rows))) (c.in_ok-with_each.ensures (zero_of q) (λ row before r after p. search rules) ∙ ap (λ l. push_all l (flat_map (zero_of q) rows)) c.clear.ensures)
    ∙ sym (push-append [] (flat_map (zero_of q) rows) (flat_map (pairs_of q rows) rows))
