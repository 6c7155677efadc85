use Rattle.std.proofs.Common.{◌≡◌, [], Some, sym, ap, ◌∙◌}
use Rattle.provers.specs.Elimination.{bind, push_all, originals, without_all, from, first_below, refutation}
use Rattle.provers.proofs.Pushing.{none_answered, some_answered}
use Rattle.provers.proofs.fourier.refutation.Goals as goal
use Rattle.provers.proofs.fourier.refutation.Goals.{In_ok-ok}

-- the first list, and the list that is left of it
begun : (c : In_ok-ok) → push_all [] (originals 0 c.args.question.facts.now c.args.question.goal.now) ≡ Some c.begin.new.into.items
begun c =
    sym (sym (some_answered _ c.begin.result c.begin.new.into.items (sym c.in_ok-ok.was ∙ c.ok.ensures.value)) ∙ c.begin.ensures ∙ ap (λ l. push_all l (originals 0 c.args.question.facts.now c.args.question.goal.now)) c.new-rows.ensures)

pub returns-in_err-ok : goal.returns-in_err-ok
unfolding refutation
returns-in_err-ok c =
    let facts = c.args.question.facts.now in let goal = c.args.question.goal.now in
    c.from_residual.ensures
    ∙ ap (λ o. bind o (λ rows. bind (without_all (from 0) rows) first_below))
    (sym (none_answered c.begin.result c.begin.new.into.items (sym c.in_err-ok.was ∙ c.ok.ensures.value)) ∙ c.begin.ensures ∙ ap (λ l. push_all l (originals 0 facts goal)) c.new-rows.ensures)

pub returns-in_err-ok-2 : goal.returns-in_err-ok-2
unfolding refutation
returns-in_err-ok-2 c =
    c.from_residual-in_err-ok-2.ensures
    ∙ ap (λ o. bind o first_below) (sym (none_answered c.eliminate_all.result c.eliminate_all.new.rows.items (sym c.in_err-ok-2.was ∙ c.ok-2.ensures.value)) ∙ c.eliminate_all.ensures)
    ∙ ap (λ o. bind o (λ rows. bind (without_all (from 0) rows) first_below)) (sym (begun (goal.at.returns-in_err-ok-2 c).In_ok-ok))

pub returns : goal.returns
unfolding refutation
returns c =
    c.first_below.ensures ∙ ap first_below c.as_slice.ensures.value
    ∙ ap (λ o. bind o first_below) (sym (some_answered _ c.eliminate_all.result c.eliminate_all.new.rows.items (sym c.in_ok-ok-2.was ∙ c.ok-2.ensures.value)) ∙ c.eliminate_all.ensures)
    ∙ ap (λ o. bind o (λ rows. bind (without_all (from 0) rows) first_below)) (sym (begun (goal.at.returns c).In_ok-ok))
