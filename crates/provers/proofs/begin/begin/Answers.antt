use Rattle.std.proofs.Common.{sym, ap, ◌∙◌, arith}
use Rattle.provers.specs.Elimination.{push_all, goal_of}
use Rattle.provers.proofs.Pushing.{unanswered, fact-on, fact-off, fact-end}
use Rattle.provers.proofs.begin.begin.Goals as goal

pub returns-in_err-push_fact : goal.returns-in_err-push_fact
returns-in_err-push_fact c =
    unanswered c.from_residual.result c.push_fact.new.into.items c.from_residual.ensures.0
    ∙ sym (c.loop-i.invariant ∙ fact-off c.loop-i.into.items c.args.question.facts.now c.args.question.goal.now c.loop-i.i c.fact-item.result c.loop-i-test.true c.fact-item.is c.in_err-push_fact.ensures)

pub loop-i-preserved : goal.loop-i-preserved
loop-i-preserved c =
    c.loop-i.invariant ∙ fact-on c.loop-i.into.items c.args.question.facts.now c.args.question.goal.now c.loop-i.i c.push_fact.new.into.items c.fact-item.result c.loop-i-test.true c.fact-item.is c.in_ok-push_fact.ensures

pub returns : goal.returns
returns c =
    let a = c.loop-i.into.items in let facts = c.args.question.facts.now in let goal = c.args.question.goal.now in
    c.push_goal.ensures ∙ ap (λ n. push_all a (goal_of n goal)) (omega arith) ∙ sym (c.loop-i.invariant ∙ fact-end a facts goal c.loop-i.i c.loop-i-test.false)
