use Rattle.std.proofs.Common.{rules, sym, ◌∙◌, arith}
use Rattle.records.specs.Columns.{tables_in}
use Rattle.entering.proofs.Broken.{none_here, none_past, broken_here, broken_later}
use Rattle.entering.proofs.conditions.+first_broken.Goals as goal

pub returns-then-at-to : goal.returns-then-at-to
returns-then-at-to t c = let a = c.args in let ts = tables_in a.records.now in none_here ts.items ts.conditions a.values.now a.number a.at a.to (omega (arith, c.if-at-to.true))

pub returns-in_err-condition : goal.returns-in_err-condition
returns-in_err-condition t c = let a = c.args in let ts = tables_in a.records.now in c.from_residual.ensures ∙ none_past ts.items ts.conditions a.values.now a.number a.at a.to (sym c.condition_at.ensures ∙ c.in_err-condition.was)

pub returns-then-not-satisfied : goal.returns-then-not-satisfied
returns-then-not-satisfied t c =
    let a = c.args in let ts = tables_in a.records.now in
    broken_here ts.items ts.conditions a.values.now a.number a.at a.to c.in_ok-condition.condition (omega (arith, c.if-at-to.false)) (sym c.in_ok-condition.ensures) (search rules)

pub returns : goal.returns
returns t c =
    let a = c.args in let ts = tables_in a.records.now in
    c.first_broken.ensures ∙ broken_later ts.items ts.conditions a.values.now a.number a.at a.to c.in_ok-condition.condition (omega (arith, c.if-at-to.false)) (sym c.in_ok-condition.ensures) (search rules)
