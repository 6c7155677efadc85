use Rattle.std.proofs.Common.{sym, ap, ◌∙◌}
use Rattle.language.specs.declared.operator.Operator.{Operator}
use Rattle.language.specs.Terms.{limited, worked}
use Rattle.terms.proofs.working.worked.Goals as goal

pub returns-in-Sum : goal.returns-in-Sum
unfolding worked
returns-in-Sum c = c.limited.ensures ∙ ap limited c.sum.ensures ∙ ap (λ (o : Operator). worked o c.args.t.now c.args.u.now) (sym c.in-Sum.is)

pub returns-in-Difference : goal.returns-in-Difference
unfolding worked
returns-in-Difference c = c.limited-in-Difference.ensures ∙ ap limited c.difference.ensures ∙ ap (λ (o : Operator). worked o c.args.t.now c.args.u.now) (sym c.in-Difference.is)
