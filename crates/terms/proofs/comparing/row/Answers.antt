use Rattle.std.proofs.Common.{neg_ℤ, ◌∙◌}
use Rattle.rows.proofs.Making.{made_none}
use Rattle.terms.specs.Narrow.{wide_term}
use Rattle.terms.proofs.Bounds.{past-limits}
use Rattle.terms.proofs.Holding.{kept-none}
use Rattle.terms.proofs.comparing.row.Goals as goal

pub returns-in_err-term : goal.returns-in_err-term
returns-in_err-term c =
    let w = c.args.wide.now in
    c.from_residual.ensures ∙ made_none w.coefs (neg_ℤ w.constant) c.args.kind (past-limits w.constant w.coefs (kept-none (wide_term w) _ c.in_err-term.ensures))
