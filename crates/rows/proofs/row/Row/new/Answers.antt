use Rattle.std.proofs.Common.{sym, ap, ◌∙◌, w32}
use Rattle.std.proofs.lemmas.Int.{to_z-of_z}
use Rattle.rows.specs.Rows.{row_of}
use Rattle.rows.proofs.Making.{made_some, made_none}
use Rattle.rows.proofs.row.Row.new.Goals as goal

pub returns-then-within_limits : goal.returns-then-within_limits
returns-then-within_limits c =
    made_some c.args.coefs _ c.args.kind _ ∙ ap (λ z. row_of c.args.coefs z c.args.kind) (to_z-of_z w32 c.args.bound c.ranges.bound)

pub returns-else-within_limits : goal.returns-else-within_limits
returns-else-within_limits c = made_none c.args.coefs _ c.args.kind (sym c.if-within_limits.ensures) ∙ ap (λ z. row_of c.args.coefs z c.args.kind) (to_z-of_z w32 c.args.bound c.ranges.bound)
