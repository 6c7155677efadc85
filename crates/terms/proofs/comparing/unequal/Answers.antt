use Rattle.std.proofs.Common.{◌≡◌, pos, ◌-ℤ◌, ap, ◌∙◌, arith}
use Rattle.std.proofs.lemmas.Int.{ints}
use Rattle.rows.specs.declared.row.Kind.TheVariants.{Unequal}
use Rattle.rows.specs.Rows.{row_of}
use Rattle.language.specs.Terms.{minus}
use Rattle.language.specs.Comparing.{unequal}
use Rattle.terms.proofs.comparing.unequal.Goals as goal

pub returns : goal.returns
unfolding unequal
returns c =
    let t = c.args.t.now in let u = c.args.u.now in
    let e : (u.constant -ℤ t.constant) -ℤ pos 0 ≡ u.constant -ℤ t.constant = omega (arith, ints) in
    c.compared.ensures ∙ ap (λ z. row_of (minus t u).coefs z Unequal) e
