use Rattle.std.proofs.Common.{rules, ◌-ℤ◌, ◌∙◌, ap₂, w32, w64}
use Rattle.std.proofs.lemmas.Int.{to_z-of_z}
use Rattle.language.specs.Terms.{minus}
use Rattle.terms.specs.Narrow.{term_of}
use Rattle.terms.proofs.wide.Wide.difference.Goals as goal

pub returns : goal.returns
unfolding minus
returns c =
    let z = to_z-of_z w64 c.difference.result (search rules) ∙ c.difference.ensures ∙ ap₂ ◌-ℤ◌ (to_z-of_z w32 c.args.t.now.constant (search rules)) (to_z-of_z w32 c.args.u.now.constant (search rules)) in
    ap₂ term_of z c.differences.ensures
