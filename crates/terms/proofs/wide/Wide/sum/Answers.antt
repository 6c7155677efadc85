use Rattle.std.proofs.Common.{rules, ◌+ℤ◌, ◌∙◌, ap₂, w32, w64}
use Rattle.std.proofs.lemmas.Int.{to_z-of_z}
use Rattle.language.specs.Terms.{plus}
use Rattle.terms.specs.Narrow.{term_of}
use Rattle.terms.proofs.wide.Wide.sum.Goals as goal

pub returns : goal.returns
unfolding plus
returns c =
    let z = to_z-of_z w64 c.sum.result (search rules) ∙ c.sum.ensures ∙ ap₂ ◌+ℤ◌ (to_z-of_z w32 c.args.t.now.constant (search rules)) (to_z-of_z w32 c.args.u.now.constant (search rules)) in
    ap₂ term_of z c.sums.ensures
