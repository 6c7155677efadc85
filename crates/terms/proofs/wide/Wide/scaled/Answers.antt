use Rattle.std.proofs.Common.{rules, ℤ, ◌*ℤ◌, ap, ◌∙◌, ap₂, w32, w64}
use Rattle.std.proofs.lemmas.Int.{to_z-of_z}
use Rattle.language.specs.Terms.{each, coef_of, scaled}
use Rattle.terms.specs.Narrow.{term_of}
use Rattle.terms.proofs.wide.Wide.scaled.Goals as goal

pub returns : goal.returns
unfolding scaled
returns c =
    let t = c.args.t.now in
    let k = to_z-of_z w32 c.args.k c.ranges.k in
    let z = to_z-of_z w64 c.product.result (search rules) ∙ c.product.ensures ∙ ap₂ ◌*ℤ◌ k (to_z-of_z w32 t.constant (search rules)) in
    ap₂ term_of z (c.products.ensures ∙ ap (λ (x : ℤ). each (λ j. x *ℤ coef_of t j)) k)
