use Rattle.std.proofs.Common.{rules, get_or, ℤ, pos, ◌+ℤ◌, ◌*ℤ◌, sym, ap, ◌∙◌, ap₂, w32, w64}
use Rattle.std.proofs.lemmas.Int.{to_z-of_z}
use Rattle.language.specs.Terms.{each, coef_of}
use Rattle.terms.specs.Narrow.{term_of, wide_term}
use Rattle.terms.proofs.Adding.{one_more}
use Rattle.terms.proofs.wide.Wide.plus_scaled.Goals as goal

pub returns : goal.returns
returns c =
    let t = c.args.t.now in let w = c.args.self.now in
    let k = to_z-of_z w32 c.args.k c.ranges.k in
    let z = to_z-of_z w64 c.add_product.result (search rules) ∙ c.add_product.ensures ∙ ap₂ ◌+ℤ◌ (ap₂ ◌*ℤ◌ k (to_z-of_z w32 t.constant (search rules))) (to_z-of_z w64 w.constant (search rules)) in
    let zs = c.add_products.ensures ∙ ap (λ (x : ℤ). each (λ j. x *ℤ coef_of t j +ℤ get_or w.coefs j (pos 0))) k in
    ap₂ term_of z zs ∙ sym (one_more c.args.k t (wide_term w))
