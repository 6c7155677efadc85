use Rattle.std.proofs.Common.{get_or, ℤ, pos, ◌+ℤ◌, ◌*ℤ◌, ap, ◌∙◌, ap₂, arith, w32, w64, to_z, of_z, rules}
use Rattle.std.proofs.lemmas.Int.{to_z-of_z}
use Rattle.language.specs.Terms.{each}
use Rattle.ints.specs.Tests.{within}
use Rattle.terms.specs.Narrow.{room}
use Rattle.terms.proofs.Bounds.{within-from, within-at}
use Rattle.terms.proofs.Filling.{filled_more, filled-all}
use Rattle.terms.proofs.arrays.add_products.Goals as goal

pub loop-j-preserved : goal.loop-j-preserved
loop-j-preserved c =
    let xs = c.args.xs.now in let zs = c.args.zs.now in let j = c.loop-j.j in
    filled_more _ c.loop-j.out j c.loop-j.invariant _ (omega arith)
    (to_z-of_z w64 c.add_product.result (search rules) ∙ c.add_product.ensures ∙ ap₂ (λ (x : ℤ) (z : ℤ). to_z w32 (of_z w32 c.args.k) *ℤ x +ℤ z) (to_z-of_z w32 (get_or xs j (pos 0)) (search rules)) (to_z-of_z w64 (get_or zs j (pos 0)) (search rules)))

pub returns : goal.returns
returns c =
    filled-all _ c.loop-j.out c.loop-j.j c.loop-j.invariant (omega arith)
    ∙ ap (λ (k : ℤ). each (λ j. k *ℤ get_or c.args.xs.now j (pos 0) +ℤ get_or c.args.zs.now j (pos 0))) (to_z-of_z w32 c.args.k c.ranges.k)

pub add_product-requires : goal.add_product-requires
add_product-requires c =
    let zs = c.args.zs.now in let j = c.loop-j.j in
    ap (within (pos room)) (to_z-of_z w64 (get_or zs j (pos 0)) (search rules)) ∙ within-from room (get_or zs j (pos 0)) (within-at room zs c.requires j)
