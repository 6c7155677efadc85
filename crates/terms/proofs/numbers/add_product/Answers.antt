use Rattle.std.proofs.Common.{◌≡◌, ◌*ℤ◌, ◌∙◌, ap₂, arith, w32}
use Rattle.std.proofs.lemmas.Int.{ints, to_z-of_z}
use Rattle.ints.specs.Sums.{Near}
use Rattle.ints.proofs.Products.{product-near}
use Rattle.terms.specs.Narrow.{room}
use Rattle.terms.proofs.Bounds.{within-is}
use Rattle.terms.proofs.numbers.add_product.Goals as goal

times : (c : goal.After-product) → (c.product.result ≡ c.args.x *ℤ c.args.y) × Near 4611686018427387904 (c.args.x *ℤ c.args.y)
times c =
    let f = c.ranges.x in let g = c.ranges.y in
    (c.product.ensures ∙ ap₂ ◌*ℤ◌ (to_z-of_z w32 c.args.x f) (to_z-of_z w32 c.args.y g), product-near c.args.x c.args.y 2147483648 2147483648 (omega (arith, ints), omega (arith, ints)) (omega (arith, ints), omega (arith, ints)))

pub overflow_add-result : goal.overflow_add-result
overflow_add-result c =
    let t = times c in let z = within-is room c.args.z c.requires in let f = c.ranges.z in
    omega (arith, ints)

pub returns : goal.returns
returns c =
    let t = times c in let z = within-is room c.args.z c.requires in let f = c.ranges.z in
    omega (arith, ints)
