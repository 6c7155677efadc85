use Rattle.std.proofs.Common.{◌≡◌, pos, ◌*ℤ◌, ◌∙◌, ap₂, arith, w32, w64, to_z, of_z, rules}
use Rattle.std.proofs.lemmas.Int.{ints, to_z-of_z}
use Rattle.ints.proofs.Products.{times-near}
use Rattle.ints.proofs.times.Goals as goal

product_is : (c : goal.After-from-2) → to_z w64 (of_z w64 c.from.result) *ℤ to_z w64 (of_z w64 c.from-2.result) ≡ pos c.args.m *ℤ c.args.z
product_is c =
    ap₂ (λ x y. x *ℤ y) (to_z-of_z w64 c.from.result (search rules) ∙ c.from.ensures) (to_z-of_z w64 c.from-2.result (search rules) ∙ c.from-2.ensures ∙ to_z-of_z w32 c.args.z c.ranges.z)

pub overflow_mul-result : goal.overflow_mul-result
overflow_mul-result c =
    let e = product_is c in
    let f = c.ranges.z in
    let n = times-near c.args.m c.args.z 2147483648 (omega (arith, ints), omega (arith, ints)) in
    omega (arith, ints)

pub returns : goal.returns
returns c = to_z-of_z w64 _ (overflow_mul-result c) ∙ product_is c
