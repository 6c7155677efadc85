use Rattle.std.proofs.Common.{◌≡◌, ◌*◌, pos, ◌*ℤ◌, ap, ◌∙◌, arith, w32}
use Rattle.std.proofs.lemmas.Int.{ints, to_z-of_z}
use Rattle.ints.specs.Sums.{Near}
use Rattle.ints.proofs.Products.{times-near}
use Rattle.provers.proofs.numbers.Blend.coef.Goals as goal

left : (c : goal.After-times-2) → (c.times.result ≡ pos c.args.self.a *ℤ c.args.x) × Near (c.args.self.a * 2147483648) (pos c.args.self.a *ℤ c.args.x)
left c =
    let f = c.ranges.x in let z = c.args.self.sizes in
    (c.times.ensures ∙ ap (λ z. pos c.args.self.a *ℤ z) (to_z-of_z w32 c.args.x f), times-near c.args.self.a c.args.x 2147483648 (omega (arith, ints), omega (arith, ints)))

right : (c : goal.After-times-2) → (c.times-2.result ≡ pos c.args.self.b *ℤ c.args.y) × Near (c.args.self.b * 2147483648) (pos c.args.self.b *ℤ c.args.y)
right c =
    let f = c.ranges.y in let z = c.args.self.sizes in
    (c.times-2.ensures ∙ ap (λ z. pos c.args.self.b *ℤ z) (to_z-of_z w32 c.args.y f), times-near c.args.self.b c.args.y 2147483648 (omega (arith, ints), omega (arith, ints)))

pub overflow_add-result : goal.overflow_add-result
overflow_add-result c = let z = c.args.self.sizes in let l = left c in let r = right c in omega (arith, ints)

pub returns : goal.returns
returns c = let z = c.args.self.sizes in let l = left c in let r = right c in omega (arith, ints)
