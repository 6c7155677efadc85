use Rattle.std.proofs.Common.{◌≡◌, ◌≤◌, get_or, pos, ◌*ℤ◌, refl, ◌∙◌, ap₂, arith, w32, rules}
use lib.IntN.{*ℤ_comm}
use Rattle.std.proofs.lemmas.Int.{ints, to_z-of_z}
use Rattle.ints.specs.Sums.{sum_to, Near}
use Rattle.ints.proofs.Products.{times-near}
use Rattle.ints.proofs.Sums.{sum_more}
use Rattle.rows.specs.Meaning.{coef}
use Rattle.rows.proofs.Limiting.{coef-near}
use Rattle.domains.specs.Modes.{at}
use Rattle.domains.proofs.modes.value_at.Goals as goal

turn_is : (c : goal.After-times-sum) → c.times-sum.result ≡ at c.args.point.now c.loop-j.j *ℤ coef c.args.row.now c.loop-j.j
turn_is c =
    c.times-sum.ensures ∙ ap₂ (λ m z. pos m *ℤ z) c.from.ensures (to_z-of_z w32 c.coef.result (search rules) ∙ c.coef.ensures)

turn_near : (c : goal.After-times-sum) → Near 1020000000 c.times-sum.result
turn_near c =
    let m = get_or c.args.point.now c.loop-j.j 0 in
    let top : m ≤ 255 = omega arith in
    let n = times-near m (coef c.args.row.now c.loop-j.j) 4000000 (coef-near c.args.row.now c.loop-j.j) in
    let e = turn_is c in
    (omega (arith, ints), omega (arith, ints))

pub loop-j-init : goal.loop-j-init
unfolding sum_to
loop-j-init c = (refl, search rules)

pub overflow_add-sum : goal.overflow_add-sum
overflow_add-sum c =
    let n = turn_near c in
    let v = c.loop-j.invariant in
    omega (arith, ints)

pub loop-j-preserved : goal.loop-j-preserved
loop-j-preserved c =
    let n = turn_near c in
    let row = c.args.row.now in let p = c.args.point.now in let j = c.loop-j.j in
    let e : c.times-sum.result ≡ coef row j *ℤ at p j = turn_is c ∙ *ℤ_comm (at p j) (coef row j) in
    let v = c.loop-j.invariant in
    let s = sum_more (λ k. coef c.args.row.now k *ℤ at c.args.point.now k) c.loop-j.j in
    (omega (arith, ints), (omega (arith, ints), omega (arith, ints)))
