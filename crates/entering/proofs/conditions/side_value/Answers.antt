use Rattle.std.proofs.Common.{rules, ◌≡◌, pos, sym, ◌∙◌, ap, arith, ℤ, ◌+ℤ◌, ◌≤ℤ◌, neg_ℤ, ◌+◌, ◌<◌, ◌-◌, ◌*◌, SFits, to_z, of_z, subst}
use Rattle.std.proofs.lemmas.Int.{ints}
use Rattle.language.specs.Comparing.{side_value}
use lib.Signed.{mag}
use Rattle.records.specs.Columns.{tables_in}
use Rattle.records.specs.Tables.{side_in}
use Rattle.std.proofs.Math.Facts.{to_z-of_z}
use mir.Syntax.{w128}
use Rattle.entering.proofs.Worth.{nothing_here, nothing_past, one_more, with_more, with_none, total_small}
use Rattle.entering.proofs.conditions.side_value.Goals as goal

pub returns-in_default : goal.returns-in_default
returns-in_default c =
    let a = c.args in let items = (tables_in a.records.now).items in
    with_none _ _ _ (nothing_past items a.values.now c.loop-at.at a.side.to (sym c.item_at.ensures ∙ c.in_default.is)) c.loop-at.invariant.0

pub loop-at-preserved : goal.loop-at-preserved
loop-at-preserved c =
    let a = c.args in let items = (tables_in a.records.now).items in let i = c.in-Some.item in
    let x = c.item_value.result in let old = to_z w128 c.loop-at.total-bits in
    let more = c.from-total.result in
    let is : more ≡ x = search rules in
    let near : mag x < 9223372036854775808 = c.item_value.type_inv in
    let v = c.loop-at.invariant in let from = c.loop-at.auto.at in
    let one = one_more items a.values.now c.loop-at.at a.side.to i c.loop-at-test.true (sym c.item_at.ensures ∙ c.in-Some.is) in
    let last : c.loop-at.at < 18446744073709551616 = search rules in
    let small : mag (old +ℤ x) < 170141183460469231731687303715884105728 = total_small old x (c.loop-at.at - a.side.from) (omega (arith, last)) v.1.0 v.1.1 near in
    let fits : SFits w128 (old +ℤ x) = record { sfits = small } in
    let inner : to_z w128 (of_z w128 more) ≡ x = to_z-of_z {w = w128} {z = more} (record { sfits = c.from-total.type_inv }) ∙ is in
    let new : to_z w128 (of_z w128 (old +ℤ to_z w128 (of_z w128 more))) ≡ old +ℤ x = ap (λ (y : ℤ). to_z w128 (of_z w128 (old +ℤ y))) inner ∙ to_z-of_z {w = w128} {z = old +ℤ x} fits in
    subst
    (λ (z : ℤ). (z +ℤ side_value a.values.now (pos 0) (side_in items (c.loop-at.at + 1) a.side.to) ≡ side_value a.values.now (pos 0) (side_in items a.side.from a.side.to))
    × ((neg_ℤ (pos (9223372036854775808 * (c.loop-at.at + 1 - a.side.from))) ≤ℤ z) × (z ≤ℤ pos (9223372036854775808 * (c.loop-at.at + 1 - a.side.from)))))
    (sym new) (
      with_more old _ _ x (one ∙ ap (λ (y : ℤ). y +ℤ side_value a.values.now (pos 0) (side_in items (c.loop-at.at + 1) a.side.to)) (sym c.item_value.ensures)) ∙ v.0,
      (omega (arith, ints, from, v.1.0, near), omega (arith, ints, from, v.1.1, near)),
    )

pub returns : goal.returns
returns c =
    let a = c.args in let items = (tables_in a.records.now).items in
    with_none _ _ _ (nothing_here items a.values.now c.loop-at.at a.side.to (omega (arith, c.loop-at-test.false))) c.loop-at.invariant.0
