-- What a side is worth, added up from its front.
use Rattle.std.proofs.Common.{◌≡◌, ℕ, ◌*◌, ◌+◌, ◌<◌, ◌≤◌, List, map, ℤ, pos, negsuc, neg_ℤ, ◌≤ℤ◌, ◌+ℤ◌, ◌*ℤ◌, Some, None, ap, arith}
use lib.Signed.{mag}
use Rattle.std.proofs.lemmas.Int.{ints}
use Rattle.std.specs.List.{slice_get}
use Rattle.language.specs.Comparing.{atom_value, side_value}
use Rattle.records.specs.declared.condition.Item.{Item}
use Rattle.records.specs.Tables.{atom_of, item_of, side_in}
use Rattle.records.proofs.Stretches.{cut}
use Rattle.entering.proofs.Ends.{ended, past}

module _ (items : List Item) (values : List ℤ) (at to : ℕ) where
  pub nothing_here : to ≤ at → side_value values (pos 0) (side_in items at to) ≡ pos 0
  unfolding side_value side_in
  nothing_here h = ap (λ l. side_value values (pos 0) (map item_of l)) (ended items at to h)

  pub nothing_past : slice_get items at ≡ None → side_value values (pos 0) (side_in items at to) ≡ pos 0
  unfolding side_value side_in
  nothing_past e = ap (λ l. side_value values (pos 0) (map item_of l)) (past items at to e)

  pub one_more : (i : Item) → at < to → slice_get items at ≡ Some i → side_value values (pos 0) (side_in items at to) ≡ i.factor *ℤ atom_value values (pos 0) (atom_of i.atom) +ℤ side_value values (pos 0) (side_in items (at + 1) to)
  unfolding side_value side_in
  one_more i h e = ap (λ l. side_value values (pos 0) (map item_of l)) (cut items at to i h e)

pub with_more : (total side rest x : ℤ) → side ≡ x +ℤ rest → (total +ℤ x) +ℤ rest ≡ total +ℤ side
with_more total side rest x e = omega (arith, ints)

pub with_none : (total side whole : ℤ) → side ≡ pos 0 → total +ℤ side ≡ whole → total ≡ whole
with_none total side whole e h = omega (arith, ints)

-- a total of so many items keeps to 128 bits
mag_below : (z : ℤ) → neg_ℤ (pos 170141183460469231731687303715884105728) ≤ℤ z → z ≤ℤ pos 170141183460469231731687303715884105727 → mag z < 170141183460469231731687303715884105728
mag_below (pos n) a b = omega (arith, ints)
mag_below (negsuc n) a b = omega (arith, ints)

near_mag : (z : ℤ) → mag z < 9223372036854775808 → (neg_ℤ (pos 9223372036854775808) ≤ℤ z) × (z ≤ℤ pos 9223372036854775807)
near_mag (pos n) h = (omega (arith, ints), omega (arith, ints))
near_mag (negsuc n) h = (omega (arith, ints), omega (arith, ints))

pub total_small : (t x : ℤ) (n : ℕ) → n < 18446744073709551616 → neg_ℤ (pos (9223372036854775808 * n)) ≤ℤ t → t ≤ℤ pos (9223372036854775808 * n) → mag x < 9223372036854775808 → mag (t +ℤ x) < 170141183460469231731687303715884105728
total_small t x n l a b h =
    let s = near_mag x h in
    mag_below (t +ℤ x) (omega (arith, ints, s.0, s.1)) (omega (arith, ints, s.0, s.1))
