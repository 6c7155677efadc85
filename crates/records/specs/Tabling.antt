-- What is asked of a table among the others: where its entries lie, how many they are, and that they alone change.
use Rattle.std.specs.Prelude.{◌≡◌, ℕ, ◌+◌, ◌/◌, ◌%◌, ◌<◌, ◌≤◌, List, length, slice_index_or, slice_set}
use Rattle.records.specs.declared.counts.Counts.{Counts}
use Rattle.records.specs.declared.record.Record.{Record}
use Rattle.records.specs.Columns.{Column, Columns, column, columns_by, pushed, replaced}

-- no table has more entries than this
pub record Within (k : Counts) (room : ℕ) : Type 0 where
  pub nodes : k.nodes ≤ room
  pub conditions : k.conditions ≤ room
  pub items : k.items ≤ room
  pub params : k.params ≤ room
  pub entries : k.entries ≤ room

pub record TableLaws {E : Type 0} (slots : Record → List E) (with_slots : Record → List E → Record) (none : E) (count : Counts → ℕ) (with_count : Counts → ℕ → Counts) (table : Columns → Column E) (with_table : Columns → Column E → Columns) : Type 0 where
  -- the table has the first slots, as many as are counted
  pub reads : (r : List Record) (k : Counts) (lender : ℕ) → table (columns_by r k lender) ≡ column slots none r (count k)
  -- what is put into the slot after the last, and counted, is pushed; the other tables stay
  pub writes : (r : List Record) (k : Counts) (lender : ℕ) (d : Record) (x : E) → count k / 4 < length r → count k % 4 < length (slots (slice_index_or r (count k / 4) d)) →
      columns_by (slice_set r (count k / 4) (with_slots (slice_index_or r (count k / 4) d) (slice_set (slots (slice_index_or r (count k / 4) d)) (count k % 4) x))) (with_count k (count k + 1)) lender ≡ with_table (columns_by r k lender) (pushed (table (columns_by r k lender)) x)
  -- what is put into a slot that is counted replaces its entry; the other tables stay
  pub rewrites : (r : List Record) (k : Counts) (lender : ℕ) (d : Record) (x : E) (at : ℕ) → at < count k → at / 4 < length r → at % 4 < length (slots (slice_index_or r (at / 4) d)) →
      columns_by (slice_set r (at / 4) (with_slots (slice_index_or r (at / 4) d) (slice_set (slots (slice_index_or r (at / 4) d)) (at % 4) x))) k lender ≡ with_table (columns_by r k lender) (replaced (table (columns_by r k lender)) at x)
  -- columns with the table that they have are the same
  pub itself : (c : Columns) → with_table c (table c) ≡ c
  -- an obligation's header and row are no slots
  pub beside : (r : Record) (xs : List E) → ((with_slots r xs).owed ≡ r.owed) × ((with_slots r xs).row ≡ r.row)
  pub within : (k : Counts) (room : ℕ) → Within k room → count k ≤ room
  pub fits : (k : Counts) (room : ℕ) → Within k room → count k < room → Within (with_count k (count k + 1)) room
