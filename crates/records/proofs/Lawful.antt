-- What a table's laws give of the tables that are being laid.
use Rattle.std.proofs.Common.{◌≡◌, ℕ, ◌+◌, ◌*◌, ◌/◌, ◌%◌, ◌<◌, ◌≤◌, Bool, cond, List, length, get_or, set, ltb, true, false, Some, None, sym, ap, ◌∙◌, subst, arith, lt-ltb}
use Rattle.std.proofs.lemmas.List.{length-set, set_past}
use Rattle.std.specs.List.{slice_get}
use Rattle.records.specs.declared.counts.Counts.{Counts}
use Rattle.records.specs.declared.record.Record.{Record}
use Rattle.records.specs.declared.laid.Laid.{Laid}
use Rattle.records.specs.Columns.{Column, Columns, columns_by, first_slots, pushed, replaced}
use Rattle.language.specs.Walking.{Obligation}
use Rattle.records.specs.Laying.{columns_of}
use Rattle.records.specs.Owing.{OwesAll}
use Rattle.records.specs.Tabling.{Within, TableLaws}
use Rattle.records.specs.Slots.{length-slots, slots_full, slots_free, slots_get, slots-past}
use Rattle.records.proofs.Putting.{unchanged, owes_kept}

module _ {E : Type 0} {slots : Record → List E} {with_slots : Record → List E → Record} {none : E} {count : Counts → ℕ} {with_count : Counts → ℕ → Counts} {table : Columns → Column E} {with_table : Columns → Column E → Columns} (laws : TableLaws slots with_slots none count with_count table with_table) (t : Laid) where
  entries-are : (table (columns_of t)).entries ≡ first_slots slots none t.records.now (count t.counts)
  entries-are = ap (λ (c : Column E). c.entries) (laws.reads t.records.now t.counts t.records.ghost_name)

  pub counted : length (table (columns_of t)).entries ≡ count t.counts
  counted = ap length entries-are ∙ length-slots slots none t.records.now (count t.counts)

  pub full : length t.records.now ≤ count t.counts / 4 → ltb (length (table (columns_of t)).entries) (table (columns_of t)).room ≡ false
  full h = ap (λ (c : Column E). ltb (length c.entries) c.room) (laws.reads t.records.now t.counts t.records.ghost_name) ∙ slots_full slots none t.records.now (count t.counts) h

  pub free : count t.counts / 4 < length t.records.now → ltb (length (table (columns_of t)).entries) (table (columns_of t)).room ≡ true
  free h = ap (λ (c : Column E). ltb (length c.entries) c.room) (laws.reads t.records.now t.counts t.records.ghost_name) ∙ slots_free slots none t.records.now (count t.counts) h

  pub lies : (at : ℕ) → at < count t.counts → at / 4 < length t.records.now
  lies at h = let w = laws.within t.counts (4 * length t.records.now) t.within in omega (arith, w)

  pub held : (at : ℕ) (x : E) (d : Record) → at < count t.counts → slice_get (slots (get_or t.records.now (at / 4) d)) (at % 4) ≡ Some x → Some x ≡ slice_get (table (columns_of t)).entries at
  held at x d h e = sym (ap (λ xs. slice_get xs at) entries-are ∙ slots_get slots none t.records.now (count t.counts) at x d h (lies at h) e)

  pub past : (at : ℕ) → count t.counts ≤ at → None ≡ slice_get (table (columns_of t)).entries at
  past at h = sym (ap (λ xs. slice_get xs at) entries-are ∙ slots-past slots none t.records.now (count t.counts) at h)

  pub fits_more : (new : Record) → count t.counts / 4 < length t.records.now → Within (with_count t.counts (count t.counts + 1)) (4 * length (set t.records.now (count t.counts / 4) new))
  fits_more new h = subst (λ n. Within (with_count t.counts (count t.counts + 1)) (4 * n)) (sym (length-set t.records.now (count t.counts / 4) new)) (laws.fits t.counts (4 * length t.records.now) t.within (omega arith))

  -- past the last entry nothing is replaced
  pub unreplaced : (at : ℕ) (x : E) → count t.counts ≤ at → columns_of t ≡ with_table (columns_of t) (replaced (table (columns_of t)) at x)
  unreplaced at x h =
      let c = table (columns_of t) in
      let e : replaced c at x ≡ c = ap (λ (xs : List E). record { entries = xs; room = c.room }) (set_past c.entries at x (omega (arith, counted))) in
      sym (ap (with_table (columns_of t)) e ∙ laws.itself (columns_of t))

  -- a slot is written that is counted
  module _ (at : ℕ) (x : E) (d new : Record) (h : at < count t.counts) (put : new ≡ with_slots (get_or t.records.now (at / 4) d) (set (slots (get_or t.records.now (at / 4) d)) (at % 4) x)) where
    pub rewritten : at % 4 < length (slots (get_or t.records.now (at / 4) d)) → columns_by (set t.records.now (at / 4) new) t.counts t.records.ghost_name ≡ with_table (columns_of t) (replaced (table (columns_of t)) at x)
    rewritten w = ap (λ (z : Record). columns_by (set t.records.now (at / 4) z) t.counts t.records.ghost_name) put ∙ laws.rewrites t.records.now t.counts t.records.ghost_name d x at h (lies at h) w

    pub rewritten_owes : (os : List Obligation) → OwesAll t.records.now os → OwesAll (set t.records.now (at / 4) new) os
    rewritten_owes os o =
        let r = t.records.now in
        let b = laws.beside (get_or r (at / 4) d) (set (slots (get_or r (at / 4) d)) (at % 4) x) in
        owes_kept r (set r (at / 4) new) 0 os (λ i l. unchanged r (at / 4) new d (lies at h) (λ (z : Record). z.owed) (ap (λ (z : Record). z.owed) put ∙ b.0) i) (λ i l. unchanged r (at / 4) new d (lies at h) (λ (z : Record). z.row) (ap (λ (z : Record). z.row) put ∙ b.1) i) o

-- a push into a table with room: what it answers and holds, by its contract, is that the entry is put after the others
module _ {E : Type 0} {slots : Record → List E} {with_slots : Record → List E → Record} {none : E} {count : Counts → ℕ} {with_count : Counts → ℕ → Counts} {table : Columns → Column E} {with_table : Columns → Column E → Columns} (laws : TableLaws slots with_slots none count with_count table with_table) where
  pub taken : (p q : Columns) (x : E) (r : Bool) → r ≡ ltb (length (table p).entries) (table p).room → length (table p).entries < (table p).room → q ≡ cond r (with_table p (pushed (table p) x)) p → q ≡ with_table p (pushed (table p) x)
  taken p q x r e h f = f ∙ ap (λ b. cond b (with_table p (pushed (table p) x)) p) (e ∙ lt-ltb (length (table p).entries) (table p).room h)
