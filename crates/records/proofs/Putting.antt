-- A record is written whose tables stay.
use Rattle.std.proofs.Common.{◌≡◌, ◌≢◌, ℕ, suc, ◌+◌, ◌*◌, ◌<◌, ◌≤◌, List, [], ◌∷◌, ◌++◌, length, get_or, set, sym, refl, ap, ◌∙◌, subst, ⊎_elim, arith}
use Rattle.rows.specs.declared.row.Row.{Row}
use Rattle.language.specs.Walking.{Obligation}
use Rattle.std.proofs.lemmas.Bool.{cases_eq}
use Rattle.std.proofs.lemmas.List.{get_or_default, get_or-set_same, get_or-set_other}
use Rattle.records.specs.declared.node.Node.TheVariants.{Blank}
use Rattle.records.specs.declared.entry.Param.TheVariants.{Number}
use Rattle.records.specs.declared.record.Record.{Record}
use Rattle.records.specs.declared.laid.Laid.{Laid}
use Rattle.language.specs.declared.duty.Duty.{Duty}
use Rattle.records.specs.Laying.{columns_of}
use Rattle.records.specs.Owing.{owed_at, row_at, Owes, OwesFrom, OwesAll}
use Rattle.records.specs.Added.{SameTables, RowPut, RowsPut, HeaderPut}
use Rattle.records.specs.Columns.{zero_record, first_slots, no_condition, no_item, no_entry}
use Rattle.records.specs.Slots.{slots_kept}
use Rattle.records.specs.Kept.{laid, same_columns}

-- the same tables
pub record Kept (old new : Record) : Type 0 where
  pub nodes : new.nodes ≡ old.nodes
  pub conditions : new.conditions ≡ old.conditions
  pub items : new.items ≡ old.items
  pub params : new.params ≡ old.params
  pub entries : new.entries ≡ old.entries

module _ (r : List Record) (at : ℕ) (new d : Record) (within : at < length r) where
  pub written : {B : Type 0} (f : Record → B) → f (get_or (set r at new) at zero_record) ≡ f new
  written f = ap f (get_or-set_same r at new zero_record within)

  pub unwritten : {B : Type 0} (f : Record → B) (j : ℕ) → j ≢ at → f (get_or (set r at new) j zero_record) ≡ f (get_or r j zero_record)
  unwritten f j ne = ap f (get_or-set_other r at j new zero_record ne)

  -- what the new record has as the old one had it
  pub unchanged : {B : Type 0} (f : Record → B) → f new ≡ f (get_or r at d) → (j : ℕ) → f (get_or (set r at new) j zero_record) ≡ f (get_or r j zero_record)
  unchanged f e j =
      ⊎_elim (λ q. ap (λ i. f (get_or (set r at new) i zero_record)) q ∙ written f ∙ e ∙ ap f (get_or_default r at d zero_record within) ∙ ap (λ i. f (get_or r i zero_record)) (sym q))
      (λ ne. unwritten f j ne) (cases_eq j at)

  pub columns-kept : (n c i p e lender : ℕ) → Kept (get_or r at d) new →
      laid (first_slots (λ r. r.nodes) Blank (set r at new) n) (first_slots (λ r. r.conditions) no_condition (set r at new) c) (first_slots (λ r. r.items) no_item (set r at new) i) (first_slots (λ r. r.params) Number (set r at new) p) (first_slots (λ r. r.entries) no_entry (set r at new) e) (length (set r at new)) lender
      ≡ laid (first_slots (λ r. r.nodes) Blank r n) (first_slots (λ r. r.conditions) no_condition r c) (first_slots (λ r. r.items) no_item r i) (first_slots (λ r. r.params) Number r p) (first_slots (λ r. r.entries) no_entry r e) (length r) lender
  columns-kept n c i p e lender k =
      same_columns r at lender new (slots_kept (λ r. r.nodes) Blank r new d at n within k.nodes) (slots_kept (λ r. r.conditions) no_condition r new d at c within k.conditions)
      (slots_kept (λ r. r.items) no_item r new d at i within k.items) (slots_kept (λ r. r.params) Number r new d at p within k.params) (slots_kept (λ r. r.entries) no_entry r new d at e within k.entries)

pub same_tables : {t : Laid} → SameTables t t
same_tables = record { columns = refl; length = refl; owed = refl }

pub tables_then : {t u v : Laid} → SameTables t u → SameTables u v → SameTables t v
tables_then a b = record { columns = b.columns ∙ a.columns; length = b.length ∙ a.length; owed = b.owed ∙ a.owed }

-- obligations stay where their rows and headers do
pub owes_kept : (r s : List Record) (k : ℕ) (os : List Obligation) → ((i : ℕ) → i < k + length os → owed_at s i ≡ owed_at r i) → ((i : ℕ) → i < 25 * (k + length os) → row_at s i ≡ row_at r i) → OwesFrom r k os → OwesFrom s k os
owes_kept r s k [] h g w = tt
owes_kept r s k (o ∷ os) h g (one, rest) = (
  record {
    number = one.number;
    few = one.few;
    header = h k (omega arith) ∙ one.header;
    facts = λ j l. g (25 * k + j) (omega (arith, one.few)) ∙ one.facts j l;
    goal = g (25 * k + 24) (omega arith) ∙ one.goal;
  },
  owes_kept r s (suc k) os (λ i l. h i (omega arith)) (λ i l. g i (omega arith)) rest,
)

pub owes_more : (s : List Record) (k : ℕ) (os : List Obligation) (o : Obligation) → OwesFrom s k os → Owes s (k + length os) o → OwesFrom s k (os ++ o ∷ [])
owes_more s k [] o w x = (subst (λ n. Owes s n o) (omega arith) x, tt)
owes_more s k (p ∷ os) o (one, rest) x = (one, owes_more s (suc k) os o rest (subst (λ n. Owes s n o) (omega arith) x))

-- the rows of an obligation, its goal and its header are put down
module _ (t u v w : Laid) (duty : Duty) (place : ℕ) (facts : List Row) (goal : Row) (few : length facts ≤ 24)
    (a : RowsPut t u (25 * t.owed) facts (length facts)) (b : RowPut u v (25 * t.owed + 24) goal) (h : HeaderPut v w t.owed (record { duty = duty; place = place; facts = length facts })) where
  pub put_columns : columns_of w ≡ columns_of t
  put_columns = h.same.columns ∙ b.same.columns ∙ a.same.columns

  abbrev one : Obligation
  one = record { number = t.owed; duty = duty; place = place; facts = facts; goal = goal }

  put_one : Owes w.records.now t.owed one
  put_one = record {
    number = refl;
    few = few;
    header = h.here;
    facts = λ j l. h.rows (25 * t.owed + j) ∙ b.rows (25 * t.owed + j) (omega arith) ∙ a.here j l;
    goal = h.rows (25 * t.owed + 24) ∙ b.here;
  }

  pub put_owes : (os : List Obligation) → length os ≡ t.owed → OwesAll t.records.now os → OwesAll w.records.now (os ++ one ∷ [])
  put_owes os e o =
      owes_more w.records.now 0 os one
      (owes_kept t.records.now w.records.now 0 os (λ i l. h.headers i (omega arith) ∙ b.headers i ∙ a.headers i) (λ i l. h.rows i ∙ b.rows i (omega arith) ∙ a.before i (omega arith)) o)
      (subst (λ n. Owes w.records.now n one) (let z : t.owed ≡ 0 + length os = omega arith in z) put_one)
