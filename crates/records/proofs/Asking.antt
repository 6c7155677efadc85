-- Rows that are read back from records, and the obligation that they are of.
use Rattle.std.proofs.Common.{◌≡◌, ℕ, zero, suc, ◌+◌, ◌<◌, List, [], ◌∷◌, length, set, Some, None, sym, ap, ◌∙◌, subst, ⊎_elim, ap₂, inl, inr, arith}
use Rattle.std.proofs.lemmas.Bool.{cases_eq, cases_lt}
use Rattle.std.proofs.lemmas.List.{same_lists, get_or_past}
use Rattle.std.proofs.lemmas.Option.{none-some, same_Some, slice_get-get_or, slice_get_cases}
use Rattle.std.specs.List.{slice_get}
use Rattle.rows.specs.declared.row.Row.{Row}
use Rattle.language.specs.Walking.{Obligation}
use Rattle.records.specs.declared.owed.Owed.{Owed}
use Rattle.records.specs.declared.record.Record.{Record}
use Rattle.records.specs.Columns.{zero_record}
use Rattle.records.specs.Owing.{row_at, Owes, OwesFrom, OwesAll}
use Rattle.records.specs.Asking.{RowsFrom}
use Rattle.records.proofs.Replacing.{set_here, set_elsewhere}

module _ (records : List Record) (base : ℕ) where
  -- the first so many rows are copied
  abbrev pub CopiedTo : List Row → ℕ → Type 0
  CopiedTo xs n = (k : ℕ) → k < n → row_at records (base + k) ≡ slice_get xs k

  pub copied_more : (xs : List Row) (j : ℕ) (x : Row) → j < length xs → row_at records (base + j) ≡ Some x → CopiedTo xs j → CopiedTo (set xs j x) (j + 1)
  copied_more xs j x l h f k u = ⊎_elim (λ q. ap (λ i. row_at records (base + i)) q ∙ h ∙ sym (ap (slice_get (set xs j x)) q ∙ set_here xs j x l)) (λ ne. f k (omega arith) ∙ sym (set_elsewhere xs j x k ne)) (cases_eq k j)

  pub copied_all : (xs rows : List Row) → length rows ≡ length xs → CopiedTo xs (length xs) → RowsFrom records base rows → xs ≡ rows
  copied_all xs rows e f r = same_lists xs rows (sym e) (λ k d l. same_Some _ _ (sym (slice_get-get_or xs k d l) ∙ sym (f k l) ∙ r k (omega arith) ∙ slice_get-get_or rows k d (omega arith)))

  pub copied_none : (rows : List Row) (j : ℕ) → j < length rows → RowsFrom records base rows → None ≡ row_at records (base + j) → ⊥
  copied_none rows j l r e = elim (slice_get_cases rows j).1 [ inl x ↦ none-some x.0 (e ∙ r j l ∙ x.2) | inr x ↦ let no : ⊥ = omega (arith, x.0) in no ]

-- a row lies in a record that there is
pub row_within : (records : List Record) (at : ℕ) (x : Row) → row_at records at ≡ Some x → at < length records
unfolding zero_record
row_within records at x h = ⊎_elim (λ l. l) (λ l. absurd (none-some x (sym (ap (λ (r : Record). r.row) (get_or_past records at zero_record l)) ∙ h))) (cases_lt at (length records))

-- the obligation with a number lies at that number
pub owes_at : (records : List Record) (os : List Obligation) (k : ℕ) (o : Obligation) → OwesAll records os → slice_get os k ≡ Some o → Owes records k o
owes_at records os k o a g = subst (λ n. Owes records n o) (let e : 0 + k ≡ k = omega arith in e) (go 0 os k a g)
  where
    go : (from : ℕ) (os : List Obligation) (k : ℕ) → OwesFrom records from os → slice_get os k ≡ Some o → Owes records (from + k) o
    go from [] k a g = absurd (none-some o g)
    go from (p ∷ os) zero a g = subst (λ n. Owes records n o) (let e : from ≡ from + 0 = omega arith in e) (subst (Owes records from) (same_Some p o g) a.0)
    go from (p ∷ os) (suc k) a g = subst (λ n. Owes records n o) (let e : suc from + k ≡ from + suc k = omega arith in e) (go (suc from) os k a.1 g)

-- and no other
pub owes_once : (records : List Record) (k : ℕ) (o p : Obligation) → Owes records k o → Owes records k p → o ≡ p
owes_once records k o p a b =
    let h = same_Some _ _ (sym a.header ∙ b.header) in
    let n : length o.facts ≡ length p.facts = ap (λ (x : Owed). x.facts) h in
    let f = same_lists o.facts p.facts n (λ j d l. same_Some _ _ (sym (slice_get-get_or o.facts j d l) ∙ sym (a.facts j l) ∙ b.facts j (omega arith) ∙ slice_get-get_or p.facts j d (omega arith))) in
    ap₂ (λ i d. record { number = i; duty = d; place = o.place; facts = o.facts; goal = o.goal }) (a.number ∙ sym b.number) (ap (λ (x : Owed). x.duty) h)
    ∙ ap₂ (λ q fs. record { number = p.number; duty = p.duty; place = q; facts = fs; goal = o.goal }) (ap (λ (x : Owed). x.place) h) f
    ∙ ap (λ g. record { number = p.number; duty = p.duty; place = p.place; facts = p.facts; goal = g }) (same_Some _ _ (sym a.goal ∙ b.goal))
