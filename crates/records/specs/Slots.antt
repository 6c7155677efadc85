-- What a column holds, and how it changes when a slot is written.
use Rattle.std.proofs.Common.{◌≡◌, ◌≢◌, ℕ, zero, suc, ◌+◌, ◌-◌, ◌*◌, ◌/◌, ◌%◌, ◌<◌, ◌≤◌, List, [], ◌∷◌, ◌++◌, length, get_or, set, ltb, true, false, Some, None, sym, refl, ap, ◌∙◌, subst, ap₂, ⊎_elim, arith}
use Rattle.std.specs.List.{slice_get}
use Rattle.std.proofs.lemmas.Bool.{cases_eq, lt-ltb, le-ltb}
use Rattle.std.proofs.lemmas.Option.{slice_get-get_or, slice_get_past, get_or_from_slice_get}
use Rattle.std.proofs.lemmas.List.{get_or-set_same, get_or-set_other, get_or_default, get_or_push, append-nil, append_assoc, length_push, set-append_left, set-append_right}
use Rattle.std.proofs.Math.ListN.{get_or-append}
use Rattle.records.specs.declared.record.Record.{Record}
use Rattle.records.specs.Columns.{zero_record, slot_at, first_slots}

module _ {A : Type 0} (part : Record → List A) (none : A) where
  pub length-slots : (records : List Record) (n : ℕ) → length (first_slots part none records n) ≡ n
  unfolding first_slots
  length-slots records zero = refl
  length-slots records (suc n) = let e = length-slots records n in omega (arith, e, length_push (first_slots part none records n) (slot_at part none records n))

  more : (records : List Record) (n k : ℕ) → (xs : List A) × (first_slots part none records (n + k) ≡ first_slots part none records n ++ xs)
  unfolding first_slots
  more records n zero = ([], ap (first_slots part none records) (let e : n + 0 ≡ n = omega arith in e) ∙ sym (append-nil (first_slots part none records n)))
  more records n (suc k) =
      let m = more records n k in
      let x = slot_at part none records (n + k) in (
        m.0 ++ x ∷ [],
        ap (first_slots part none records) (let e : n + suc k ≡ suc (n + k) = omega arith in e) ∙ ap (λ xs. xs ++ x ∷ []) m.1 ∙ append_assoc (first_slots part none records n) m.0 (x ∷ []),
      )

  -- more slots begin with fewer
  pub slots_more : (records : List Record) (n m : ℕ) → n ≤ m → (xs : List A) × (first_slots part none records m ≡ first_slots part none records n ++ xs)
  slots_more records n m h = let e : m ≡ n + (m - n) = omega arith in let x = more records n (m - n) in (x.0, ap (first_slots part none records) e ∙ x.1)

  pub slots_full : (records : List Record) (n : ℕ) → length records ≤ n / 4 → ltb (length (first_slots part none records n)) (4 * length records) ≡ false
  slots_full records n h = le-ltb _ _ (omega (arith, length-slots records n))

  pub slots_free : (records : List Record) (n : ℕ) → n / 4 < length records → ltb (length (first_slots part none records n)) (4 * length records) ≡ true
  slots_free records n h = lt-ltb _ _ (omega (arith, length-slots records n))

  pub slots-same : (r s : List Record) (n : ℕ) → ((k : ℕ) → k < n → slot_at part none r k ≡ slot_at part none s k) → first_slots part none r n ≡ first_slots part none s n
  unfolding first_slots
  slots-same r s zero h = refl
  slots-same r s (suc n) h = ap₂ (λ xs x. xs ++ x ∷ []) (slots-same r s n (λ k l. h k (omega arith))) (h n (omega arith))

  slots-at : (r : List Record) (n k : ℕ) → k < n → get_or (first_slots part none r n) k none ≡ slot_at part none r k
  unfolding first_slots
  slots-at r zero k l = let no : ⊥ = omega arith in absurd no
  slots-at r (suc n) k l =
      let e = length-slots r n in
      ⊎_elim (λ q. get_or_push (first_slots part none r n) (slot_at part none r n) none k (omega arith) ∙ ap (slot_at part none r) (sym q))
      (λ ne. get_or-append (first_slots part none r n) (slot_at part none r n ∷ []) none k (omega arith) ∙ slots-at r n k (omega arith))
      (cases_eq k n)

  pub slots_get : (r : List Record) (n k : ℕ) (x : A) (d : Record) → k < n → k / 4 < length r → slice_get (part (get_or r (k / 4) d)) (k % 4) ≡ Some x → slice_get (first_slots part none r n) k ≡ Some x
  unfolding slot_at
  slots_get r n k x d l within h =
      let e = length-slots r n in
      let same = ap (λ z. slice_get (part z) (k % 4)) (get_or_default r (k / 4) zero_record d within) in
      slice_get-get_or (first_slots part none r n) k none (omega arith) ∙ ap Some (slots-at r n k l ∙ get_or_from_slice_get (part (get_or r (k / 4) zero_record)) (k % 4) x none (same ∙ h))

  pub slots-past : (r : List Record) (n k : ℕ) → n ≤ k → slice_get (first_slots part none r n) k ≡ None
  slots-past r n k l = let e = length-slots r n in slice_get_past (first_slots part none r n) k (omega arith)

  -- a record is written, whose part has one slot changed
  module _ (r : List Record) (new : Record) (at : ℕ) (x : A) (within : at / 4 < length r) (few : at % 4 < length (part (get_or r (at / 4) zero_record))) (put : part new ≡ set (part (get_or r (at / 4) zero_record)) (at % 4) x) where
    slot_written : slot_at part none (set r (at / 4) new) at ≡ x
    unfolding slot_at
    slot_written =
        ap (λ z. get_or (part z) (at % 4) none) (get_or-set_same r (at / 4) new zero_record within) ∙ ap (λ xs. get_or xs (at % 4) none) put ∙ get_or-set_same (part (get_or r (at / 4) zero_record)) (at % 4) x none few

    slot_other : (k : ℕ) → k ≢ at → slot_at part none (set r (at / 4) new) k ≡ slot_at part none r k
    unfolding slot_at
    slot_other k ne =
        ⊎_elim
        (λ q.
        let d : k % 4 ≢ at % 4 = λ z. let no : ⊥ = ne (omega (arith, q, z)) in no in
        ap (λ i. get_or (part (get_or (set r (at / 4) new) i zero_record)) (k % 4) none) q
        ∙ ap (λ z. get_or (part z) (k % 4) none) (get_or-set_same r (at / 4) new zero_record within) ∙ ap (λ xs. get_or xs (k % 4) none) put
        ∙ get_or-set_other (part (get_or r (at / 4) zero_record)) (at % 4) (k % 4) x none d
        ∙ ap (λ i. get_or (part (get_or r i zero_record)) (k % 4) none) (sym q))
        (λ d. ap (λ z. get_or (part z) (k % 4) none) (get_or-set_other r (at / 4) (k / 4) new zero_record d))
        (cases_eq (k / 4) (at / 4))

    set-all : (n : ℕ) → at < n → first_slots part none (set r (at / 4) new) n ≡ set (first_slots part none r n) at x
    unfolding first_slots
    set-all zero l = let no : ⊥ = omega arith in absurd no
    set-all (suc n) l =
        let e = length-slots r n in
        ⊎_elim
        (λ q.
        ap₂ (λ xs y. xs ++ y ∷ []) (slots-same (set r (at / 4) new) r n (λ k h. slot_other k (omega arith))) (ap (slot_at part none (set r (at / 4) new)) (sym q) ∙ slot_written)
        ∙ ap (λ m. first_slots part none r n ++ set (slot_at part none r n ∷ []) m x) (let z : 0 ≡ at - n = omega arith in z)
        ∙ sym (set-append_right (first_slots part none r n) (slot_at part none r n ∷ []) n at x e (omega arith)))
        (λ d.
        ap₂ (λ xs y. xs ++ y ∷ []) (set-all n (omega arith)) (slot_other n (λ z. d (sym z)))
        ∙ sym (set-append_left (first_slots part none r n) (slot_at part none r n ∷ []) at x (omega arith)))
        (cases_eq at n)

    pushed-all : first_slots part none (set r (at / 4) new) (suc at) ≡ first_slots part none r at ++ x ∷ []
    unfolding first_slots
    pushed-all = ap₂ (λ xs y. xs ++ y ∷ []) (slots-same (set r (at / 4) new) r at (λ k h. slot_other k (omega arith))) slot_written

  pub slots_put : (r : List Record) (new : Record) (at : ℕ) (x : A) → at / 4 < length r → (d : Record) → at % 4 < length (part (get_or r (at / 4) d)) → part new ≡ set (part (get_or r (at / 4) d)) (at % 4) x → first_slots part none (set r (at / 4) new) (at + 1) ≡ first_slots part none r at ++ x ∷ []
  slots_put r new at x within d few put =
      let same = get_or_default r (at / 4) d zero_record within in
      ap (first_slots part none (set r (at / 4) new)) (let z : at + 1 ≡ suc at = omega arith in z)
      ∙ pushed-all r new at x within (subst (λ (z : Record). at % 4 < length (part z)) same few) (put ∙ ap (λ (z : Record). set (part z) (at % 4) x) same)

  pub slots_set : (r : List Record) (new : Record) (at n : ℕ) (x : A) → at < n → at / 4 < length r → (d : Record) → at % 4 < length (part (get_or r (at / 4) d)) → part new ≡ set (part (get_or r (at / 4) d)) (at % 4) x → first_slots part none (set r (at / 4) new) n ≡ set (first_slots part none r n) at x
  slots_set r new at n x counted within d few put =
      let same = get_or_default r (at / 4) d zero_record within in
      set-all r new at x within (subst (λ (z : Record). at % 4 < length (part z)) same few) (put ∙ ap (λ (z : Record). set (part z) (at % 4) x) same) n counted

  -- a record is written, whose part stays
  kept : (r : List Record) (new : Record) (i : ℕ) → i < length r → part new ≡ part (get_or r i zero_record) → (k : ℕ) → slot_at part none (set r i new) k ≡ slot_at part none r k
  unfolding slot_at
  kept r new i l e k =
      ⊎_elim
      (λ q. ap (λ j. get_or (part (get_or (set r i new) j zero_record)) (k % 4) none) q ∙ ap (λ z. get_or (part z) (k % 4) none) (get_or-set_same r i new zero_record l) ∙ ap (λ f. get_or (f) (k % 4) none) e ∙ ap (λ j. get_or (part (get_or r j zero_record)) (k % 4) none) (sym q))
      (λ d. ap (λ z. get_or (part z) (k % 4) none) (get_or-set_other r i (k / 4) new zero_record d))
      (cases_eq (k / 4) i)

  pub slots_kept : (r : List Record) (new d : Record) (i n : ℕ) → i < length r → part new ≡ part (get_or r i d) → first_slots part none (set r i new) n ≡ first_slots part none r n
  slots_kept r new d i n l e = slots-same (set r i new) r n (λ k h. kept r new i l (e ∙ ap part (get_or_default r i d zero_record l)) k)
