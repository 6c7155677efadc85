-- The obligations of a draft, as they lie in its records.
use Rattle.std.proofs.Common.{◌≡◌, ℕ, ◌-◌, ◌<◌, Bool, List, length, Some, None, Ok, Option, sym, refl, ap, inl, inr, ◌∙◌, subst, ap₂, arith}
use Rattle.std.specs.List.{slice_get}
use Rattle.std.specs.Option.{ok_or}
use Rattle.std.proofs.lemmas.Option.{slice_get_cases, same_Some, none-some}
use Rattle.rows.specs.declared.row.Row.{Row}
use Rattle.language.specs.declared.refusal.Refusal.TheVariants.{Number}
use Rattle.language.specs.Drafts as Drafts
use Rattle.language.specs.Drafts.{marked}
use Rattle.language.specs.Walking.{Obligation}
use Rattle.records.specs.declared.asked.Asked.{Asked}
use Rattle.records.specs.declared.owed.Owed.{Owed}
use Rattle.records.specs.Asking.{Asks}
use Rattle.records.specs.Owing.{owed_at, Owes}
use Rattle.records.proofs.Asking.{owes_at}
use Rattle.engine.specs.declared.draft.Draft.{Draft}
use Rattle.engine.specs.Drafting.{DraftIs}
use Rattle.engine.specs.Listing.{listed_if, listed, Poses, ReadBack}
use Rattle.engine.proofs.Marks.{marked_front}

-- the obligation with a number that there is, and that it is owed
pub record OneOf (draft : Draft) (d : Drafts.Draft) (n : ℕ) : Type 0 where
  pub obligation : Obligation
  pub here : slice_get d.sheet.obligations n ≡ Some obligation
  pub owes : Owes draft.records.now n obligation

pub one_of : (draft : Draft) (d : Drafts.Draft) (n : ℕ) → DraftIs draft d → n < draft.sizes.owed → OneOf draft d n
one_of draft d n is below =
    elim (slice_get_cases d.sheet.obligations n).1 [
      | inl (o, within, here, same) ↦ record { obligation = o; here = here; owes = owes_at draft.records.now d.sheet.obligations n o is.holds.owes here }
      | inr (past, none) ↦ let no : ⊥ = omega (arith, is.holds.owed) in absurd no
    ]

-- the header that lies there is that obligation's
module _ (draft : Draft) (d : Drafts.Draft) (n : ℕ) (is : DraftIs draft d) (below : n < draft.sizes.owed) where
  one : OneOf draft d n
  one = one_of draft d n is below

  pub some_header : None ≡ owed_at draft.records.now n → ⊥
  some_header e = none-some _ (e ∙ one.owes.header)

  pub header_listed : (owed : Owed) (settled : Bool) → Some owed ≡ owed_at draft.records.now n → settled ≡ marked draft.marks n → Ok (record { duty = owed.duty; place = owed.place; settled = settled }) ≡ listed d n
  header_listed owed settled e m =
      let h = same_Some _ _ (e ∙ one.owes.header) in
      ap₂ (λ (h : Owed) b. Ok (record { duty = h.duty; place = h.place; settled = b })) h (m ∙ marked_front draft.marks d.marks (128 - length d.marks) n is.marks)
      ∙ sym (ap (λ o. listed_if o (marked d.marks n)) one.here)

-- what is read back of it is posed
pub read_posed : (draft : Draft) (d : Drafts.Draft) (n : ℕ) (answer : Option Asked) (old new : List Row) → DraftIs draft d → n < draft.sizes.owed → ((o : Obligation) → Owes draft.records.now n o → Asks answer old new o) → Poses (ok_or answer Number) (slice_get d.sheet.obligations n) old new
read_posed draft d n answer old new is below asks =
    let one = one_of draft d n is below in
    let o = one.obligation in
    let k = asks o one.owes in
    subst (λ x. Poses (ok_or answer Number) x old new) (sym one.here) (subst (λ x. Poses (ok_or x Number) (Some o) old new) (sym k.asked) (refl, k.facts, k.rest))

pub read_back : (draft : Draft) (n : ℕ) (answer : Option Asked) (old new : List Row) → n < draft.sizes.owed → ((o : Obligation) → Owes draft.records.now n o → Asks answer old new o) → ReadBack (ok_or answer Number) draft n old new
read_back draft n None old new below asks = tt
read_back draft n (Some a) old new below asks = (below, asks)
