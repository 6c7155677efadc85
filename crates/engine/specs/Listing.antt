-- What a draft says of its obligations.
use Rattle.std.specs.Prelude.{◌≡◌, ℕ, ◌<◌, Bool, List, length, take, drop, Some, None, Ok, Err, Option, Result}
use Rattle.std.specs.List.{slice_get}
use Rattle.rows.specs.declared.row.Row.{Row}
use Rattle.language.specs.declared.refusal.Refusal.{Refusal}
use Rattle.language.specs.declared.refusal.Refusal.TheVariants.{Number}
use Rattle.language.specs.Drafts as Drafts
use Rattle.language.specs.Drafts.{marked}
use Rattle.language.specs.Walking.{Obligation}
use Rattle.records.specs.declared.asked.Asked.{Asked}
use Rattle.records.specs.Owing.{Owes}
use Rattle.records.specs.Asking.{asked_of, Asks}
use Rattle.engine.specs.declared.draft.Draft.{Draft}
use Rattle.engine.specs.declared.listed.Listed.{Listed}

-- how an obligation stands, marked or not
abbrev pub listed_if : Option Obligation → Bool → Result Listed Refusal
listed_if None settled = Err Number
listed_if (Some o) settled = Ok (record { duty = o.duty; place = o.place; settled = settled })

abbrev pub listed : Drafts.Draft → ℕ → Result Listed Refusal
listed d number = listed_if (slice_get d.sheet.obligations number) (marked d.marks number)

-- a question is posed: its facts lie at the front of the room that was lent, whose rest stays; or there is none, and the room stays
abbrev pub Poses : Result Asked Refusal → Option Obligation → List Row → List Row → Type 0
Poses (Ok a) (Some o) old new = (a ≡ asked_of o) × (take (length o.facts) new ≡ o.facts) × (drop (length o.facts) new ≡ drop (length o.facts) old)
Poses (Ok a) None old new = ⊥
Poses (Err r) (Some o) old new = ⊥
Poses (Err r) None old new = (r ≡ Number) × (new ≡ old)

-- what is read back is what an obligation asks that the records hold there
abbrev pub ReadBack : Result Asked Refusal → Draft → ℕ → List Row → List Row → Type 0
ReadBack (Ok a) draft number old new = (number < draft.sizes.owed) × ((o : Obligation) → Owes draft.records.now number o → Asks (Some a) old new o)
ReadBack (Err r) draft number old new = Unit {0}
