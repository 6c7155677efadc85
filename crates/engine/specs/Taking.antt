-- What testing and making a draft of a text say.
use Rattle.std.specs.Prelude.{◌≡◌, ℕ, false, List, length, replicate, ℤ, Ok, Err, Result}
use Rattle.language.specs.declared.refusal.Refusal.{Refusal}
use Rattle.language.specs.Tree.{Rule}
use Rattle.language.specs.Drafts.{Sheet, sheet_of, no_sheet, draft_of}
use Rattle.records.specs.declared.record.Record.{Record}
use Rattle.records.specs.Columns.{zero_record}
use Rattle.reading.specs.declared.sizes.Sizes.{Sizes}
use Rattle.reading.specs.Reading.{Reads}
use Rattle.reading.specs.Answers.{Stood}
use Rattle.engine.specs.declared.draft.Draft.{Draft}
use Rattle.engine.specs.Drafting.{DraftIs}

-- the text is read, and the records hold its sheet; or it is refused, and every record is zero
abbrev pub Tested : Result (Unit {0}) Refusal → List ℕ → ℤ → ℤ → List Record → List Record → Type 0
Tested (Ok u) text low high old new = (sizes : Sizes) × Stood text low high sizes new
Tested (Err r) text low high old new = Reads text low high (length old) (Err r) × (new ≡ replicate (length old) zero_record)

-- the sheet that reading gives: one without rules where it refuses
abbrev pub taken : ℤ → ℤ → Result (List Rule) Refusal → Sheet
taken low high (Ok rules) = sheet_of low high rules
taken low high (Err r) = no_sheet

-- a draft over these records with nothing settled
pub record Fresh (draft : Draft) (records : List Record) (low high : ℤ) (sizes : Sizes) : Type 0 where
  pub over : draft.records.now ≡ records
  pub from : draft.low ≡ low
  pub to : draft.high ≡ high
  pub of : draft.sizes ≡ sizes
  pub unmarked : draft.marks ≡ replicate 128 false

-- a text is read in a range with so many records, to one answer, and this is a fresh draft of its sheet
pub record Made (draft : Draft) (text : List ℕ) (low high : ℤ) (records : ℕ) : Type 0 where
  pub answer : Result (List Rule) Refusal
  pub reads : Reads text low high records answer
  pub only : (other : Result (List Rule) Refusal) → Reads text low high records other → other ≡ answer
  pub is : DraftIs draft (draft_of (taken low high answer))
