-- Drafts as they lie in records.
use Rattle.std.specs.Prelude.{◌≡◌, ◌-◌, false, ◌++◌, length, replicate}
use Rattle.language.specs.Drafts as Drafts
use Rattle.reading.specs.Answers.{Holds}
use Rattle.engine.specs.declared.draft.Draft.{Draft}

-- a draft is this one: the records hold its sheet, and the marks of its obligations stand before others, which are false
pub record DraftIs (draft : Draft) (d : Drafts.Draft) : Type 0 where
  pub holds : Holds draft.records.now draft.sizes d.sheet
  pub low : draft.low ≡ d.sheet.low
  pub high : draft.high ≡ d.sheet.high
  pub many : length d.marks ≡ length d.sheet.obligations
  pub marks : draft.marks ≡ d.marks ++ replicate (128 - length d.marks) false
