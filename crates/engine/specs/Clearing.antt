-- Books as they lie in records.
use Rattle.std.specs.Prelude.{◌≡◌, ◌-◌, false, List, ◌++◌, length, replicate, ℤ}
use Rattle.language.specs.Tree.{Rule}
use Rattle.language.specs.Drafts as Drafts
use Rattle.reading.specs.Answers.{Holds}
use Rattle.engine.specs.declared.book.Book.{Book}

-- a book is this one: the records hold its sheet, and the marks of its obligations stand before others, which are false
pub record BookIs (book : Book) (b : Drafts.Book) : Type 0 where
  pub holds : Holds book.records.now book.sizes b.sheet
  pub low : book.low ≡ b.sheet.low
  pub high : book.high ≡ b.sheet.high
  pub many : length b.marks ≡ length b.sheet.obligations
  pub marks : book.marks ≡ b.marks ++ replicate (128 - length b.marks) false

-- a book is this one, of a sheet that rules were taken as in a range
pub record BookOf (book : Book) (b : Drafts.Book) : Type 0 where
  pub is : BookIs book b
  pub low : ℤ
  pub high : ℤ
  pub rules : List Rule
  pub taken : b.sheet ≡ Drafts.sheet_of low high rules
