-- Reading a sheet: the stages in their order, each with its refusal.
use Rattle.std.specs.Prelude.{◌≡◌, ℕ, Bool, true, false, ◌&&◌, List, length, ℤ, pos, Some, None, Ok, Err, Option, Result, int_le, nat_le}
use Rattle.letters.specs.declared.misspelt.Misspelt.{Misspelt}
use Rattle.letters.specs.declared.misspelt.Misspelt.TheVariants as Misspelts
use Rattle.letters.specs.Cuts.{cut_of}
use Rattle.grammar.specs.Raw as Raw
use Rattle.grammar.specs.declared.unread.Unread.{Unread}
use Rattle.grammar.specs.declared.unread.Unread.TheVariants as Unreads
use Rattle.grammar.specs.Parsers.{Look, look_in}
use Rattle.grammar.specs.Lawful.{OnlySheet, NoSheet}
use Rattle.naming.specs.Faults.{name_fault}
use Rattle.counting.specs.Counts.{count_fault}
use Rattle.resolving.specs.Resolving.{sheet_of}
use Rattle.language.specs.declared.refusal.Refusal.{Refusal}
use Rattle.language.specs.declared.refusal.Refusal.TheVariants.{Range, Letter, Grammar, Name, Full}
use Rattle.language.specs.Tree.{Rule}
use Rattle.language.specs.Walking.{walk_rules, first_fault}

-- so many records hold every sheet that is read
abbrev pub least_records : ℕ
least_records = 4096

-- low is at most 0, high at least 0, and there are records enough
abbrev pub in_range : ℤ → ℤ → ℕ → Bool
in_range low high records = int_le low (pos 0) && (int_le (pos 0) high && nat_le least_records records)

-- a text that is too long or has too many brackets is full
abbrev pub misspelling : Misspelt → Refusal
misspelling Misspelts.Length = Full 0
misspelling (Misspelts.Letter p) = Letter p
misspelling (Misspelts.Brackets p) = Full p

-- tokens that are no sheet are refused by the grammar
abbrev pub misreading : Unread → Refusal
misreading Unreads.Full = Full 0
misreading (Unreads.Fault p) = Grammar p

-- the tokens of a text by position
abbrev pub tokens_of : List ℕ → Look
tokens_of text = look_in (cut_of text).tokens (length text)

-- the first fault that the walk over rules notes
abbrev pub walk_fault : List Rule → Option Refusal
walk_fault rules = first_fault (walk_rules rules 0 rules).notes

-- What reading a text in a range with so many records gives: the first stage at fault refuses, else the rules that the text stands for.
pub data Reads (text : List ℕ) (low high : ℤ) (records : ℕ) : Result (List Rule) Refusal → Type 0 where
  out_of_range : in_range low high records ≡ false → Reads text low high records (Err Range)
  misspelt : {m : Misspelt} → in_range low high records ≡ true → (cut_of text).fault ≡ Some m → Reads text low high records (Err (misspelling m))
  no-sheet : {p : ℕ} → in_range low high records ≡ true → (cut_of text).fault ≡ None → NoSheet (tokens_of text) p → Reads text low high records (Err (Grammar p))
  misnamed : {sheet : Raw.Sheet} {p : ℕ} → in_range low high records ≡ true → (cut_of text).fault ≡ None → OnlySheet (tokens_of text) sheet → name_fault text sheet ≡ Some p → Reads text low high records (Err (Name p))
  too_many : {sheet : Raw.Sheet} {p : ℕ} → in_range low high records ≡ true → (cut_of text).fault ≡ None → OnlySheet (tokens_of text) sheet → name_fault text sheet ≡ None → count_fault (length text) sheet (sheet_of text sheet) ≡ Some p → Reads text low high records (Err (Full p))
  unwalkable : {sheet : Raw.Sheet} {r : Refusal} → in_range low high records ≡ true → (cut_of text).fault ≡ None → OnlySheet (tokens_of text) sheet → name_fault text sheet ≡ None → count_fault (length text) sheet (sheet_of text sheet) ≡ None → walk_fault (sheet_of text sheet) ≡ Some r → Reads text low high records (Err r)
  read : {sheet : Raw.Sheet} → in_range low high records ≡ true → (cut_of text).fault ≡ None → OnlySheet (tokens_of text) sheet → name_fault text sheet ≡ None → count_fault (length text) sheet (sheet_of text sheet) ≡ None → walk_fault (sheet_of text sheet) ≡ None → Reads text low high records (Ok (sheet_of text sheet))
