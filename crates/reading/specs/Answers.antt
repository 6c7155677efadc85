-- What an answer says of the records after it.
use Rattle.std.specs.Prelude.{◌≡◌, ℕ, ◌*◌, ◌<◌, ◌≤◌, List, length, replicate, ℤ, Some, None, Ok, Err, Result}
use Rattle.std.specs.List.{AllByRecursion}
use Rattle.language.specs.declared.refusal.Refusal.{Refusal}
use Rattle.language.specs.declared.refusal.Refusal.TheVariants.{Name, Full}
use Rattle.language.specs.Drafts as Drafts
use Rattle.language.specs.Tree.{Rule}
use Rattle.language.specs.Walking.{walk_rules, obligations_of}
use Rattle.grammar.specs.Raw as Raw
use Rattle.naming.specs.Faults.{name_fault}
use Rattle.counting.specs.Counts.{count_fault}
use Rattle.resolving.specs.Resolving.{sheet_of}
use Rattle.records.specs.declared.entry.Entry.{Entry}
use Rattle.records.specs.declared.record.Record.{Record}
use Rattle.records.specs.Columns.{zero_record, tables_in, params_in, entries_in}
use Rattle.records.specs.Owing.{OwesAll}
use Rattle.records.specs.Trees.{rules_in}
use Rattle.records.specs.Rules.{RulesStand}
use Rattle.walking.specs.Walked.{with_bodies}
use Rattle.reading.specs.declared.sizes.Sizes.{Sizes}
use Rattle.reading.specs.Reading.{Reads, walk_fault}

-- What lies in records is small: the records have room for so many entries, whose bodies lie below the most positions; no rule has more than 12 parameters, and there are as many bodies as rules.
pub record Small (records : List Record) (rules : ℕ) (sheet : Drafts.Sheet) : Type 0 where
  pub room : rules ≤ 4 * length records
  pub below : AllByRecursion (λ (e : Entry). e.body < 16384) (entries_in records rules)
  pub heads : AllByRecursion (λ (r : Rule). length r.params ≤ 12) sheet.rules
  pub bodies : length sheet.bodies ≡ length sheet.rules

-- Records hold a sheet. So many rules stand there, in which the sites are numbered: each part of a tree lies below its node, no two parts share a node, and reading the tables gives the rules. Beside them stands what the sheet owes.
pub record Holds (records : List Record) (sizes : Sizes) (sheet : Drafts.Sheet) : Type 0 where
  pub rules : sizes.rules ≡ length sheet.rules
  pub stand : RulesStand (tables_in records) (params_in records) 0 (entries_in records sizes.rules) (with_bodies sheet.rules sheet.bodies)
  pub reads : rules_in (tables_in records) (params_in records) (entries_in records sizes.rules) ≡ with_bodies sheet.rules sheet.bodies
  pub owed : sizes.owed ≡ length sheet.obligations
  pub owes : OwesAll records sheet.obligations
  pub few : length sheet.obligations ≤ 128
  pub small : Small records sizes.rules sheet

-- the rules that the text stands for are a sheet in this range, which the records hold
pub record Stood (text : List ℕ) (low high : ℤ) (sizes : Sizes) (records : List Record) : Type 0 where
  pub rules : List Rule
  pub reads : Reads text low high (length records) (Ok rules)
  pub holds : Holds records sizes (Drafts.sheet_of low high rules)

-- an answer is that of reading; a refusal leaves every record zero
abbrev pub Answer : Result Sizes Refusal → List ℕ → ℤ → ℤ → List Record → List Record → Type 0
Answer (Ok sizes) text low high old new = Stood text low high sizes new
Answer (Err r) text low high old new = Reads text low high (length old) (Err r) × (new ≡ replicate (length old) zero_record)

-- the same, but for what a refusal leaves
abbrev pub Staged : Result Sizes Refusal → List ℕ → ℤ → ℤ → ℕ → List Record → Type 0
Staged (Ok sizes) text low high count records = Stood text low high sizes records
Staged (Err r) text low high count records = Reads text low high count (Err r)

-- what rules are in a range where the walk notes no fault
abbrev pub walked : ℤ → ℤ → List Rule → Drafts.Sheet
walked low high rules =
    let w = walk_rules rules 0 rules in
    record { low = low; high = high; rules = rules; bodies = w.bodies; obligations = obligations_of w.notes }

-- names, counts and the walk pass; in any range, the records hold what a written sheet stands for
pub record Passed (text : List ℕ) (sheet : Raw.Sheet) (sizes : Sizes) (records : List Record) : Type 0 where
  pub named : name_fault text sheet ≡ None
  pub counted : count_fault (length text) sheet (sheet_of text sheet) ≡ None
  pub faultless : walk_fault (sheet_of text sheet) ≡ None
  pub holds : (low high : ℤ) → Holds records sizes (walked low high (sheet_of text sheet))

-- the first of them refuses that does not pass
pub data Refused (text : List ℕ) (sheet : Raw.Sheet) : Refusal → Type 0 where
  misnamed : {p : ℕ} → name_fault text sheet ≡ Some p → Refused text sheet (Name p)
  too_many : {p : ℕ} → name_fault text sheet ≡ None → count_fault (length text) sheet (sheet_of text sheet) ≡ Some p → Refused text sheet (Full p)
  unwalkable : {r : Refusal} → name_fault text sheet ≡ None → count_fault (length text) sheet (sheet_of text sheet) ≡ None → walk_fault (sheet_of text sheet) ≡ Some r → Refused text sheet r

abbrev pub Checked : Result Sizes Refusal → List ℕ → Raw.Sheet → List Record → Type 0
Checked (Ok sizes) text sheet records = Passed text sheet sizes records
Checked (Err r) text sheet records = Refused text sheet r
