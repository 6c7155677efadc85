-- What a run is entered with, and how it is answered.
use Rattle.std.specs.Prelude.{◌≡◌, ℕ, ◌-◌, ◌<◌, ◌≤◌, List, ℤ, map, length, Some, Ok, Err, Result}
use Rattle.std.specs.List.{slice_get}
use Rattle.language.specs.declared.ending.End.{End}
use Rattle.language.specs.declared.part.Part.{Part}
use Rattle.language.specs.declared.refusal.Refusal.{Refusal}
use Rattle.language.specs.Tree.{Rule, rule_at}
use Rattle.language.specs.Drafts.{Sheet, marked}
use Rattle.language.specs.Entering.{Answer, refused, ended, astray, values_for, run_if_callable}
use Rattle.records.specs.declared.entry.Entry.{Entry}
use Rattle.records.specs.declared.record.Record.{Record}
use Rattle.records.specs.Columns.{tables_in, params_in}
use Rattle.records.specs.Tables.{stretch, param_of, conditions_in}
use Rattle.running.specs.declared.program.Program.{Program}
use Rattle.running.specs.Standing.{Book, all_entries}

-- the head and the needs of a rule lie where its entry says, with at most 12 parameters and fewer needs than a number counts
pub record Headed (records : List Record) (f : ℕ) (r : Rule) : Type 0 where
  pub entry : Entry
  pub found : slice_get (all_entries records) f ≡ Some entry
  pub params : map param_of (stretch (params_in records) entry.params.from entry.params.to) ≡ r.params
  pub few_params : entry.params.to - entry.params.from ≤ 12
  pub needs : conditions_in (tables_in records).items (tables_in records).conditions entry.needs.from entry.needs.to ≡ r.needs
  pub few_needs : entry.needs.to - entry.needs.from < 4294967296

-- an answer that is not astray
abbrev pub Tamed : Answer → Type 0
Tamed (refused r) = Unit {0}
Tamed (ended e cells log) = Unit {0}
Tamed astray = ⊥

-- the records hold this sheet, whose runs touch nothing outside
pub record Ready (p : Program) (rules : ℕ) (sheet : Sheet) : Type 0 where
  pub low : p.low ≡ sheet.low
  pub high : p.high ≡ sheet.high
  pub many : rules ≡ length sheet.rules
  pub heads : (f : ℕ) → f < rules → Headed p.records.now f (rule_at sheet.rules f)
  pub book : Book p.records.now
  pub bodies : book.bodies ≡ sheet.bodies
  pub as_many : length sheet.bodies ≡ rules
  pub inside : (f fuel : ℕ) (xs : List ℤ) (ps : List Part) (cells : List ℤ) → Tamed (run_if_callable (values_for sheet.rules f xs ps) sheet (marked p.dropped.now) f fuel xs ps cells)

-- an end with its cells, or a refusal, which leaves the cells
abbrev pub Answered : Result End Refusal → List ℤ → List ℤ → Answer → Type 0
Answered (Ok e) old new (refused q) = ⊥
Answered (Ok e) old new (ended f cells log) = (e ≡ f) × (new ≡ cells)
Answered (Ok e) old new astray = ⊥
Answered (Err r) old new (refused q) = (r ≡ q) × (new ≡ old)
Answered (Err r) old new (ended f cells log) = ⊥
Answered (Err r) old new astray = ⊥
