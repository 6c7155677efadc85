-- Sheets, drafts and books: what reading makes of rules and a range, how a settling marks a draft, what Ready answers, what Clear gives.
use Rattle.std.specs.Prelude.{ℕ, suc, Bool, true, false, cond, not, ◌&&◌, List, [], ◌∷◌, length, replicate, ℤ, pos, Some, None, Ok, Err, Option, Result, int_le, slice_index_or, slice_set}
use Rattle.std.specs.List.{slice_get}
use Rattle.rows.specs.declared.row.Row.{Row}
use Rattle.domains.specs.Faults.{Outcome}
use Rattle.language.specs.declared.duty.Duty.{Duty}
use Rattle.language.specs.declared.duty.Duty.TheVariants.{Check, Guard}
use Rattle.language.specs.declared.refusal.Refusal.{Refusal}
use Rattle.language.specs.declared.refusal.Refusal.TheVariants.{Range, Number, Narrow, Unproved, Closed}
use Rattle.language.specs.Tree.{Expr, Rule}
use Rattle.language.specs.Walking.{Obligation, walk_rules, obligations_of, first_fault}
use Rattle.language.specs.Running.{Dropped}

-- A sheet as it was taken: its range, its rules, their bodies with sites numbered, and what it owes.
pub record Sheet : Type 0 where
  pub low : ℤ
  pub high : ℤ
  pub rules : List Rule
  pub bodies : List Expr
  pub obligations : List Obligation

pub record Draft : Type 0 where
  pub sheet : Sheet
  pub marks : List Bool

pub record Book : Type 0 where
  pub sheet : Sheet
  pub marks : List Bool

-- why a sheet is not taken: its range, or the first fault of the walk
unfoldable pub refusal_of : ℤ → ℤ → List Rule → Option Refusal
refusal_of low high rules = cond (int_le low (pos 0) && int_le (pos 0) high) (first_fault (walk_rules rules 0 rules).notes) (Some Range)

-- a sheet without rules, in the range 0 to 0, stands for one that is not taken
abbrev pub no_sheet : Sheet
no_sheet = record { low = pos 0; high = pos 0; rules = []; bodies = []; obligations = [] }

abbrev pub sheet_if : Option Refusal → ℤ → ℤ → List Rule → Sheet
sheet_if (Some r) low high rules = no_sheet
sheet_if None low high rules =
    let w = walk_rules rules 0 rules in
    record { low = low; high = high; rules = rules; bodies = w.bodies; obligations = obligations_of w.notes }

abbrev pub sheet_of : ℤ → ℤ → List Rule → Sheet
sheet_of low high rules = sheet_if (refusal_of low high rules) low high rules

-- a fresh draft: nothing is settled
abbrev pub draft_of : Sheet → Draft
draft_of sheet = record { sheet = sheet; marks = replicate (length sheet.obligations) false }

-- a domain, by its meaning: a range, and an outcome for each question and certificate
pub record Domain : Type 0 where
  pub low : ℤ
  pub high : ℤ
  pub outcome : List Row → Row → List ℕ → Outcome

-- a prover, by its meaning: a proposal for each question, or none
pub record Prover : Type 0 where
  pub proposes : List Row → Row → Option (List ℕ)

-- the domain's range holds the sheet's
abbrev pub wide : Sheet → Domain → Bool
wide sheet d = int_le d.low sheet.low && int_le sheet.high d.high

-- Settling: the answer, and the marks after it.
abbrev pub judged : ℕ → Outcome → Result (Unit {0}) Refusal
judged place (Ok u) = Ok tt
judged place (Err f) = Err (Unproved place (Some f))

abbrev pub verified : Domain → Obligation → Option (List ℕ) → Result (Unit {0}) Refusal
verified d o None = Err (Unproved o.place None)
verified d o (Some c) = judged o.place (d.outcome o.facts o.goal c)

abbrev pub asked : Sheet → Domain → Prover → Option Obligation → Result (Unit {0}) Refusal
asked sheet d p None = Err Number
asked sheet d p (Some o) = cond (wide sheet d) (verified d o (p.proposes o.facts o.goal)) (Err Narrow)

abbrev pub settle : Draft → ℕ → Domain → Prover → Result (Unit {0}) Refusal
settle draft n d p = asked draft.sheet d p (slice_get draft.sheet.obligations n)

abbrev pub mark_if : Result (Unit {0}) Refusal → ℕ → List Bool → List Bool
mark_if (Ok u) n marks = slice_set marks n true
mark_if (Err r) n marks = marks

abbrev pub settled : Draft → ℕ → Domain → Prover → Draft
settled draft n d p = record { sheet = draft.sheet; marks = mark_if (settle draft n d p) n draft.marks }

-- Ready: the first guard from the number k on that is not marked
abbrev pub is_guard : Duty → Bool
is_guard (Check c) = false
is_guard Guard = true

abbrev pub marked : List Bool → Dropped
marked marks n = slice_index_or marks n false

unfoldable pub first_open : ℕ → List Obligation → Dropped → Option Refusal
first_open k [] S = None
first_open k (o ∷ os) S = cond (is_guard o.duty && not (S k)) (Some (Closed k o.place)) (first_open (suc k) os S)

abbrev pub answered : Option Refusal → Result (Unit {0}) Refusal
answered None = Ok tt
answered (Some r) = Err r

abbrev pub readiness : Draft → Result (Unit {0}) Refusal
readiness draft = answered (first_open 0 draft.sheet.obligations (marked draft.marks))

abbrev pub clear : Draft → Book
clear draft = record { sheet = draft.sheet; marks = draft.marks }
