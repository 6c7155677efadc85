-- Histories of a draft: settlings by any domain and any prover, and Readys, in any order; and the plain list that goes with them.
use Rattle.std.specs.Prelude.{ℕ, ◌≤◌, Bool, false, cond, ◌&&◌, ◌||◌, List, [], ◌∷◌, length, pos, ◌≤ℤ◌, is_ok, Some, None, Option, ◌==◌}
use Rattle.std.specs.List.{slice_get}
use Rattle.rows.specs.declared.row.Row.{Row}
use Rattle.rows.specs.Meaning.{Follows}
use Rattle.domains.specs.Faults.{Good}
use Rattle.language.specs.Limits.{longest_proposal}
use Rattle.language.specs.Walking.{Obligation}
use Rattle.language.specs.Drafts.{Sheet, Draft, Domain, Prover, wide, settled}

-- a domain's law: its range holds 0, and where an outcome is good, the goal follows
pub record Lawful (d : Domain) : Type 0 where
  pub range : (d.low ≤ℤ pos 0) × (pos 0 ≤ℤ d.high)
  pub sound : (facts : List Row) (goal : Row) (certificate : List ℕ) → Good (d.outcome facts goal certificate) → Follows d.low d.high facts goal

-- a prover's law: no proposal is longer than the room that it is given
abbrev pub ShortEnough : Option (List ℕ) → Type 0
ShortEnough None = Unit {0}
ShortEnough (Some c) = length c ≤ longest_proposal

pub record Brief (p : Prover) : Type 0 where
  pub short : (facts : List Row) (goal : Row) → ShortEnough (p.proposes facts goal)

-- what is done with a draft: a number is settled by any domain and any prover, or Ready is asked
pub data Step : Type 0 where
  settling : ℕ → (d : Domain) → Lawful d → (p : Prover) → Brief p → Step
  ready : Step

-- a draft after a history of such steps
unfoldable pub draft_after : Draft → List Step → Draft
draft_after draft [] = draft
draft_after draft (settling n d l p b ∷ history) = draft_after (settled draft n d p) history
draft_after draft (ready ∷ history) = draft_after draft history

-- The plain list: a good settling puts its number on it, and nothing else does.
abbrev pub good_proposal : Domain → Obligation → Option (List ℕ) → Bool
good_proposal d o None = false
good_proposal d o (Some c) = is_ok (d.outcome o.facts o.goal c)

abbrev pub good_for : Sheet → Domain → Prover → Option Obligation → Bool
good_for sheet d p None = false
good_for sheet d p (Some o) = wide sheet d && good_proposal d o (p.proposes o.facts o.goal)

abbrev pub good : Sheet → ℕ → Domain → Prover → Bool
good sheet n d p = good_for sheet d p (slice_get sheet.obligations n)

unfoldable pub plain_after : Sheet → List ℕ → List Step → List ℕ
plain_after sheet list [] = list
plain_after sheet list (settling n d l p b ∷ history) = plain_after sheet (cond (good sheet n d p) (n ∷ list) list) history
plain_after sheet list (ready ∷ history) = plain_after sheet list history

unfoldable pub on : List ℕ → ℕ → Bool
on [] n = false
on (m ∷ list) n = m == n || on list n
