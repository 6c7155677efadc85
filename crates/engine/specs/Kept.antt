-- What every draft keeps: a settled row holds under its facts, for all assignments in the draft's range.
use Rattle.std.specs.Prelude.{◌≡◌, ℕ, ◌<◌, true, Bool, List, ℤ}
use lib.Dec.{T_prop}
use Rattle.rows.specs.declared.row.Kind.{Kind}
use Rattle.rows.specs.declared.row.Kind.TheVariants.{AtMost, Unequal}
use Rattle.rows.specs.Meaning.{Holds, Follows}
use Rattle.language.specs.Walking.{Obligation}
use Rattle.language.specs.Drafts.{marked}
use Rattle.records.specs.declared.record.Record.{Record}
use Rattle.records.specs.Owing.{Owes}

-- an obligation that these records hold, and whose mark is true
pub record Settled (records : List Record) (owed : ℕ) (marks : List Bool) : Type 0 where
  pub number : ℕ
  pub obligation : Obligation
  pub below : number < owed
  pub marked : marked marks number ≡ true
  pub owes : Owes records number obligation

abbrev pub Kept : ℤ → ℤ → List Record → ℕ → List Bool → Type 0
Kept low high records owed marks = (s : Settled records owed marks) → Follows low high s.obligation.facts s.obligation.goal

pub holds_prop : (kind : Kind) (sum bound : ℤ) → IsProp (Holds kind sum bound)
holds_prop AtMost sum bound = hlevel T_prop
holds_prop Unequal sum bound = hlevel
