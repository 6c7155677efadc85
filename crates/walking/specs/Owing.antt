-- What owing answers: the first fault that the walk notes, or none; and the tables with the obligations that it notes.
use Rattle.std.specs.Prelude.{◌≡◌, ℕ, ◌+◌, ◌≤◌, cond, List, [], ◌∷◌, ◌++◌, length, Some, None, Ok, Err, Result, nat_lt}
use Rattle.language.specs.declared.refusal.Refusal.{Refusal}
use Rattle.rows.specs.declared.row.Row.{Row}
use Rattle.language.specs.declared.term.Term.{Term}
use Rattle.language.specs.Limits.{most_obligations}
use Rattle.language.specs.Walking.{Note, owes, fault, Obligation, Owing, owe_checks, obligations_of, first_fault}
use Rattle.records.specs.declared.laid.Laid.{Laid}
use Rattle.records.specs.Laying.{columns_of, records_of, owed_of}
use Rattle.records.specs.Owing.{OwesAll}

-- there are records for 128 obligations
abbrev pub Spacious : Laid → Type 0
Spacious t = 3200 ≤ length (records_of t)

-- no fault is noted, and the obligations that are noted join those that stood in the tables, which stay otherwise
pub record Pays (o : Owing) (t u : Laid) : Type 0 where
  pub faultless : first_fault o.notes ≡ None
  pub columns : columns_of u ≡ columns_of t
  pub count : owed_of u ≡ o.count
  pub number : owed_of u ≡ owed_of t + length (obligations_of o.notes)
  pub owes : (os : List Obligation) → length os ≡ owed_of t → OwesAll (records_of t) os → OwesAll (records_of u) (os ++ obligations_of o.notes)

-- the obligations that are noted before the first fault
unfoldable pub owed_before : List Note → List Obligation
owed_before [] = []
owed_before (owes o work ∷ ns) = cond (nat_lt o.number most_obligations) (o ∷ owed_before ns) []
owed_before (fault r ∷ ns) = []

-- the first fault that is noted; the obligations before it join those that stood in the tables, which stay otherwise
pub record Breaks (r : Refusal) (notes : List Note) (t u : Laid) : Type 0 where
  pub fault : first_fault notes ≡ Some r
  pub columns : columns_of u ≡ columns_of t
  pub number : owed_of u ≡ owed_of t + length (owed_before notes)
  pub owes : (os : List Obligation) → length os ≡ owed_of t → OwesAll (records_of t) os → OwesAll (records_of u) (os ++ owed_before notes)

abbrev pub Paid : Result (Unit {0}) Refusal → Owing → Laid → Laid → Type 0
Paid (Ok v) o t u = Pays o t u
Paid (Err r) o t u = Breaks r o.notes t u

-- the two checks of an index, at a list's name, with these facts in force and so many obligations
abbrev pub checks : ℕ → ℕ → List Row → ℕ → Term → Term → Owing
checks place work facts count index size = owe_checks (record { place = place; number = 0; list = 0 }) work (record { next = 0; facts = facts; count = count }) index size
