-- What walking one rule's body answers.
use Rattle.std.specs.Prelude.{◌≡◌, ℕ, ◌+◌, ◌≤◌, List, ◌++◌, length, Some, None, Ok, Err, Result}
use Rattle.language.specs.declared.refusal.Refusal.{Refusal}
use Rattle.language.specs.Tree.{Rule}
use Rattle.language.specs.Walking.{Obligation, Known, Got, start_known, walk_body, obligations_of, first_fault}
use Rattle.records.specs.declared.entry.Entry.{Entry}
use Rattle.records.specs.declared.laid.Laid.{Laid}
use Rattle.records.specs.Columns.{tables_by}
use Rattle.records.specs.Laying.{columns_of, records_of, owed_of}
use Rattle.records.specs.Owing.{OwesAll}
use Rattle.records.specs.Rules.{RuleStands}
use Rattle.records.specs.Standing.{Stands}
use Rattle.walking.specs.Inferring.{HeadsIn}
use Rattle.walking.specs.Stepping.{Within}

-- no fault is noted, the body stands with its sites numbered, and the obligations that are noted join those that stood in the tables
pub record BodyWalked (k : Known) (g : Got) (lo at : ℕ) (t u : Laid) : Type 0 where
  pub faultless : first_fault (k.notes ++ g.notes) ≡ None
  pub tree : Stands (tables_by (columns_of u)) lo at g.tree
  pub columns : Within lo at (columns_of t) (columns_of u)
  pub count : owed_of u ≡ g.stand.count
  pub number : owed_of u ≡ owed_of t + length (obligations_of (k.notes ++ g.notes))
  pub owes : (os : List Obligation) → length os ≡ owed_of t → OwesAll (records_of t) os → OwesAll (records_of u) (os ++ obligations_of (k.notes ++ g.notes))

abbrev pub Bodied : Result (Unit {0}) Refusal → Known → Got → ℕ → ℕ → Laid → Laid → Type 0
Bodied (Ok v) k g lo at t u = BodyWalked k g lo at t u
Bodied (Err r) k g lo at t u = first_fault (k.notes ++ g.notes) ≡ Some r

-- of each rule that stands at an entry, its body was walked
abbrev pub RuleWalked : Result (Unit {0}) Refusal → Entry → Laid → Laid → Type 0
RuleWalked result e t u =
    (R : List Rule) (lo : ℕ) (r : Rule) → HeadsIn (columns_of t) R → RuleStands (tables_by (columns_of t)) (columns_of t).params.entries lo e r → length (columns_of t).nodes.entries ≤ 16384
    → Bodied result (start_known r) (walk_body R (owed_of t) r) lo e.body t u
