-- What walking the rules of the tables answers, and what the tables hold then.
use Rattle.std.specs.Prelude.{◌≡◌, ◌≤◌, List, [], ◌∷◌, length, Some, None, Ok, Err, Result}
use Rattle.std.specs.List.{AllByRecursion}
use Rattle.language.specs.declared.refusal.Refusal.{Refusal}
use Rattle.language.specs.Tree.{Expr, Rule}
use Rattle.language.specs.Walking.{walk_rules, obligations_of, first_fault}
use Rattle.records.specs.declared.laid.Laid.{Laid}
use Rattle.records.specs.Columns.{Columns, tables_by}
use Rattle.records.specs.Laying.{columns_of, records_of, owed_of}
use Rattle.records.specs.Owing.{OwesAll}
use Rattle.records.specs.Rules.{RulesStand}

-- these rules stand in the tables, none with more than 12 parameters
pub record Ruled (c : Columns) (rules : List Rule) : Type 0 where
  pub stand : RulesStand (tables_by c) c.params.entries 0 c.entries.entries rules
  pub few : AllByRecursion (λ (r : Rule). length r.params ≤ 12) rules

-- the rules with other bodies, one for one
unfoldable pub with_bodies : List Rule → List Expr → List Rule
with_bodies [] bs = []
with_bodies (r ∷ rs) [] = []
with_bodies (r ∷ rs) (b ∷ bs) = record { place = r.place; params = r.params; needs = r.needs; gives = r.gives; body = b } ∷ with_bodies rs bs

-- no fault is noted; the bodies stand with their sites numbered, and the tables, which lie in the same records, owe what the rules do
pub record WalkedWell (rules : List Rule) (t u : Laid) : Type 0 where
  pub faultless : first_fault (walk_rules rules 0 rules).notes ≡ None
  pub stand : RulesStand (tables_by (columns_of u)) (columns_of u).params.entries 0 (columns_of u).entries.entries (with_bodies rules (walk_rules rules 0 rules).bodies)
  pub count : owed_of u ≡ length (obligations_of (walk_rules rules 0 rules).notes)
  pub owes : OwesAll (records_of u) (obligations_of (walk_rules rules 0 rules).notes)
  pub entries : (columns_of u).entries ≡ (columns_of t).entries
  pub lender : (columns_of u).lender ≡ (columns_of t).lender

abbrev pub Walked : Result (Unit {0}) Refusal → List Rule → Laid → Laid → Type 0
Walked (Ok v) rules t u = WalkedWell rules t u
Walked (Err r) rules t u = first_fault (walk_rules rules 0 rules).notes ≡ Some r
