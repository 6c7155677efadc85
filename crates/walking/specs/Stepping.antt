-- Where a rule's walk stands, and how it steps on: what it notes, what it owes, and which nodes it renumbers.
use Rattle.std.specs.Prelude.{◌≡◌, ℕ, ◌+◌, ◌<◌, ◌⊎◌, List, ◌++◌, length, take, Some, None, Ok, Err, Result, slice_set}
use Rattle.std.specs.List.{slice_get}
use Rattle.rows.specs.declared.row.Row.{Row}
use Rattle.language.specs.declared.refusal.Refusal.{Refusal}
use Rattle.language.specs.declared.term.Term.{Term}
use Rattle.language.specs.Walking.{Note, Obligation, Stand, Scope, Found, Owing, Known, counted, knowing, obligations_of, first_fault}
use Rattle.pile.specs.Entries.{entries, room}
use Rattle.records.specs.declared.node.Node.{Node}
use Rattle.records.specs.declared.node.Node.TheVariants.{Blank, Num, Name, Calc, Read, Call, Bind, Test, Put, Claim, End, Value, Lent}
use Rattle.records.specs.Columns.{Columns}
use Rattle.records.specs.Laying.{columns_of, records_of, owed_of}
use Rattle.records.specs.Owing.{OwesAll}
use Rattle.walking.specs.declared.walker.Walker.{Walker}
use Rattle.records.specs.Sound.{Sound}
use Rattle.walking.specs.Sides.{Fitting}

-- the facts in force, the terms of the names and lengths, and where the walk stands
abbrev pub facts_of : Walker → List Row
facts_of w = entries w.facts.now.pile

abbrev pub scope_of : Walker → Scope
scope_of w = record { names = entries w.names.now; lengths = w.lengths.now }

abbrev pub stand_of : Walker → Stand
stand_of w = record { next = w.next; facts = facts_of w; count = owed_of w.debts.now.tables.now }

-- what every step asks for and keeps: sound tables, and terms within their limits
pub record Sure (w : Walker) : Type 0 where
  pub sound : Sound (columns_of w.debts.now.tables.now)
  pub names : Fitting (entries w.names.now)
  pub lengths : Fitting w.lengths.now

-- what every step keeps: the names in force, their room, the lengths, whose tables they are, and the facts, which others join
pub record Kept (w v : Walker) : Type 0 where
  pub scope : scope_of v ≡ scope_of w
  pub names_room : room v.names.now ≡ room w.names.now
  pub lender : v.debts.now.tables.ghost_name ≡ w.debts.now.tables.ghost_name
  pub debts : v.debts.ghost_name ≡ w.debts.ghost_name
  pub facts : (more : List Row) × (facts_of v ≡ facts_of w ++ more)
  pub sure : Sure v

-- of the tables, nodes from one position to another alone may have changed
pub record Within (lo hi : ℕ) (p q : Columns) : Type 0 where
  pub nodes : (k : ℕ) → (k < lo) ⊎ (hi < k) → slice_get q.nodes.entries k ≡ slice_get p.nodes.entries k
  pub count : length q.nodes.entries ≡ length p.nodes.entries
  pub rest : q ≡ record p { nodes = q.nodes }

-- no fault is noted, the walk stands there, the obligations that are noted join those that stood in the tables, and nodes from one position to another alone may have changed
pub record Step (lo hi : ℕ) (notes : List Note) (s : Stand) (w v : Walker) : Type 0 where
  pub faultless : first_fault notes ≡ None
  pub stand : stand_of v ≡ s
  pub kept : Kept w v
  pub columns : Within lo hi (columns_of w.debts.now.tables.now) (columns_of v.debts.now.tables.now)
  pub number : owed_of v.debts.now.tables.now ≡ owed_of w.debts.now.tables.now + length (obligations_of notes)
  pub owes : (os : List Obligation) → length os ≡ owed_of w.debts.now.tables.now → OwesAll (records_of w.debts.now.tables.now) os → OwesAll (records_of v.debts.now.tables.now) (os ++ obligations_of notes)

-- the walk stepped on, or refuses with the first fault that is noted
abbrev pub Stepped : Result (Unit {0}) Refusal → ℕ → ℕ → List Note → Stand → Walker → Walker → Type 0
Stepped (Ok u) lo hi notes s w v = Step lo hi notes s w v
Stepped (Err r) lo hi notes s w v = first_fault notes ≡ Some r

-- obligations were owed, or rows taken as facts, without a change of nodes; or the first fault refuses
abbrev pub Owed : Result (Unit {0}) Refusal → Owing → Walker → Walker → Type 0
Owed (Ok u) o w v = (lo hi : ℕ) → Step lo hi o.notes (counted (stand_of w) o.count) w v
Owed (Err r) o w v = first_fault o.notes ≡ Some r

abbrev pub Assumed : Result (Unit {0}) Refusal → Known → Walker → Walker → Type 0
Assumed (Ok u) k w v = (lo hi : ℕ) → Step lo hi k.notes (knowing (stand_of w) k.facts) w v
Assumed (Err r) k w v = first_fault k.notes ≡ Some r

-- a node with another number of its check below
abbrev pub numbered : Node → ℕ → Node
numbered Blank n = Blank
numbered (Num p v) n = Num p v
numbered (Name p i) n = Name p i
numbered (Calc p o a b) n = Calc p o a b
numbered (Read p m l a) n = Read p n l a
numbered (Call p f a) n = Call p f a
numbered (Bind p a b) n = Bind p a b
numbered (Test p c a b d e) n = Test p c a b d e
numbered (Put p q m l a b e) n = Put p q n l a b e
numbered (Claim p a s) n = Claim p a s
numbered End n = End
numbered (Value a b) n = Value a b
numbered (Lent l b) n = Lent l b

-- obligations were owed, and one node is another
pub record Touching (at : ℕ) (node : Node) (o : Owing) (w v : Walker) : Type 0 where
  pub step : Step at at o.notes (counted (stand_of w) o.count) w v
  pub nodes : (columns_of v.debts.now.tables.now).nodes.entries ≡ slice_set (columns_of w.debts.now.tables.now).nodes.entries at node

abbrev pub Touched : Result (Unit {0}) Refusal → ℕ → Node → Owing → Walker → Walker → Type 0
Touched (Ok u) at node o w v = Touching at node o w v
Touched (Err r) at node o w v = first_fault o.notes ≡ Some r

-- all but the names is the same
pub record Beside (w v : Walker) : Type 0 where
  pub tables : v.debts.now.tables.now ≡ w.debts.now.tables.now
  pub lender : v.debts.now.tables.ghost_name ≡ w.debts.now.tables.ghost_name
  pub debts : v.debts.ghost_name ≡ w.debts.ghost_name
  pub facts : facts_of v ≡ facts_of w
  pub lengths : v.lengths.now ≡ w.lengths.now
  pub next : v.next ≡ w.next
  pub names_room : room v.names.now ≡ room w.names.now

-- the facts and the next quantity are those of a mark, and the rest is the same
pub record Fallen (facts next : ℕ) (w v : Walker) : Type 0 where
  pub tables : v.debts.now.tables.now ≡ w.debts.now.tables.now
  pub lender : v.debts.now.tables.ghost_name ≡ w.debts.now.tables.ghost_name
  pub debts : v.debts.ghost_name ≡ w.debts.ghost_name
  pub taken : facts_of v ≡ take facts (facts_of w)
  pub begun : v.next ≡ next
  pub scope : scope_of v ≡ scope_of w
  pub names_room : room v.names.now ≡ room w.names.now

-- a term was found so, without a change of nodes; or the first fault refuses
pub record Finding (t : Term) (f : Found) (w v : Walker) : Type 0 where
  pub term : t ≡ f.term
  pub step : (lo hi : ℕ) → Step lo hi f.notes f.stand w v

abbrev pub Finds : Result Term Refusal → Found → Walker → Walker → Type 0
Finds (Ok t) f w v = Finding t f w v
Finds (Err r) f w v = first_fault f.notes ≡ Some r
