-- What inferring and checking answer of an expression that stands in the tables: the definition's term, stand, notes and numbered tree.
use Rattle.std.specs.Prelude.{◌≡◌, ℕ, suc, ◌+◌, ◌≤◌, List, [], ◌∷◌, ◌++◌, map, length, take, Some, Ok, Err, Option, Result}
use Rattle.language.specs.declared.refusal.Refusal.{Refusal}
use Rattle.language.specs.declared.term.Term.{Term}
use Rattle.language.specs.Tree as Tree
use Rattle.language.specs.Tree.{Expr, Args, Rule, shape}
use Rattle.language.specs.Walking.{Got, Gots, Mode, Scope, Stand, infer, check, walk, walks, assume, knowing, counted, first_fault}
use Rattle.rows.specs.declared.row.Row.{Row}
use Rattle.pile.specs.Entries.{entries, room}
use Rattle.pile.specs.declared.Pile.{Pile}
use Rattle.records.specs.declared.entry.Entry.{Entry}
use Rattle.records.specs.declared.stretch.Stretch.{Stretch}
use Rattle.records.specs.Columns.{Columns, tables_by}
use Rattle.records.specs.Laying.{columns_of}
use Rattle.records.specs.Standing.{Stands, ArgsStand}
use Rattle.records.specs.Tables.{stretch, param_of, conditions_in}
use Rattle.walking.specs.declared.walker.Walker.{Walker}
use Rattle.walking.specs.declared.walker.Promise.{Promise}
use Rattle.walking.specs.Stepping.{scope_of, stand_of, Step}

abbrev pub listed_in : Columns → Stretch → List Tree.Condition
listed_in c s = conditions_in c.items.entries c.conditions.entries s.from s.to

-- an entry says of a rule what a call asks of it
pub record HeadOf (c : Columns) (e : Entry) (r : Rule) : Type 0 where
  pub params : map param_of (stretch c.params.entries e.params.from e.params.to) ≡ r.params
  pub few : length r.params ≤ 12
  pub needs : listed_in c e.needs ≡ r.needs
  pub gives : listed_in c e.gives ≡ r.gives

-- the entries say so of the rules, one for one
abbrev pub Heads : Columns → List Entry → List Rule → Type 0
Heads c [] [] = Unit {0}
Heads c [] (r ∷ rs) = ⊥
Heads c (e ∷ es) [] = ⊥
Heads c (e ∷ es) (r ∷ rs) = HeadOf c e r × Heads c es rs

abbrev pub HeadsIn : Columns → List Rule → Type 0
HeadsIn c R = Heads c c.entries.entries R

-- the term is the definition's, the walk stepped on as it does, and the tree stands numbered
pub record Inferring (t : Term) (g : Got) (lo at : ℕ) (w v : Walker) : Type 0 where
  pub term : t ≡ g.term
  pub step : Step lo at g.notes g.stand w v
  pub tree : Stands (tables_by (columns_of v.debts.now.tables.now)) lo at g.tree

abbrev pub Inferred : Result Term Refusal → Got → ℕ → ℕ → Walker → Walker → Type 0
Inferred (Ok t) g lo at w v = Inferring t g lo at w v
Inferred (Err r) g lo at w v = first_fault g.notes ≡ Some r

abbrev pub Infers : Result Term Refusal → ℕ → Walker → Walker → Type 0
Infers result at w v =
    (R : List Rule) (lo : ℕ) (e : Expr) → HeadsIn (columns_of w.debts.now.tables.now) R → Stands (tables_by (columns_of w.debts.now.tables.now)) lo at e
    → Inferred result (walk R infer (scope_of w) (stand_of w) e) lo at w v

-- two expressions, one after the other
pub record Pairing (t u : Term) (g h : Got) (lo a b : ℕ) (w v : Walker) : Type 0 where
  pub left : t ≡ g.term
  pub right : u ≡ h.term
  pub step : Step lo b (g.notes ++ h.notes) h.stand w v
  pub left_tree : Stands (tables_by (columns_of v.debts.now.tables.now)) lo a g.tree
  pub right_tree : Stands (tables_by (columns_of v.debts.now.tables.now)) (suc a) b h.tree

abbrev pub Paired : Result (Term × Term) Refusal → Got → Got → ℕ → ℕ → ℕ → Walker → Walker → Type 0
Paired (Ok (t, u)) g h lo a b w v = Pairing t u g h lo a b w v
Paired (Err r) g h lo a b w v = first_fault (g.notes ++ h.notes) ≡ Some r

abbrev pub Pairs : Result (Term × Term) Refusal → ℕ → ℕ → Walker → Walker → Type 0
Pairs result a b w v =
    (R : List Rule) (lo : ℕ) (x y : Expr) → HeadsIn (columns_of w.debts.now.tables.now) R → Stands (tables_by (columns_of w.debts.now.tables.now)) lo a x → Stands (tables_by (columns_of w.debts.now.tables.now)) (suc a) b y
    → Paired result (walk R infer (scope_of w) (stand_of w) x) (walk R infer (scope_of w) (walk R infer (scope_of w) (stand_of w) x).stand y) lo a b w v

-- the terms of arguments joined those given before
pub record Giving (g : Gots) (lo at : ℕ) (before after : Pile Term) (w v : Walker) : Type 0 where
  pub terms : entries after ≡ entries before ++ g.terms
  pub step : Step lo at g.notes g.stand w v
  pub tree : ArgsStand (tables_by (columns_of v.debts.now.tables.now)) lo at g.tree

abbrev pub Given : Result (Unit {0}) Refusal → Gots → ℕ → ℕ → Pile Term → Pile Term → Walker → Walker → Type 0
Given (Ok u) g lo at before after w v = Giving g lo at before after w v
Given (Err r) g lo at before after w v = first_fault g.notes ≡ Some r

abbrev pub Gives : Result (Unit {0}) Refusal → ℕ → Pile Term → Pile Term → Walker → Walker → Type 0
Gives result at before after w v =
    (R : List Rule) (lo : ℕ) (es : Args) → HeadsIn (columns_of w.debts.now.tables.now) R → ArgsStand (tables_by (columns_of w.debts.now.tables.now)) lo at es → length (entries before) + length (shape es) ≤ room before
    → Given result (walks R (scope_of w) (stand_of w) es) lo at before after w v

-- checked against a promise
pub record Checking (g : Got) (lo at : ℕ) (w v : Walker) : Type 0 where
  pub step : Step lo at g.notes g.stand w v
  pub tree : Stands (tables_by (columns_of v.debts.now.tables.now)) lo at g.tree

abbrev pub Checked : Result (Unit {0}) Refusal → Got → ℕ → ℕ → Walker → Walker → Type 0
Checked (Ok u) g lo at w v = Checking g lo at w v
Checked (Err r) g lo at w v = first_fault g.notes ≡ Some r

-- the mode of a promise, and that of inferring
abbrev pub mode_of : Promise → Walker → Mode
mode_of p w = check (take p.names (entries w.names.now)) (listed_in (columns_of w.debts.now.tables.now) p.conditions)

abbrev pub plain : Mode
plain = infer

abbrev pub Checks : Result (Unit {0}) Refusal → Mode → ℕ → Walker → Walker → Type 0
Checks result m at w v =
    (R : List Rule) (lo : ℕ) (e : Expr) → HeadsIn (columns_of w.debts.now.tables.now) R → Stands (tables_by (columns_of w.debts.now.tables.now)) lo at e
    → Checked result (walk R m (scope_of w) (stand_of w) e) lo at w v

-- a branch with these rows as facts, and then back to the facts and quantities before it
abbrev pub branch : List Rule → Mode → Scope → ℕ → Stand → List (Option Row) → Expr → Got
branch R m Γ place s rows e =
    let k = assume place s.facts rows in
    let x = walk R m Γ (knowing s k.facts) e in
    record { term = x.term; stand = counted s x.stand.count; notes = k.notes ++ x.notes; tree = x.tree }

abbrev pub Branches : Result (Unit {0}) Refusal → Mode → ℕ → List (Option Row) → ℕ → Walker → Walker → Type 0
Branches result m place rows at w v =
    (R : List Rule) (lo : ℕ) (e : Expr) → HeadsIn (columns_of w.debts.now.tables.now) R → Stands (tables_by (columns_of w.debts.now.tables.now)) lo at e
    → Checked result (branch R m (scope_of w) place (stand_of w) rows e) lo at w v
