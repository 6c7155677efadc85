-- What is made of a written sheet: what goes into the tables, and how they grow.
use Rattle.std.specs.Prelude.{◌≡◌, ℕ, ◌<◌, List, ◌++◌, map, length}
use Rattle.std.specs.List.{AllByRecursion}
use Rattle.letters.specs.declared.token.Token.{Token}
use Rattle.grammar.specs.Trees.{look_of}
use Rattle.naming.specs.declared.written.Written.{Written}
use Rattle.naming.specs.Sources.{source_of}
use Rattle.language.specs.Tree as Tree
use Rattle.records.specs.declared.condition.Condition.{Condition}
use Rattle.records.specs.declared.condition.Item.{Item}
use Rattle.records.specs.Tables.{condition_in}
use Rattle.records.specs.Standing.{SidesIn}
use Rattle.records.specs.Sound.{Near}
use Rattle.records.specs.Columns.{Columns}

-- a numeral has six digits at most
pub record Small (t : Token) : Type 0 where
  pub value : t.value < 1000000

abbrev pub Fit : Written → Type 0
Fit w = (q : ℕ) → Small (look_of (source_of w) q)

-- a table grew by entries that stand for these
pub record Added {X Y : Type 0} (F : X → Y) (ys : List Y) (xs xs' : List X) : Type 0 where
  pub more : List X
  pub grown : xs' ≡ xs ++ more
  pub stand : map F more ≡ ys

-- the table of conditions grew by entries that stand for these, their items in the table of items, which grew too
pub record Listing (ys : List Tree.Condition) (ds ds' : List Condition) (is is' : List Item) : Type 0 where
  pub more : List Condition
  pub grown : ds' ≡ ds ++ more
  pub items : (xs : List Item) × (is' ≡ is ++ xs)
  pub sides : AllByRecursion (SidesIn (length is')) more
  pub stand : map (condition_in is') more ≡ ys

-- one condition whose items lie in the table of items, which grew
pub record Formed (y : Tree.Condition) (c : Condition) (is is' : List Item) : Type 0 where
  pub items : (xs : List Item) × (is' ≡ is ++ xs)
  pub sides : SidesIn (length is') c
  pub stand : condition_in is' c ≡ y

-- items alone are new, with factors within the limit of terms
pub record ItemsAlone (p q : Columns) : Type 0 where
  pub room : q.items.room ≡ p.items.room
  pub near : Near p.items.entries → Near q.items.entries
  pub rest : q ≡ record p { items = q.items }

-- conditions and items alone are
pub record ConditionsAlone (p q : Columns) : Type 0 where
  pub items : q.items.room ≡ p.items.room
  pub near : Near p.items.entries → Near q.items.entries
  pub room : q.conditions.room ≡ p.conditions.room
  pub rest : q ≡ record p { conditions = q.conditions; items = q.items }

-- parameters alone are
pub record ParamsAlone (p q : Columns) : Type 0 where
  pub room : q.params.room ≡ p.params.room
  pub rest : q ≡ record p { params = q.params }
