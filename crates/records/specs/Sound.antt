-- Tables whose sides can be added up.
use Rattle.std.specs.Prelude.{◌≡◌, ◌≤◌, true, List, length}
use Rattle.std.specs.List.{AllByRecursion}
use Rattle.language.specs.Terms.{near}
use Rattle.records.specs.declared.condition.Item.{Item}
use Rattle.records.specs.Columns.{Columns}
use Rattle.records.specs.Standing.{SidesIn}

-- each item has a factor within the limit of terms
abbrev pub Near : List Item → Type 0
Near items = AllByRecursion (λ (i : Item). near i.factor ≡ true) items

-- no more items than a total takes, each with a factor within the limit of terms
pub record Takable (items : List Item) : Type 0 where
  pub few : length items ≤ 16384
  pub near : Near items

-- items can be taken, and the sides of each condition lie among them
pub record Sound (c : Columns) : Type 0 where
  pub items : Takable c.items.entries
  pub sides : AllByRecursion (SidesIn (length c.items.entries)) c.conditions.entries
