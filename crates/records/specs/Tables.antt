-- The tables that a sheet lies in, and what their entries stand for: items, conditions and parameters.
use Rattle.std.specs.Prelude.{ℕ, ◌-◌, List, map, take, drop}
use Rattle.language.specs.Tree as Tree
use Rattle.records.specs.declared.node.Node.{Node}
use Rattle.records.specs.declared.condition.Atom.{Atom}
use Rattle.records.specs.declared.condition.Atom.TheVariants.{One, Named, TheResult}
use Rattle.records.specs.declared.condition.Item.{Item}
use Rattle.records.specs.declared.condition.Condition.{Condition}
use Rattle.records.specs.declared.entry.Param.{Param}
use Rattle.records.specs.declared.entry.Param.TheVariants as Params

pub record Tables : Type 0 where
  pub nodes : List Node
  pub conditions : List Condition
  pub items : List Item

-- the entries from one position up to another
abbrev pub stretch : {A : Type 0} → List A → ℕ → ℕ → List A
stretch xs from to = take (to - from) (drop from xs)

abbrev pub atom_of : Atom → Tree.Atom
atom_of One = Tree.one
atom_of (Named i) = Tree.named i
atom_of TheResult = Tree.result

abbrev pub item_of : Item → Tree.Item
item_of i = record { factor = i.factor; atom = atom_of i.atom }

unfoldable pub side_in : List Item → ℕ → ℕ → Tree.Side
side_in items from to = map item_of (stretch items from to)

abbrev pub condition_in : List Item → Condition → Tree.Condition
condition_in items c = record {
  place = c.place;
  left = side_in items c.left.from c.left.to;
  comparison = c.comparison;
  right = side_in items c.right.from c.right.to;
}

unfoldable pub conditions_in : List Item → List Condition → ℕ → ℕ → List Tree.Condition
conditions_in items conditions from to = map (condition_in items) (stretch conditions from to)

abbrev pub param_of : Param → Tree.Param
param_of Params.Number = Tree.a_number
param_of Params.List = Tree.a_list
