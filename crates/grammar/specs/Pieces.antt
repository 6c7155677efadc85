-- An item and a param as they are read.
use Rattle.std.specs.Prelude.{Bool}
use Rattle.grammar.specs.Raw.{Item, Param}
use Rattle.grammar.specs.declared.piece.ItemRead.{ItemRead}
use Rattle.grammar.specs.declared.piece.ParamRead.{ParamRead}

abbrev pub item_of : Bool → ItemRead → Item
item_of m r = record { minus = m; factor = r.factor; atom = r.atom }

abbrev pub param_of : ParamRead → Param
param_of r = record { name = r.name; length = r.length }
