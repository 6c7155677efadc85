-- Who is called: the rule with a number, if it takes the arguments that stand at a position.
use Rattle.std.specs.Prelude.{◌≡◌, ℕ, Bool, true, false, map, Some, None, Option}
use Rattle.std.specs.List.{slice_get}
use Rattle.language.specs.Tree.{Args, shape}
use Rattle.language.specs.Walking.{same_params}
use Rattle.records.specs.declared.node.Node.{Node}
use Rattle.records.specs.declared.node.Node.TheVariants.{End, Value, Lent}
use Rattle.records.specs.declared.entry.Param.{Param}
use Rattle.records.specs.declared.entry.Param.TheVariants as Params
use Rattle.records.specs.declared.entry.Entry.{Entry}
use Rattle.records.specs.declared.stretch.Stretch.{Stretch}
use Rattle.records.specs.Columns.{Columns, tables_by}
use Rattle.records.specs.Standing.{ArgsStand}
use Rattle.records.specs.Tables.{stretch, param_of}

-- where arguments go on after the first, if that is what a parameter asks for
abbrev pub after : Option Node → Param → Option ℕ
after (Some (Value a b)) Params.Number = Some b
after (Some (Lent l b)) Params.List = Some b
after o p = None

-- no arguments are left
abbrev pub is_end : Option Node → Bool
is_end (Some End) = true
is_end o = false

-- the answer is whether arguments that stand there are what these parameters ask for
abbrev pub SameParams : Bool → Columns → ℕ → Stretch → Type 0
SameParams b c args params = (lo : ℕ) (es : Args) → ArgsStand (tables_by c) lo args es → b ≡ same_params (shape es) (map param_of (stretch c.params.entries params.from params.to))

-- an entry that takes them is given, or none does
pub record Callee (e : Entry) (c : Columns) (rule args : ℕ) : Type 0 where
  pub is : slice_get c.entries.entries rule ≡ Some e
  pub takes : SameParams true c args e.params

pub record NoCallee (c : Columns) (rule args : ℕ) : Type 0 where
  pub none : (e : Entry) → slice_get c.entries.entries rule ≡ Some e → (lo : ℕ) (es : Args) → ArgsStand (tables_by c) lo args es → SameParams false c args e.params

abbrev pub CalleeOf : Option Entry → Columns → ℕ → ℕ → Type 0
CalleeOf (Some e) c rule args = Callee e c rule args
CalleeOf None c rule args = NoCallee c rule args
