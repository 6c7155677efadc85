-- What a call that pushes rows leaves of a work list.
use Rattle.std.specs.Prelude.{List, Ok, Err, Some, None, Option, Result}
use Rattle.provers.specs.declared.derived.Derived.{Derived}
use Rattle.provers.specs.declared.worklist.PastLimit.{PastLimit}

-- the list, where the call said that it is whole
abbrev pub answered : Result (Unit {0}) PastLimit → List Derived → Option (List Derived)
answered (Ok _) rows = Some rows
answered (Err _) rows = None
