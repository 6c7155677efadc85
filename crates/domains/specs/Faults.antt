-- Outcomes of a domain: good, or a fault with a reason and a depth.
use Rattle.std.specs.Prelude.{ℕ, ◌+◌, min, List, ◌++◌, Ok, Err, codes, decimal, Result}
use Rattle.domains.specs.declared.fault.Fault.{Fault}
use Rattle.domains.specs.declared.fault.Reason.{Reason}
use Rattle.domains.specs.declared.fault.Reason.TheVariants.{Shape, Number, Kind, Width, Sum, Case}

abbrev pub number : Reason → ℕ
number Shape = 1
number Number = 2
number Kind = 3
number Width = 4
number Sum = 5
number Case = 6

abbrev pub word : Reason → List ℕ
word Shape = codes "shape"
word Number = codes "number"
word Kind = codes "kind"
word Width = codes "width"
word Sum = codes "sum"
word Case = codes "case"

abbrev pub Outcome : Type 0
Outcome = Result (Unit {0}) Fault

abbrev pub Good : Outcome → Type 0
Good (Ok _) = Unit {0}
Good (Err _) = ⊥

-- a fault of the domain asked
abbrev pub fault_of : Reason → Fault
fault_of reason = record { reason = reason; depth = 0 }

abbrev pub fault : Reason → Outcome
fault reason = Err (fault_of reason)

-- a fault of the domain below, as a layer passes it up
abbrev pub deeper : Fault → Fault
deeper f = record { reason = f.reason; depth = min (f.depth + 1) 255 }

-- an outcome of the domain below, as a layer passes it up
abbrev pub raised : Outcome → Outcome
raised (Ok u) = Ok u
raised (Err f) = Err (deeper f)

-- how a fault is written: `5 sum depth 0`
abbrev pub written : Fault → List ℕ
written f = decimal (number f.reason) ++ (codes " " ++ (word f.reason ++ (codes " depth " ++ decimal f.depth)))
