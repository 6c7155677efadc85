-- What a pile holds, and how much it can hold.
use Rattle.std.specs.Prelude.{ℕ, List, length, take}
use Rattle.pile.specs.declared.Pile.{Pile}

-- the entries, the first pushed first
abbrev pub entries : {T : Type 0} → Pile T → List T
entries p = take p.len p.slots.now

abbrev pub room : {T : Type 0} → Pile T → ℕ
room p = length p.slots.now

-- whose slots they are
abbrev pub lender : {T : Type 0} → Pile T → ℕ
lender p = p.slots.ghost_name
