-- Four slots.
use Rattle.std.specs.Prelude.{List, replicate}

-- the same in each of four slots
abbrev pub four : {A : Type 0} → A → List A
four x = replicate 4 x
