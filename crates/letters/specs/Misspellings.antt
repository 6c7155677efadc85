-- The place of a misspelling: 0 for a text that is too long.
use Rattle.std.specs.Prelude.{ℕ}
use Rattle.letters.specs.declared.misspelt.Misspelt.{Misspelt}
use Rattle.letters.specs.declared.misspelt.Misspelt.TheVariants.{Length, Letter, Brackets}

abbrev pub place_of : Misspelt → ℕ
place_of Length = 0
place_of (Letter i) = i
place_of (Brackets i) = i
