-- Fourier-Motzkin's proposals are certificates of the linear domain.
use Rattle.std.specs.Prelude.{◌≡◌, ℕ, List, take, Some, None, Option}
use Rattle.rows.specs.declared.row.Row.{Row}
use Rattle.domains.specs.Faults.{Good}
use Rattle.domains.specs.Linear.{linear}
use Rattle.provers.specs.Elimination.{fourier_motzkin}

-- every proposal that Fourier-Motzkin makes is good in the linear domain
abbrev pub Proposals-good : Type 0
Proposals-good = (facts : List Row) (goal : Row) (certificate : List ℕ) → fourier_motzkin facts goal ≡ Some certificate → Good (linear facts goal certificate)

-- what was written at the buffer's front, if anything, is good
abbrev pub GoodFront : Option ℕ → List Row → Row → List ℕ → Type 0
GoodFront None facts goal buffer = Unit {0}
GoodFront (Some n) facts goal buffer = Good (linear facts goal (take n buffer))
