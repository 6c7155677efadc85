-- The limits of a row: no coefficient or bound past ±4,000,000.
use Rattle.std.specs.Prelude.{Bool, true, ◌&&◌, List, [], ◌∷◌, ℤ, pos, negsuc, int_le}

abbrev pub small : ℤ → Bool
small z = int_le (negsuc 3999999) z && int_le z (pos 4000000)

unfoldable pub all_small : List ℤ → Bool
all_small [] = true
all_small (z ∷ zs) = small z && all_small zs

abbrev pub fits : List ℤ → ℤ → Bool
fits coefs bound = small bound && all_small coefs
