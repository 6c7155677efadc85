-- Numbers that lie within a limit.
use Rattle.std.proofs.Common.{◌≡◌, Bool, List, [], ◌∷◌, ◌&&◌, ℤ, refl, ap}
use Rattle.std.specs.List.{list_all}
use Rattle.ints.specs.Tests.{within, all_within}

pub all_within_is : (limit : ℤ) (zs : List ℤ) → all_within limit zs ≡ list_all (within limit) zs
unfolding all_within
all_within_is limit [] = refl
all_within_is limit (z ∷ zs) = ap (λ (b : Bool). within limit z && b) (all_within_is limit zs)
