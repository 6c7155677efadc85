-- The law of Fourier-Motzkin: it proposes a multiplier for each fact and one for the goal, or nothing.
use Rattle.std.specs.Prelude.{◌≡◌, ℕ, ◌+◌, ◌≤◌, Bool, true, false, cond, List, take, Some, None, Option, refl}
use Rattle.std.proofs.Common.{arith}
use Rattle.std.proofs.lemmas.List.{length-take}
use Rattle.provers.specs.Elimination.{bind}
use Rattle.provers.specs.Proposals.{Short}

pub short-if : (n : ℕ) (b : Bool) (o : Option (List ℕ)) → (b ≡ true → n ≤ 24) → Short (cond b (bind o (λ times. Some (take (n + 1) times))) None)
short-if n false o h = tt
short-if n true None h = tt
short-if n true (Some times) h = let l = h refl in omega (arith, length-take (n + 1) times)
