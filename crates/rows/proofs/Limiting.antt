-- What the limits of a row give.
use Rattle.std.proofs.Common.{◌≡◌, ℕ, zero, suc, Bool, true, ◌&&◌, List, [], ◌∷◌, get_or, ℤ, pos, negsuc, refl, ap, arith}
use lib.Signed.{le_z}
use Rattle.std.proofs.lemmas.Int.{ints}
use Rattle.std.proofs.lemmas.Bool.{and_parts}
use Rattle.ints.specs.Sums.{Near}
use Rattle.ints.specs.Tests.{within, all_within}
use Rattle.rows.specs.declared.row.Row.{Row}
use Rattle.rows.specs.Limits.{small, all_small}
use Rattle.rows.specs.Meaning.{coef}

pub small_is : (z : ℤ) → small z ≡ true → Near 4000000 z
small_is z h = let p = and_parts (le_z (negsuc 3999999) z) (le_z z (pos 4000000)) h in (omega (arith, ints), omega (arith, ints))

small_at : (zs : List ℤ) (j : ℕ) → all_small zs ≡ true → Near 4000000 (get_or zs j (pos 0))
unfolding all_small
small_at [] j h = (omega (arith, ints), omega (arith, ints))
small_at (z ∷ zs) zero h = small_is z (and_parts _ _ h).0
small_at (z ∷ zs) (suc j) h = small_at zs j (and_parts _ _ h).1

pub coef-near : (r : Row) (j : ℕ) → Near 4000000 (coef r j)
coef-near r j = small_at r.coefs j (and_parts (small r.bound) (all_small r.coefs) r.ok).1

pub bound-near : (r : Row) → Near 4000000 r.bound
bound-near r = small_is r.bound (and_parts (small r.bound) (all_small r.coefs) r.ok).0

-- the limit of rows as a limit that is given
pub within_small : (zs : List ℤ) → all_within (pos 4000000) zs ≡ all_small zs
unfolding all_within all_small
within_small [] = refl
within_small (z ∷ zs) = ap (λ (b : Bool). within (pos 4000000) z && b) (within_small zs)
