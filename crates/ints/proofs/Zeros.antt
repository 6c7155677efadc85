-- What the test for zero says of an integer, and of the bits of one.
use Rattle.std.proofs.Common.{◌≡◌, eqb, ⊎_elim, zero, suc, true, false, ℤ, pos, negsuc, sym, refl, ap, ◌∙◌, pow_pos, SFits, to_z, of_z}
use mir.Syntax.{Width}
use mir.Val.{hbits}
use Rattle.std.proofs.lemmas.Int.{to_z-of_z, to_z_pos}
use Rattle.std.proofs.lemmas.Bool.{cases_eq, ne_eqb}
use Rattle.ints.specs.Tests.{is_zero}

pub zero_is : (z : ℤ) → is_zero z ≡ true → z ≡ pos 0
zero_is (pos zero) h = refl
zero_is (pos (suc n)) h = cc
zero_is (negsuc n) h = cc

pub not-zero : (w : Width) (z : ℤ) → (of_z w z ≡ 0 → ⊥) → is_zero z ≡ false
not-zero w (pos zero) h = absurd (h refl)
not-zero w (pos (suc n)) h = refl
not-zero w (negsuc n) h = refl

pub is-zero : (w : Width) (z : ℤ) → SFits w z → of_z w z ≡ 0 → is_zero z ≡ true
is-zero w z f h = ap is_zero (sym (to_z-of_z w z f) ∙ ap (to_z w) h ∙ to_z_pos w 0 (pow_pos (hbits w)))

-- the code's tests
pub zero_test : (w : Width) (z : ℤ) → SFits w z → eqb (of_z w z) 0 ≡ is_zero z
zero_test w z f =
    ⊎_elim (λ e. ap (λ n. eqb n 0) e ∙ sym (is-zero w z f e)) (λ ne. ne_eqb _ _ ne ∙ sym (not-zero w z ne)) (cases_eq (of_z w z) 0)
