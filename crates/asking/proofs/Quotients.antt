-- A multiple divided by its factor.
use Rattle.std.proofs.Common.{◌≡◌, ℕ, suc, ◌-◌, ◌*◌, ◌/◌, ◌<◌, ℤ, pos, negsuc, ◌*ℤ◌, neg_ℤ, ap, ◌∙◌, mul-suc, arith}
use native.Mathlib.Nat.{mul-div_cancel_left}
use Rattle.std.proofs.lemmas.Int.{ints}
use Rattle.provers.specs.Derivations.{quotient}

negative : (n : ℕ) → 0 < n → neg_ℤ (pos n) ≡ negsuc (n - 1)
negative n h = omega (arith, ints)

pub exact : (g : ℕ) (y z : ℤ) → 0 < g → z ≡ pos g *ℤ y → quotient g z ≡ y
exact g (pos k) z h e = ap (quotient g) e ∙ ap pos (mul-div_cancel_left k h)
exact g (negsuc k) z h e =
    let n : 0 < g * suc k = omega (arith, mul-suc g k) in
    let s : suc (g * suc k - 1) ≡ g * suc k = omega arith in
    ap (quotient g) (e ∙ negative (g * suc k) n) ∙ ap (λ x. neg_ℤ (pos (x / g))) s ∙ ap (λ x. neg_ℤ (pos x)) (mul-div_cancel_left (suc k) h)
