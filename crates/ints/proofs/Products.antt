-- Laws of products of integers.
use Rattle.std.proofs.Common.{◌≡◌, ℕ, suc, ◌*◌, ◌≤◌, ℤ, pos, negsuc, ◌+ℤ◌, ◌*ℤ◌, neg_ℤ, ◌≤ℤ◌, ap, ◌∙◌, ap₂, le_refl, mul_assoc, add-mul, mul-le-mul, mul-le-mul_left, mul-add, arith}
use borrow.Author.Differences.{up, down, neg_is, sum_is_lem, product_is, le_out}
use lib.IntN.{*ℤ_comm}
use Rattle.std.proofs.lemmas.Int.{ints}
use Rattle.ints.specs.Sums.{Near}

pub mul-sum : (a b c : ℤ) → a *ℤ (b +ℤ c) ≡ a *ℤ b +ℤ a *ℤ c
mul-sum a b c =
    let h = simp mul-add at (ap (λ n. up a * n) (sum_is_lem b c)) in
    let k = simp mul-add at (ap (λ n. down a * n) (sum_is_lem b c)) in
    omega (arith, ints)

pub sum-mul : (a b c : ℤ) → (a +ℤ b) *ℤ c ≡ a *ℤ c +ℤ b *ℤ c
sum-mul a b c = *ℤ_comm (a +ℤ b) c ∙ mul-sum c a b ∙ ap₂ (λ x y. x +ℤ y) (*ℤ_comm c a) (*ℤ_comm c b)

pub mul-mul : (a b c : ℤ) → (a *ℤ b) *ℤ c ≡ a *ℤ (b *ℤ c)
mul-mul a b c =
    let p = product_is a b in
    let q = product_is b c in
    let p0 = simp (add-mul, mul_assoc) at (ap (λ n. n * up c) p.0) in
    let p1 = simp (add-mul, mul_assoc) at (ap (λ n. n * down c) p.0) in
    let p2 = simp (add-mul, mul_assoc) at (ap (λ n. n * up c) p.1) in
    let p3 = simp (add-mul, mul_assoc) at (ap (λ n. n * down c) p.1) in
    let q0 = simp (mul-add) at (ap (λ n. up a * n) q.0) in
    let q1 = simp (mul-add) at (ap (λ n. down a * n) q.0) in
    let q2 = simp (mul-add) at (ap (λ n. up a * n) q.1) in
    let q3 = simp (mul-add) at (ap (λ n. down a * n) q.1) in
    omega (arith, ints)

pub mul_mono : (m : ℕ) (a b : ℤ) → a ≤ℤ b → (pos m *ℤ a) ≤ℤ (pos m *ℤ b)
mul_mono m a b h =
    let k = simp mul-add at (mul-le-mul_left m (le_out a b h)) in
    omega (arith, ints)

pub neg-mul : (a b : ℤ) → neg_ℤ a *ℤ b ≡ neg_ℤ (a *ℤ b)
neg-mul a b =
    let n = neg_is a in
    let p = ap (λ k. k * up b) n.0 in
    let r = ap (λ k. k * down b) n.0 in
    let s = ap (λ k. k * up b) n.1 in
    let t = ap (λ k. k * down b) n.1 in
    omega (arith, ints)

times-neg : (m k : ℕ) → pos m *ℤ neg_ℤ (pos k) ≡ neg_ℤ (pos (m * k))
times-neg m k = *ℤ_comm (pos m) (neg_ℤ (pos k)) ∙ neg-mul (pos k) (pos m) ∙ ap neg_ℤ (*ℤ_comm (pos k) (pos m))

pub times-near : (m : ℕ) (z : ℤ) (k : ℕ) → Near k z → Near (m * k) (pos m *ℤ z)
times-near m z k h =
    let a = mul_mono m _ _ h.0 in
    let b = mul_mono m _ _ h.1 in
    let e = times-neg m k in
    (omega (arith, ints), b)

pub product-near : (x y : ℤ) (a b : ℕ) → Near a x → Near b y → Near (a * b) (x *ℤ y)
product-near (pos m) y a b h k =
    let l : m ≤ a = omega (arith, ints) in
    let n = mul-le-mul l (le_refl b) in
    let z = times-near m y b k in
    (omega (arith, ints), omega (arith, ints))
product-near (negsuc m) y a b h k =
    let l : suc m ≤ a = omega (arith, ints) in
    let n = mul-le-mul l (le_refl b) in
    let z = times-near (suc m) y b k in
    let e = neg-mul (pos (suc m)) y in
    (omega (arith, ints), omega (arith, ints))
