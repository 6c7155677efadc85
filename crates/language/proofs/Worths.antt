-- What terms are worth, and that they are worth the same at assignments that agree on what they mention.
use Rattle.std.proofs.Common.{◌≡◌, ℕ, zero, suc, ◌<◌, ◌≤◌, Bool, true, false, cond, eqb, List, [], ◌∷◌, ◌++◌, map, get_or, ℤ, pos, ◌+ℤ◌, ◌-ℤ◌, ◌*ℤ◌, neg_ℤ, Some, None, sym, refl, ap, ◌∙◌, ap₂, ⊎_elim, le_trans, zero-add, arith}
use lib.IntN.{zero-*ℤ, *ℤ-zero, *ℤ-one, *ℤ_comm}
use Rattle.std.proofs.lemmas.List.FromFn.{get_or-map-range_with_len}
use Rattle.std.proofs.lemmas.Int.{ints}
use Rattle.std.proofs.lemmas.Bool.{eq-eqb, ne_eqb, eqb-true, cases_eq}
use Rattle.ints.specs.Sums.{sum_to}
use Rattle.ints.proofs.Products.{mul-sum, mul-mul}
use Rattle.ints.proofs.Sums.{sum_same, at_sum, at-neg, at-zeros, at_none}
use Rattle.rows.specs.Meaning.{Assignment}
use Rattle.language.specs.declared.term.Term.{Term}
use Rattle.language.specs.declared.operator.Operator.{Operator}
use Rattle.language.specs.declared.operator.Operator.TheVariants.{Sum, Difference, Product}
use Rattle.language.specs.Vocabulary.{reckoned}
use Rattle.language.specs.Terms.{coef_of, each, constant, quantity, plus, minus, scaled, worth, term_at, fits_term, is_constant, limited, worked}

pub each_at : (f : ℕ → ℤ) (j : ℕ) → j < 16 → get_or (each f) j (pos 0) ≡ f j
unfolding each
each_at f j h = get_or-map-range_with_len f 0 16 j j (pos 0) h (zero-add j)

pub each-sum : (q : Assignment) (f : ℕ → ℤ) → sum_to (λ j. get_or (each f) j (pos 0) *ℤ q j) 16 ≡ sum_to (λ j. f j *ℤ q j) 16
each-sum q f = sum_same _ _ 16 (λ j h. ap (λ (x : ℤ). x *ℤ q j) (each_at f j h))

pub worth-constant : (q : Assignment) (z : ℤ) → worth q (constant z) ≡ z
unfolding worth constant
worth-constant q z =
    let e = each-sum q (λ j. pos 0) ∙ at_none q 16 in
    omega (arith, ints)

-- the coefficients of a quantity n are 0 but for one
unit-other : (q : Assignment) (n j : ℕ) → (j ≡ n → ⊥) → cond (eqb j n) (pos 1) (pos 0) *ℤ q j ≡ pos 0
unit-other q n j h = ap (λ (b : Bool). cond b (pos 1) (pos 0) *ℤ q j) (ne_eqb j n h) ∙ zero-*ℤ (q j)

unit-none : (q : Assignment) (n k : ℕ) → k ≤ n → sum_to (λ j. cond (eqb j n) (pos 1) (pos 0) *ℤ q j) k ≡ pos 0
unfolding sum_to
unit-none q n zero h = refl
unit-none q n (suc k) h =
    let e = unit-none q n k (omega arith) in
    let d = unit-other q n k (λ x. let no : ⊥ = omega arith in no) in
    omega (arith, ints)

unit-at : (q : Assignment) (n k : ℕ) → n < k → sum_to (λ j. cond (eqb j n) (pos 1) (pos 0) *ℤ q j) k ≡ q n
unfolding sum_to lib.IntN.one
unit-at q n zero h = let no : ⊥ = omega arith in absurd no
unit-at q n (suc k) h =
    ⊎_elim
    (λ (x : k ≡ n).
    let e = unit-none q n k (omega arith) in
    let d = ap (λ (b : Bool). cond b (pos 1) (pos 0) *ℤ q k) (eq-eqb k n x) ∙ *ℤ_comm (pos 1) (q k) ∙ *ℤ-one (q k) ∙ ap q x in
    omega (arith, ints))
    (λ x.
    let e = unit-at q n k (omega arith) in
    let d = unit-other q n k x in
    omega (arith, ints))
    (cases_eq k n)

pub worth-quantity : (q : Assignment) (n : ℕ) → n < 16 → worth q (quantity n) ≡ q n
unfolding worth quantity
worth-quantity q n h =
    let e = each-sum q (λ j. cond (eqb j n) (pos 1) (pos 0)) ∙ unit-at q n 16 h in
    omega (arith, ints)

pub worth-plus : (q : Assignment) (t u : Term) → worth q (plus t u) ≡ worth q t +ℤ worth q u
unfolding worth plus
worth-plus q t u =
    let e = each-sum q (λ j. coef_of t j +ℤ coef_of u j) ∙ at_sum q (coef_of t) (coef_of u) 16 in
    omega (arith, ints)

pub worth-minus : (q : Assignment) (t u : Term) → worth q (minus t u) ≡ worth q t -ℤ worth q u
unfolding worth minus
worth-minus q t u =
    let e = each-sum q (λ j. coef_of t j -ℤ coef_of u j) ∙ at_sum q (coef_of t) (λ j. neg_ℤ (coef_of u j)) 16 in
    let d = at-neg q (coef_of u) 16 in
    omega (arith, ints)

at_scaled : (q : Assignment) (k : ℤ) (a : ℕ → ℤ) (n : ℕ) → sum_to (λ j. (k *ℤ a j) *ℤ q j) n ≡ k *ℤ sum_to (λ j. a j *ℤ q j) n
unfolding sum_to
at_scaled q k a zero = sym (*ℤ-zero k)
at_scaled q k a (suc n) =
    ap₂ (λ x y. x +ℤ y) (at_scaled q k a n) (mul-mul k (a n) (q n)) ∙ sym (mul-sum k (sum_to (λ j. a j *ℤ q j) n) (a n *ℤ q n))

pub worth-scaled : (q : Assignment) (k : ℤ) (t : Term) → worth q (scaled k t) ≡ k *ℤ worth q t
unfolding worth scaled
worth-scaled q k t =
    ap (λ (x : ℤ). k *ℤ t.constant +ℤ x) (each-sum q (λ j. k *ℤ coef_of t j) ∙ at_scaled q k (coef_of t) 16)
    ∙ sym (mul-sum k t.constant (sum_to (λ j. coef_of t j *ℤ q j) 16))

pub worth-fixed : (q : Assignment) (t : Term) → is_constant t ≡ true → worth q t ≡ t.constant
unfolding worth
worth-fixed q t h =
    let e = at-zeros q (coef_of t) 16 h in
    omega (arith, ints)

-- a term that is worked out is worth what its parts give
pub limited-is : (t v : Term) → limited t ≡ Some v → t ≡ v
limited-is t v = go (fits_term t)
  where
    go : (b : Bool) → cond b (Some t) None ≡ Some v → t ≡ v
    go true e = cc
    go false e = cc

product-worth : (q : Assignment) (t u v : Term) (b c : Bool) → is_constant t ≡ b → is_constant u ≡ c
    → cond b (limited (scaled t.constant u)) (cond c (limited (scaled u.constant t)) None) ≡ Some v → worth q v ≡ worth q t *ℤ worth q u
product-worth q t u v true c h k e =
    ap (worth q) (sym (limited-is _ v e)) ∙ worth-scaled q t.constant u ∙ ap (λ (x : ℤ). x *ℤ worth q u) (sym (worth-fixed q t h))
product-worth q t u v false true h k e =
    ap (worth q) (sym (limited-is _ v e)) ∙ worth-scaled q u.constant t ∙ *ℤ_comm u.constant (worth q t) ∙ ap (λ (x : ℤ). worth q t *ℤ x) (sym (worth-fixed q u k))
product-worth q t u v false false h k e = cc

pub worked-worth : (q : Assignment) (o : Operator) (t u v : Term) → worked o t u ≡ Some v → worth q v ≡ reckoned o (worth q t) (worth q u)
unfolding worked
worked-worth q Sum t u v e = ap (worth q) (sym (limited-is _ v e)) ∙ worth-plus q t u
worked-worth q Difference t u v e = ap (worth q) (sym (limited-is _ v e)) ∙ worth-minus q t u
worked-worth q Product t u v e = product-worth q t u v (is_constant t) (is_constant u) refl refl e

-- assignments that agree below n
abbrev pub Agree : ℕ → Assignment → Assignment → Type 0
Agree n q r = (i : ℕ) → i < n → q i ≡ r i

pub agree_less : {n m : ℕ} {q r : Assignment} → n ≤ m → Agree m q r → Agree n q r
agree_less h a i k = a i (le_trans k h)

pub agree_trans : {n : ℕ} {q r s : Assignment} → Agree n q r → Agree n r s → Agree n q s
agree_trans a b i k = a i k ∙ b i k

-- a term that mentions quantities below n only
abbrev pub Stable : ℕ → Term → Type 0
Stable n t = (q r : Assignment) → Agree n q r → worth q t ≡ worth r t

pub stable-more : (n m : ℕ) (t : Term) → n ≤ m → Stable n t → Stable m t
stable-more n m t h k q r a = k q r (agree_less h a)

pub stable-constant : (n : ℕ) (z : ℤ) → Stable n (constant z)
stable-constant n z q r a = worth-constant q z ∙ sym (worth-constant r z)

pub stable-quantity : (n : ℕ) → Stable (suc n) (quantity n)
unfolding worth quantity
stable-quantity n q r a =
    let e = each-sum q (λ j. cond (eqb j n) (pos 1) (pos 0)) in
    let d = each-sum r (λ j. cond (eqb j n) (pos 1) (pos 0)) in
    let c = sum_same (λ j. cond (eqb j n) (pos 1) (pos 0) *ℤ q j) (λ j. cond (eqb j n) (pos 1) (pos 0) *ℤ r j) 16 (λ j h. go j (eqb j n) refl) in
    ap (λ (x : ℤ). pos 0 +ℤ x) (e ∙ c ∙ sym d)
  where
    go : (j : ℕ) (b : Bool) → eqb j n ≡ b → cond b (pos 1) (pos 0) *ℤ q j ≡ cond b (pos 1) (pos 0) *ℤ r j
    go j true e = ap (λ (x : ℤ). pos 1 *ℤ x) (a j (omega (arith, eqb-true j n e)))
    go j false e = zero-*ℤ (q j) ∙ sym (zero-*ℤ (r j))

pub stable-plus : (n : ℕ) (t u : Term) → Stable n t → Stable n u → Stable n (plus t u)
stable-plus n t u h k q r a = worth-plus q t u ∙ ap₂ ◌+ℤ◌ (h q r a) (k q r a) ∙ sym (worth-plus r t u)

pub stable-scaled : (n : ℕ) (z : ℤ) (t : Term) → Stable n t → Stable n (scaled z t)
stable-scaled n z t h q r a = worth-scaled q z t ∙ ap (λ (x : ℤ). z *ℤ x) (h q r a) ∙ sym (worth-scaled r z t)

pub stable-worked : (n : ℕ) (o : Operator) (t u v : Term) → worked o t u ≡ Some v → Stable n t → Stable n u → Stable n v
stable-worked n o t u v e h k q r a = worked-worth q o t u v e ∙ ap₂ (reckoned o) (h q r a) (k q r a) ∙ sym (worked-worth r o t u v e)

-- terms by slot
abbrev pub StableAll : ℕ → List Term → Type 0
StableAll n ts = (i : ℕ) → Stable n (term_at ts i)

pub stables-more : (n m : ℕ) (ts : List Term) → n ≤ m → StableAll n ts → StableAll m ts
stables-more n m ts h k i = stable-more n m (term_at ts i) h (k i)

pub stables-nil : (n : ℕ) → StableAll n []
stables-nil n i = stable-constant n (pos 0)

pub stables-cons : (n : ℕ) (t : Term) (ts : List Term) → Stable n t → StableAll n ts → StableAll n (t ∷ ts)
stables-cons n t ts h k zero = h
stables-cons n t ts h k (suc i) = k i

pub stables-push : (n : ℕ) (t : Term) (ts : List Term) → Stable n t → StableAll n ts → StableAll n (ts ++ t ∷ [])
stables-push n t [] h k zero = h
stables-push n t [] h k (suc i) = stable-constant n (pos 0)
stables-push n t (u ∷ ts) h k zero = k zero
stables-push n t (u ∷ ts) h k (suc i) = stables-push n t ts h (λ j. k (suc j)) i

pub worths-move : (n : ℕ) (q r : Assignment) → Agree n q r → (ts : List Term) → StableAll n ts → map (worth q) ts ≡ map (worth r) ts
worths-move n q r a [] h = refl
worths-move n q r a (t ∷ ts) h = ap₂ ◌∷◌ (h zero q r a) (worths-move n q r a ts (λ j. h (suc j)))

-- the value of a name is what its term is worth
pub worths-at : (q : Assignment) (ts : List Term) (i : ℕ) → get_or (map (worth q) ts) i (pos 0) ≡ worth q (term_at ts i)
worths-at q [] i = sym (worth-constant q (pos 0))
worths-at q (t ∷ ts) zero = refl
worths-at q (t ∷ ts) (suc i) = worths-at q ts i
