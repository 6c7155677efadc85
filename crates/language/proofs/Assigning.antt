-- Assignments: a value for a fresh quantity, and the values with which a rule's body begins.
use Rattle.std.proofs.Common.{◌≡◌, ℕ, zero, suc, ◌+◌, ◌<◌, ◌≤◌, Bool, true, false, cond, T, eqb, List, [], ◌∷◌, map, length, get_or, drop, ℤ, pos, ◌≤ℤ◌, sym, refl, ap, ◌∙◌, ap₂, add-zero, zero-add, arith}
use lib.Signed.{le_z, le_z_yes}
use Rattle.std.specs.List.{range_with_len, AllByRecursion}
use Rattle.std.proofs.lemmas.Int.{ints}
use Rattle.std.proofs.lemmas.Bool.{eq-eqb, ne_eqb}
use Rattle.rows.specs.Meaning.{Assignment, Within}
use Rattle.language.specs.declared.part.Part.{Part}
use Rattle.language.specs.declared.term.Term.{Term}
use Rattle.language.specs.Tree.{Param, a_number, a_list, at_lists}
use Rattle.language.specs.Terms.{zero_term, quantity, worth}
use Rattle.language.specs.Comparing.{at_most}
use Rattle.language.specs.Running.{in_range, length_of}
use Rattle.language.proofs.Tests.{both_left, both_right}
use Rattle.language.proofs.Worths.{Agree, StableAll, stable-more, stable-constant, stable-quantity, worth-constant, worth-quantity}
use Rattle.language.proofs.Comparisons.{IfMade, IfFirm, at-most-meets, firm-at-most}

-- the same, with the value v for the quantity n
unfoldable pub assign : Assignment → ℕ → ℤ → Assignment
assign q n v i = cond (eqb i n) v (q i)

pub assign-same : (q : Assignment) (n : ℕ) (v : ℤ) → assign q n v n ≡ v
unfolding assign
assign-same q n v = ap (λ (b : Bool). cond b v (q n)) (eq-eqb n n refl)

pub assign-agree : (q : Assignment) (n : ℕ) (v : ℤ) → Agree n q (assign q n v)
unfolding assign
assign-agree q n v i h = sym (ap (λ (b : Bool). cond b v (q i)) (ne_eqb i n (λ e. let no : ⊥ = omega arith in no)))

pub in-range : (low high v : ℤ) → T (in_range low high v) → (low ≤ℤ v) × (v ≤ℤ high)
in-range low high v t = (le_z_yes (both_left (le_z low v) (le_z v high) t), le_z_yes (both_right (le_z low v) (le_z v high) t))

pub assign-within : (low high : ℤ) (q : Assignment) (n : ℕ) (v : ℤ) → Within low high q → T (in_range low high v) → Within low high (assign q n v)
unfolding assign
assign-within low high q n v h t j l = go (eqb j n)
  where
    go : (b : Bool) → (low ≤ℤ cond b v (q j)) × (cond b v (q j) ≤ℤ high)
    go true = in-range low high v t
    go false = h j l

-- the values of a rule's names are its first quantities
abbrev pub valued : List ℤ → Assignment
valued xs i = get_or xs i (pos 0)

pub valued-within : (low high : ℤ) → T (in_range low high (pos 0)) → (xs : List ℤ) → AllByRecursion (λ v. T (in_range low high v)) xs → Within low high (valued xs)
valued-within low high z xs h j l = in-range low high (valued xs j) (go xs j h)
  where
    go : (xs : List ℤ) (j : ℕ) → AllByRecursion (λ v. T (in_range low high v)) xs → T (in_range low high (valued xs j))
    go [] j h = z
    go (x ∷ xs) zero h = h.0
    go (x ∷ xs) (suc j) h = go xs j h.1

quantities-worth : (q : Assignment) (a : ℕ) (xs : List ℤ) → a + length xs ≤ 16 → ((j : ℕ) → j < length xs → q (a + j) ≡ get_or xs j (pos 0)) → map (worth q) (map quantity (range_with_len a (length xs))) ≡ xs
quantities-worth q a [] l h = refl
quantities-worth q a (x ∷ xs) l h =
    ap₂ ◌∷◌ (worth-quantity q a (omega arith) ∙ ap q (sym (add-zero a)) ∙ h zero (omega arith))
    (quantities-worth q (a + 1) xs (omega arith) (λ j k. ap q (omega arith) ∙ h (suc j) (omega arith)))

pub names-worth : (xs : List ℤ) → length xs ≤ 16 → map (worth (valued xs)) (map quantity (range_with_len 0 (length xs))) ≡ xs
names-worth xs l = quantities-worth (valued xs) 0 xs (omega arith) (λ j k. ap (valued xs) (zero-add j))

pub quantities-stable : (n a k : ℕ) → a + k ≤ n → StableAll n (map quantity (range_with_len a k))
quantities-stable n a zero h i = stable-constant n (pos 0)
quantities-stable n a (suc k) h zero = stable-more (suc a) n (quantity a) (omega arith) (stable-quantity a)
quantities-stable n a (suc k) h (suc i) = quantities-stable n (a + 1) k (omega arith) i

pub map-at_lists : {A B : Type 0} (f : A → B) (ps : List Param) (xs : List A) → map f (at_lists ps xs) ≡ at_lists ps (map f xs)
unfolding at_lists
map-at_lists f [] xs = refl
map-at_lists f (p ∷ ps) [] = refl
map-at_lists f (a_number ∷ ps) (x ∷ xs) = map-at_lists f ps xs
map-at_lists f (a_list ∷ ps) (x ∷ xs) = ap (λ ys. f x ∷ ys) (map-at_lists f ps xs)

pub at_lists-stable : (n : ℕ) (ps : List Param) (ts : List Term) → StableAll n ts → StableAll n (at_lists ps ts)
unfolding at_lists
at_lists-stable n [] ts h i = stable-constant n (pos 0)
at_lists-stable n (p ∷ ps) [] h i = stable-constant n (pos 0)
at_lists-stable n (a_number ∷ ps) (t ∷ ts) h i = at_lists-stable n ps ts (λ j. h (suc j)) i
at_lists-stable n (a_list ∷ ps) (t ∷ ts) h zero = h zero
at_lists-stable n (a_list ∷ ps) (t ∷ ts) h (suc i) = at_lists-stable n ps ts (λ j. h (suc j)) i

-- each length is at least 0
pub lengths-made : (q : Assignment) (ts : List Term) (ps : List Part) → map (worth q) ts ≡ map length_of ps → AllByRecursion (IfMade q) (map (at_most (pos 0) zero_term) ts)
lengths-made q [] ps e = tt
lengths-made q (t ∷ ts) [] e = let no : ◌≡◌ {A = ℕ} 0 1 = cc in let bad : ⊥ = omega arith in absurd bad
lengths-made q (t ∷ ts) (p ∷ ps) e =
    let x : worth q t ≡ length_of p = ap (λ (l : List ℤ). get_or l 0 (pos 0)) e in
    let z = worth-constant q (pos 0) in
    (λ r m. at-most-meets (pos 0) zero_term t r m q (omega (arith, ints)), lengths-made q ts ps (ap (λ (l : List ℤ). drop 1 l) e))

pub lengths-firm : (n : ℕ) (ts : List Term) → StableAll n ts → AllByRecursion (IfFirm n) (map (at_most (pos 0) zero_term) ts)
lengths-firm n [] h = tt
lengths-firm n (t ∷ ts) h = (firm-at-most n (pos 0) zero_term t (stable-constant n (pos 0)) (h zero), lengths-firm n ts (λ i. h (suc i)))
