-- What the rows of comparisons and conditions say: they hold just where the comparison does, and mention only what its terms do.
use Rattle.std.proofs.Common.{◌≡◌, ℕ, Bool, true, false, cond, not, ◌&&◌, T, List, [], ◌∷◌, map, get_or, ℤ, pos, ◌+ℤ◌, ◌-ℤ◌, ◌*ℤ◌, ◌≤ℤ◌, Some, None, Option, sym, refl, ap, ◌∙◌, subst, ap₂, subst₂, arith}
use lib.Dec.{not_T}
use Rattle.std.specs.List.{AllByRecursion}
use Rattle.std.proofs.lemmas.Int.{ints}
use Rattle.std.proofs.lemmas.Option.{none-some}
use Rattle.ints.specs.Sums.{sum_to}
use Rattle.ints.specs.Tests.{eq_z}
use Rattle.rows.specs.declared.row.Row.{Row}
use Rattle.rows.specs.declared.row.Kind.{Kind}
use Rattle.rows.specs.declared.row.Kind.TheVariants.{AtMost, Unequal}
use Rattle.rows.specs.Rows.{row_of}
use Rattle.rows.specs.Meaning.{Assignment, Holds, Meets, value}
use Rattle.rows.proofs.Making.{made-fields}
use Rattle.language.specs.declared.term.Term.{Term}
use Rattle.language.specs.declared.comparison.Comparison.{Comparison}
use Rattle.language.specs.declared.comparison.Comparison.TheVariants.{Less, LessOrEqual, Equal, NotEqual}
use Rattle.language.specs.Vocabulary.{holds}
use Rattle.language.specs.Tree.{Atom, one, named, result, Side, Condition}
use Rattle.language.specs.Terms.{minus, scaled, worth, fits_term}
use Rattle.language.specs.Comparing.{at_most, unequal, rows, otherwise, side_value, satisfied, atom_value, atom_term, side_term, condition_rows}
use Rattle.language.proofs.Worths.{worth-constant, worth-plus, worth-minus, worth-scaled, worths-at, Agree, Stable, StableAll, stable-constant, stable-plus, stable-scaled}

-- the sum of a row that was made of two terms
row-sum : (t u : Term) (b : ℤ) (k : Kind) (r : Row) → row_of (minus t u).coefs b k ≡ Some r → (q : Assignment)
    → (t.constant -ℤ u.constant) +ℤ value r q ≡ worth q t -ℤ worth q u
unfolding worth minus
row-sum t u b k r e q =
    ap (λ (cs : List ℤ). (t.constant -ℤ u.constant) +ℤ sum_to (λ j. get_or cs j (pos 0) *ℤ q j) 16) (made-fields (minus t u).coefs b k r e).0
    ∙ worth-minus q t u

module _ (k : ℤ) (t u : Term) (r : Row) (e : at_most k t u ≡ Some r) (q : Assignment) where
  pub at-most-meets : (worth q t +ℤ k) ≤ℤ worth q u → Meets q r
  unfolding at_most
  at-most-meets h =
      let f = made-fields (minus t u).coefs ((u.constant -ℤ t.constant) -ℤ k) AtMost r e in
      let s = row-sum t u ((u.constant -ℤ t.constant) -ℤ k) AtMost r e q in
      let b : r.bound ≡ (u.constant -ℤ t.constant) -ℤ k = f.1 in
      subst (λ (kind : Kind). Holds kind (value r q) r.bound) (sym f.2) (omega (arith, ints))

  pub at-most-met : Meets q r → (worth q t +ℤ k) ≤ℤ worth q u
  unfolding at_most
  at-most-met m =
      let f = made-fields (minus t u).coefs ((u.constant -ℤ t.constant) -ℤ k) AtMost r e in
      let s = row-sum t u ((u.constant -ℤ t.constant) -ℤ k) AtMost r e q in
      let b : r.bound ≡ (u.constant -ℤ t.constant) -ℤ k = f.1 in
      let h : value r q ≤ℤ r.bound = subst (λ (kind : Kind). Holds kind (value r q) r.bound) f.2 m in
      omega (arith, ints)

module _ (t u : Term) (r : Row) (e : unequal t u ≡ Some r) (q : Assignment) where
  pub unequal-meets : (worth q t ≡ worth q u → ⊥) → Meets q r
  unfolding unequal
  unequal-meets h =
      let f = made-fields (minus t u).coefs (u.constant -ℤ t.constant) Unequal r e in
      let s = row-sum t u (u.constant -ℤ t.constant) Unequal r e q in
      let b : r.bound ≡ u.constant -ℤ t.constant = f.1 in
      subst (λ (kind : Kind). Holds kind (value r q) r.bound) (sym f.2) (λ (x : value r q ≡ r.bound). h (omega (arith, ints)))

  pub unequal-met : Meets q r → worth q t ≡ worth q u → ⊥
  unfolding unequal
  unequal-met m x =
      let f = made-fields (minus t u).coefs (u.constant -ℤ t.constant) Unequal r e in
      let s = row-sum t u (u.constant -ℤ t.constant) Unequal r e q in
      let b : r.bound ≡ u.constant -ℤ t.constant = f.1 in
      let h : value r q ≡ r.bound → ⊥ = subst (λ (kind : Kind). Holds kind (value r q) r.bound) f.2 m in
      h (omega (arith, ints))

-- a row is met if it is made; it is made and met
abbrev pub IfMade : Assignment → Option Row → Type 0
IfMade q o = (r : Row) → o ≡ Some r → Meets q r

pub record Surely (q : Assignment) (o : Option Row) : Type 0 where
  pub row : Row
  pub made : o ≡ Some row
  pub met : Meets q row

-- a row that mentions quantities below n only
abbrev pub Firm : ℕ → Row → Type 0
Firm n r = (q p : Assignment) → Agree n q p → Meets q r → Meets p r

abbrev pub IfFirm : ℕ → Option Row → Type 0
IfFirm n o = (r : Row) → o ≡ Some r → Firm n r

not-not : (b : Bool) → T (not (not b)) → T b
not-not true h = tt
not-not false h = h

eq-from : (x y : ℤ) → T (eq_z x y) → x ≡ y
eq-from x y h = grind (arith, ints)

pub rows-from : (c : Comparison) (q : Assignment) (t u : Term) → T (holds c (worth q t) (worth q u)) → AllByRecursion (IfMade q) (rows c t u)
rows-from Less q t u h = (λ r e. at-most-meets (pos 1) t u r e q (grind (arith, ints)), tt)
rows-from LessOrEqual q t u h = (λ r e. at-most-meets (pos 0) t u r e q (grind (arith, ints)), tt)
rows-from Equal q t u h =
    let x = eq-from (worth q t) (worth q u) h in
    (λ r e. at-most-meets (pos 0) t u r e q (omega (arith, ints)), (λ r e. at-most-meets (pos 0) u t r e q (omega (arith, ints)), tt))
rows-from NotEqual q t u h = (λ r e. unequal-meets t u r e q (λ x. grind (arith, ints)), tt)

pub rows-to : (c : Comparison) (q : Assignment) (t u : Term) → AllByRecursion (Surely q) (rows c t u) → T (holds c (worth q t) (worth q u))
rows-to Less q t u h = let x = at-most-met (pos 1) t u h.0.row h.0.made q h.0.met in grind (arith, ints)
rows-to LessOrEqual q t u h = let x = at-most-met (pos 0) t u h.0.row h.0.made q h.0.met in grind (arith, ints)
rows-to Equal q t u h =
    let x = at-most-met (pos 0) t u h.0.row h.0.made q h.0.met in
    let y = at-most-met (pos 0) u t h.1.0.row h.1.0.made q h.1.0.met in
    grind (arith, ints)
rows-to NotEqual q t u h = let x = unequal-met t u h.0.row h.0.made q h.0.met in not_T (eq_z (worth q t) (worth q u)) (λ y. x (eq-from (worth q t) (worth q u) y))

pub otherwise-from : (c : Comparison) (q : Assignment) (t u : Term) → T (not (holds c (worth q t) (worth q u))) → AllByRecursion (IfMade q) (otherwise c t u)
otherwise-from Less q t u h = rows-from LessOrEqual q u t (grind (arith, ints))
otherwise-from LessOrEqual q t u h = rows-from Less q u t (grind (arith, ints))
otherwise-from Equal q t u h = rows-from NotEqual q t u h
otherwise-from NotEqual q t u h = rows-from Equal q t u (not-not (eq_z (worth q t) (worth q u)) h)

pub firm-at-most : (n : ℕ) (k : ℤ) (t u : Term) → Stable n t → Stable n u → IfFirm n (at_most k t u)
firm-at-most n k t u a b r e q p g m =
    at-most-meets k t u r e p (subst₂ (λ (x : ℤ) (y : ℤ). (x +ℤ k) ≤ℤ y) (a q p g) (b q p g) (at-most-met k t u r e q m))

pub rows-firm : (c : Comparison) (n : ℕ) (t u : Term) → Stable n t → Stable n u → AllByRecursion (IfFirm n) (rows c t u)
rows-firm Less n t u a b = (firm-at-most n (pos 1) t u a b, tt)
rows-firm LessOrEqual n t u a b = (firm-at-most n (pos 0) t u a b, tt)
rows-firm Equal n t u a b = (firm-at-most n (pos 0) t u a b, (firm-at-most n (pos 0) u t b a, tt))
rows-firm NotEqual n t u a b =
    (λ r e q p g m. unequal-meets t u r e p (subst₂ (λ (x : ℤ) (y : ℤ). x ≡ y → ⊥) (a q p g) (b q p g) (unequal-met t u r e q m)), tt)

pub otherwise-firm : (c : Comparison) (n : ℕ) (t u : Term) → Stable n t → Stable n u → AllByRecursion (IfFirm n) (otherwise c t u)
otherwise-firm Less n t u a b = rows-firm LessOrEqual n u t b a
otherwise-firm LessOrEqual n t u a b = rows-firm Less n u t b a
otherwise-firm Equal n t u a b = rows-firm NotEqual n t u a b
otherwise-firm NotEqual n t u a b = rows-firm Equal n t u a b

-- sides
module _ (q : Assignment) (ts : List Term) (r : Term) where
  worth-atom : (a : Atom) → worth q (atom_term ts r a) ≡ atom_value (map (worth q) ts) (worth q r) a
  worth-atom one = worth-constant q (pos 1)
  worth-atom (named i) = sym (worths-at q ts i)
  worth-atom result = refl

  pub worth-side : (side : Side) → worth q (side_term ts r side) ≡ side_value (map (worth q) ts) (worth q r) side
  unfolding side_term side_value
  worth-side [] = worth-constant q (pos 0)
  worth-side (i ∷ is) =
      worth-plus q (scaled i.factor (atom_term ts r i.atom)) (side_term ts r is)
      ∙ ap₂ ◌+ℤ◌ (worth-scaled q i.factor (atom_term ts r i.atom) ∙ ap (λ (x : ℤ). i.factor *ℤ x) (worth-atom i.atom)) (worth-side is)

module _ (n : ℕ) (ts : List Term) (r : Term) (h : StableAll n ts) (k : Stable n r) where
  stable-atom : (a : Atom) → Stable n (atom_term ts r a)
  stable-atom one = stable-constant n (pos 1)
  stable-atom (named i) = h i
  stable-atom result = k

  stable-side : (side : Side) → Stable n (side_term ts r side)
  unfolding side_term
  stable-side [] = stable-constant n (pos 0)
  stable-side (i ∷ is) =
      stable-plus n (scaled i.factor (atom_term ts r i.atom)) (side_term ts r is)
      (stable-scaled n i.factor (atom_term ts r i.atom) (stable-atom i.atom)) (stable-side is)

  pub condition-firm : (c : Condition) → AllByRecursion (IfFirm n) (condition_rows ts r c)
  unfolding condition_rows
  condition-firm c = go (fits_term (side_term ts r c.left) && fits_term (side_term ts r c.right))
    where
      go : (b : Bool) → AllByRecursion (IfFirm n) (cond b (rows c.comparison (side_term ts r c.left) (side_term ts r c.right)) (None ∷ []))
      go true = rows-firm c.comparison n (side_term ts r c.left) (side_term ts r c.right) (stable-side c.left) (stable-side c.right)
      go false = (λ x e. absurd (none-some x e), tt)

-- conditions, where the terms are worth xs and the result v
module _ (q : Assignment) (ts : List Term) (r : Term) (xs : List ℤ) (v : ℤ) (ex : map (worth q) ts ≡ xs) (ev : worth q r ≡ v) where
  side-is : (side : Side) → worth q (side_term ts r side) ≡ side_value xs v side
  side-is side = worth-side q ts r side ∙ ap₂ (λ (x : List ℤ) (y : ℤ). side_value x y side) ex ev

  pub condition-from : (c : Condition) → T (satisfied xs v c) → AllByRecursion (IfMade q) (condition_rows ts r c)
  unfolding condition_rows
  condition-from c h = go (fits_term (side_term ts r c.left) && fits_term (side_term ts r c.right))
    where
      go : (b : Bool) → AllByRecursion (IfMade q) (cond b (rows c.comparison (side_term ts r c.left) (side_term ts r c.right)) (None ∷ []))
      go true = rows-from c.comparison q (side_term ts r c.left) (side_term ts r c.right) (subst₂ (λ (x : ℤ) (y : ℤ). T (holds c.comparison x y)) (sym (side-is c.left)) (sym (side-is c.right)) h)
      go false = (λ x e. absurd (none-some x e), tt)

  pub condition-to : (c : Condition) → AllByRecursion (Surely q) (condition_rows ts r c) → T (satisfied xs v c)
  unfolding condition_rows
  condition-to c = go (fits_term (side_term ts r c.left) && fits_term (side_term ts r c.right))
    where
      go : (b : Bool) → AllByRecursion (Surely q) (cond b (rows c.comparison (side_term ts r c.left) (side_term ts r c.right)) (None ∷ [])) → T (satisfied xs v c)
      go true h = subst₂ (λ (x : ℤ) (y : ℤ). T (holds c.comparison x y)) (side-is c.left) (side-is c.right) (rows-to c.comparison q (side_term ts r c.left) (side_term ts r c.right) h)
      go false h = absurd (none-some h.0.row h.0.made)
