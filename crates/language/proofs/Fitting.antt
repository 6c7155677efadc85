-- Terms within their limits compare by rows within a row's limits, and the walk's terms keep theirs.
use Rattle.std.proofs.Common.{◌≡◌, ℕ, zero, suc, ◌+◌, ◌<◌, Bool, true, false, cond, eqb, List, [], ◌∷◌, map, get_or, ℤ, pos, ◌-ℤ◌, neg_ℤ, ◌≤ℤ◌, is_some, Some, None, Option, sym, refl, ap, ◌∙◌, arith}
use lib.Signed.{le_z}
use Rattle.std.specs.List.{range_with_len, AllByRecursion}
use Rattle.std.proofs.lemmas.Int.{ints}
use Rattle.std.proofs.lemmas.Bool.{and_parts, and_from}
use Rattle.ints.specs.Sums.{Near}
use Rattle.rows.specs.declared.row.Kind.{Kind}
use Rattle.rows.specs.declared.row.Kind.TheVariants.{AtMost, Unequal}
use Rattle.rows.specs.Limits.{small, all_small, fits}
use Rattle.rows.specs.Rows.{row_of}
use Rattle.rows.proofs.Making.{made_some}
use Rattle.language.specs.declared.term.Term.{Term}
use Rattle.language.specs.declared.comparison.Comparison.{Comparison}
use Rattle.language.specs.declared.comparison.Comparison.TheVariants.{Less, LessOrEqual, Equal, NotEqual}
use Rattle.language.specs.Terms.{coef_of, each, minus, near, all_near, fits_term, constant, zero_term, quantity, plus, scaled, term_at, is_constant, limited, worked}
use Rattle.language.specs.declared.operator.Operator.{Operator}
use Rattle.language.specs.declared.operator.Operator.TheVariants.{Sum, Difference, Product}
use Rattle.language.specs.Tree.{Condition, Expr, num, name, calc, read, call, bind, test, put, claim, Rule}
use Rattle.language.specs.Walking.{Note, Stand, Scope, Found, binding, fresh, fresh_with, or_fresh, Mode, infer, check, finish, join, walk, TermsFit}
use Rattle.std.proofs.ByRecursion.{All-push}
use Rattle.std.proofs.lemmas.Option.{none-some}
use Rattle.language.specs.Comparing.{at_most, unequal, rows, RowsFit}

near-is : (z : ℤ) → near z ≡ true → Near 1000000 z
near-is z h = let p = and_parts (le_z (neg_ℤ (pos 1000000)) z) (le_z z (pos 1000000)) h in (omega (arith, ints), omega (arith, ints))

near-at : (zs : List ℤ) (j : ℕ) → all_near zs ≡ true → Near 1000000 (get_or zs j (pos 0))
unfolding all_near
near-at [] j h = (omega (arith, ints), omega (arith, ints))
near-at (z ∷ zs) zero h = near-is z (and_parts _ _ h).0
near-at (z ∷ zs) (suc j) h = near-at zs j (and_parts _ _ h).1

small-from : (z : ℤ) → neg_ℤ (pos 4000000) ≤ℤ z → z ≤ℤ pos 4000000 → small z ≡ true
small-from z a b = grind (arith, ints)

small-each : (f : ℕ → ℤ) → ((j : ℕ) → small (f j) ≡ true) → (a k : ℕ) → all_small (map f (range_with_len a k)) ≡ true
unfolding all_small
small-each f h a zero = refl
small-each f h a (suc k) = and_from _ _ (h a) (small-each f h (a + 1) k)

some-made : (cs : List ℤ) (b : ℤ) (k : Kind) → fits cs b ≡ true → is_some (row_of cs b k) ≡ true
some-made cs b k e = ap is_some (sym (made_some cs b k e))

module _ (t u : Term) (ht : fits_term t ≡ true) (hu : fits_term u ≡ true) where
  small-difference : (j : ℕ) → small (coef_of t j -ℤ coef_of u j) ≡ true
  small-difference j =
      let a = near-at t.coefs j (and_parts (near t.constant) (all_near t.coefs) ht).1 in
      let b = near-at u.coefs j (and_parts (near u.constant) (all_near u.coefs) hu).1 in
      small-from (coef_of t j -ℤ coef_of u j) (omega (arith, ints)) (omega (arith, ints))

  coefs-small : all_small (minus t u).coefs ≡ true
  unfolding minus each
  coefs-small = small-each (λ j. coef_of t j -ℤ coef_of u j) small-difference 0 16

  at-most-made : (k : ℕ) → k < 2 → is_some (at_most (pos k) t u) ≡ true
  unfolding at_most
  at-most-made k l =
      let a = near-is t.constant (and_parts (near t.constant) (all_near t.coefs) ht).0 in
      let b = near-is u.constant (and_parts (near u.constant) (all_near u.coefs) hu).0 in
      some-made (minus t u).coefs ((u.constant -ℤ t.constant) -ℤ pos k) AtMost (and_from _ _ (small-from ((u.constant -ℤ t.constant) -ℤ pos k) (omega (arith, ints)) (omega (arith, ints))) coefs-small)

  unequal-made : is_some (unequal t u) ≡ true
  unfolding unequal
  unequal-made =
      let a = near-is t.constant (and_parts (near t.constant) (all_near t.coefs) ht).0 in
      let b = near-is u.constant (and_parts (near u.constant) (all_near u.coefs) hu).0 in
      some-made (minus t u).coefs (u.constant -ℤ t.constant) Unequal (and_from _ _ (small-from (u.constant -ℤ t.constant) (omega (arith, ints)) (omega (arith, ints))) coefs-small)

pub rows_fit : RowsFit
rows_fit = record { made = go }
  where
    go : (c : Comparison) (t u : Term) → fits_term t ≡ true → fits_term u ≡ true → AllByRecursion (λ o. is_some o ≡ true) (rows c t u)
    go Less t u a b = (at-most-made t u a b 1 (omega arith), tt)
    go LessOrEqual t u a b = (at-most-made t u a b 0 (omega arith), tt)
    go Equal t u a b = (at-most-made t u a b 0 (omega arith), (at-most-made u t b a 0 (omega arith), tt))
    go NotEqual t u a b = (unequal-made t u a b, tt)

-- the terms of the walk
near-each : (f : ℕ → ℤ) → ((j : ℕ) → near (f j) ≡ true) → (a k : ℕ) → all_near (map f (range_with_len a k)) ≡ true
unfolding all_near
near-each f h a zero = refl
near-each f h a (suc k) = and_from _ _ (h a) (near-each f h (a + 1) k)

pub zero-fits : fits_term zero_term ≡ true
unfolding constant each all_near
zero-fits = refl

pub quantity-fits : (n : ℕ) → fits_term (quantity n) ≡ true
unfolding quantity each
quantity-fits n = near-each (λ j. cond (eqb j n) (pos 1) (pos 0)) (λ j. go (eqb j n)) 0 16
  where
    go : (b : Bool) → near (cond b (pos 1) (pos 0)) ≡ true
    go true = refl
    go false = refl

pub limited-fits : (t u : Term) → limited t ≡ Some u → fits_term u ≡ true
limited-fits t u e = go (fits_term t) refl e
  where
    go : (b : Bool) → fits_term t ≡ b → cond b (Some t) None ≡ Some u → fits_term u ≡ true
    go true h e = let same : t ≡ u = cc in ap fits_term (sym same) ∙ h
    go false h e = absurd (none-some u e)

pub worked-fits : (o : Operator) (t u v : Term) → worked o t u ≡ Some v → fits_term v ≡ true
unfolding worked
worked-fits Sum t u v e = limited-fits (plus t u) v e
worked-fits Difference t u v e = limited-fits (minus t u) v e
worked-fits Product t u v e = go (is_constant t) (is_constant u) e
  where
    go : (b c : Bool) → cond b (limited (scaled t.constant u)) (cond c (limited (scaled u.constant t)) None) ≡ Some v → fits_term v ≡ true
    go true c e = limited-fits (scaled t.constant u) v e
    go false true e = limited-fits (scaled u.constant t) v e
    go false false e = absurd (none-some v e)

abbrev Fit : List Term → Type 0
Fit ts = AllByRecursion (λ t. fits_term t ≡ true) ts

pub fit_at : (ts : List Term) → Fit ts → (i : ℕ) → fits_term (term_at ts i) ≡ true
fit_at [] h i = zero-fits
fit_at (t ∷ ts) h zero = h.0
fit_at (t ∷ ts) h (suc i) = fit_at ts h.1 i

finish-fits : (m : Mode) (place : ℕ) (f : Found) → fits_term f.term ≡ true → fits_term (finish m place f).term ≡ true
unfolding finish
finish-fits infer place f h = h
finish-fits (check ts cs) place f h = h

fresh-fits : (place : ℕ) (s : Stand) (notes : List Note) → fits_term (fresh place s notes).term ≡ true
unfolding fresh
fresh-fits place s notes = quantity-fits s.next

with-fits : (place : ℕ) (ts : List Term) (cs : List Condition) (s : Stand) (notes : List Note) → fits_term (fresh_with place ts cs s notes).term ≡ true
unfolding fresh_with
with-fits place ts cs s notes = fresh-fits place s notes

or-fits : (place : ℕ) (t : Option Term) (s : Stand) (notes : List Note) → ((u : Term) → t ≡ Some u → fits_term u ≡ true) → fits_term (or_fresh place t s notes).term ≡ true
unfolding or_fresh
or-fits place None s notes h = fresh-fits place s notes
or-fits place (Some u) s notes h = h u refl

join-fits : (m : Mode) (place : ℕ) (s : Stand) (notes : List Note) → fits_term (join m place s notes).term ≡ true
unfolding join
join-fits infer place s notes = fresh-fits place s notes
join-fits (check ts cs) place s notes = zero-fits

walk-fits : (R : List Rule) (m : Mode) (Γ : Scope) (s : Stand) (e : Expr) → Fit Γ.names → Fit Γ.lengths → fits_term (walk R m Γ s e).term ≡ true
unfolding walk
walk-fits R m Γ s (num p n) h k = finish-fits m p _ (or-fits p (limited (constant (pos n))) s [] (limited-fits (constant (pos n))))
walk-fits R m Γ s (name p i) h k = finish-fits m p _ (fit_at Γ.names h i)
walk-fits R m Γ s (calc p o a b) h k = finish-fits m p _ (or-fits p (worked o _ _) _ _ (worked-fits o _ _))
walk-fits R m Γ s (read site e) h k = finish-fits m site.place _ (fresh-fits site.place _ _)
walk-fits R m Γ s (call p f es) h k = finish-fits m p _ (with-fits p _ _ _ _)
walk-fits R m Γ s (bind p a b) h k =
    let g = walk R infer Γ s a in
    walk-fits R m (binding Γ g.term) g.stand b (All-push (λ t. fits_term t ≡ true) Γ.names g.term h (walk-fits R infer Γ s a h k)) k
walk-fits R m Γ s (test p c a b d e) h k = join-fits m p _ _
walk-fits R m Γ s (put p site a b e) h k = walk-fits R m Γ _ e h k
walk-fits R m Γ s (claim p e cs) h k = finish-fits m p _ (with-fits p _ _ _ _)

pub terms-fit : TermsFit
terms-fit = record { kept = walk-fits }
