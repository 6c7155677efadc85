-- The terms of a row, one by one, and when there are none.
use Rattle.std.proofs.Common.{◌≡◌, ℕ, zero, suc, ◌+◌, ◌<◌, Bool, true, false, cond, ◌&&◌, List, [], ◌∷◌, ◌++◌, length, get_or, ℤ, pos, codes, sym, refl, ap, ◌∙◌, ap₂, ⊎_elim, add-one, arith}
use Rattle.std.specs.List.{list_all}
use Rattle.std.proofs.lemmas.Bool.{and_parts, cases_eq, true≢false}
use Rattle.std.proofs.lemmas.List.{append-nil}
use Rattle.ints.specs.Tests.{is_zero}
use Rattle.rows.specs.declared.row.Row.{Row}
use Rattle.rows.specs.Meaning.{coef}
use Rattle.notation.specs.Written.{term_word, term_text, terms_to, or_zero}

terms_more : (r : Row) (n : ℕ) → terms_to r n ++ term_text (coef r n) n ≡ terms_to r (n + 1)
unfolding terms_to
terms_more r n = rw add-one

pub terms_some : (r : Row) (n : ℕ) → is_zero (coef r n) ≡ false → terms_to r n ++ (term_word (coef r n) n ++ codes " ") ≡ terms_to r (n + 1)
terms_some r n h = ap (λ b. terms_to r n ++ cond b [] (term_word (coef r n) n ++ codes " ")) (sym h) ∙ terms_more r n

pub terms_none : (r : Row) (n : ℕ) → is_zero (coef r n) ≡ true → terms_to r n ≡ terms_to r (n + 1)
terms_none r n h = sym (append-nil (terms_to r n)) ∙ ap (λ b. terms_to r n ++ cond b [] (term_word (coef r n) n ++ codes " ")) (sym h) ∙ terms_more r n

zero_at : (zs : List ℤ) (j : ℕ) → list_all is_zero zs ≡ true → is_zero (get_or zs j (pos 0)) ≡ true
zero_at [] j h = refl
zero_at (z ∷ zs) zero h = (and_parts _ _ h).0
zero_at (z ∷ zs) (suc j) h = zero_at zs j (and_parts _ _ h).1

no_term : (c : ℤ) (j : ℕ) → is_zero c ≡ true → term_text c j ≡ []
no_term c j h = ap (λ b. cond b [] (term_word c j ++ codes " ")) h

none_to : (r : Row) (n : ℕ) → list_all is_zero r.coefs ≡ true → terms_to r n ≡ []
unfolding terms_to
none_to r zero h = refl
none_to r (suc n) h = ap₂ (λ x y. x ++ y) (none_to r n h) (no_term (coef r n) n (zero_at r.coefs n h))

pub zero_written : (r : Row) → list_all is_zero r.coefs ≡ true → codes "0 " ≡ or_zero (terms_to r 16)
zero_written r h = sym (ap or_zero (none_to r 16 h))

-- a list with something in it
abbrev some_of : List ℕ → Bool
some_of [] = false
some_of (x ∷ xs) = true

some_front : (xs ys : List ℕ) → some_of xs ≡ true → some_of (xs ++ ys) ≡ true
some_front [] ys h = cc
some_front (x ∷ xs) ys h = refl

some_back : (xs ys : List ℕ) → some_of ys ≡ true → some_of (xs ++ ys) ≡ true
some_back [] ys h = h
some_back (x ∷ xs) ys h = refl

some_term : (c : ℤ) (j : ℕ) → is_zero c ≡ false → some_of (term_text c j) ≡ true
some_term c j h = ap (λ b. some_of (cond b [] (term_word c j ++ codes " "))) h ∙ some_back (term_word c j) (codes " ") refl

some_to : (r : Row) (n j : ℕ) → j < n → is_zero (coef r j) ≡ false → some_of (terms_to r n) ≡ true
unfolding terms_to
some_to r zero j l h = let no : ⊥ = omega arith in absurd no
some_to r (suc n) j l h =
    ⊎_elim
    (λ e. some_back (terms_to r n) (term_text (coef r n) n) (some_term (coef r n) n (ap (λ k. is_zero (coef r k)) (sym e) ∙ h)))
    (λ ne. some_front (terms_to r n) (term_text (coef r n) n) (some_to r n j (omega arith) h))
    (cases_eq j n)

other_at : (zs : List ℤ) → list_all is_zero zs ≡ false → (j : ℕ) × ((j < length zs) × (is_zero (get_or zs j (pos 0)) ≡ false))
other_at [] h = absurd (true≢false h)
other_at (z ∷ zs) h = by (is_zero z) refl (λ k. other_at zs k)
  where
    by : (b : Bool) → is_zero z ≡ b → (list_all is_zero zs ≡ false → (j : ℕ) × ((j < length zs) × (is_zero (get_or zs j (pos 0)) ≡ false))) → (j : ℕ) × ((j < length (z ∷ zs)) × (is_zero (get_or (z ∷ zs) j (pos 0)) ≡ false))
    by false e f = (0, (omega arith, e))
    by true e f = let r = f (sym (ap (λ b. b && list_all is_zero zs) e) ∙ h) in (suc r.0, (omega (arith, r.1.0), r.1.1))

same_if : (xs : List ℕ) → some_of xs ≡ true → xs ≡ or_zero xs
same_if [] h = cc
same_if (x ∷ xs) h = refl

pub terms_written : (r : Row) → length r.coefs ≡ 16 → list_all is_zero r.coefs ≡ false → terms_to r 16 ≡ or_zero (terms_to r 16)
terms_written r l h = let o = other_at r.coefs h in same_if (terms_to r 16) (some_to r 16 o.0 (omega (arith, o.1.0)) o.1.1)
