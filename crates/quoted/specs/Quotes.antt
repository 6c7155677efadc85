-- The law of the quoting domain: a fact with a smaller bound gives the goal.
use Rattle.std.specs.Prelude.{◌≡◌, ℕ, Bool, true, false, cond, ◌&&◌, List, [], ◌∷◌, length, ℤ, Some, None, Decides, Option, int_le, slice_index, refl}
use Rattle.std.proofs.Common.{sym, ap, ap₂, subst, ◌∙◌, arith}
use Rattle.std.proofs.lemmas.Int.{ints}
use Rattle.std.proofs.lemmas.Bool.{and_parts, and_from}
use Rattle.std.specs.List.{slice_get}
use Rattle.rows.specs.declared.row.Row.{Row}
use Rattle.rows.specs.declared.row.Kind.{Kind}
use Rattle.rows.specs.Meaning.{value, Holds, Follows}
use Rattle.rows.specs.Questions.{is_at_most, well_shaped}
use Rattle.rows.proofs.Same.{same-coefs, meets-nth}
use Rattle.rows.proofs.Shapes.{at-most-is}
use Rattle.domains.specs.declared.fault.Reason.TheVariants.{Shape, Kind as OfKind, Sum}
use Rattle.domains.specs.Faults.{Good, fault}
use Rattle.domains.specs.Outcomes.{good-parts}
use Rattle.quoted.specs.Quoting.{same_numbers, looser, quote_at, quoted}

same-is : (xs ys : List ℤ) → same_numbers xs ys ≡ true → xs ≡ ys
same-is [] [] h = refl
same-is [] (y ∷ ys) h = cc
same-is (x ∷ xs) [] h = cc
same-is (x ∷ xs) (y ∷ ys) h =
    let p = and_parts (int_le x y && int_le y x) _ h in
    let o = and_parts (int_le x y) (int_le y x) p.0 in
    ap₂ (λ z zs. z ∷ zs) (omega (arith, ints, o.0, o.1)) (same-is xs ys p.1)

same_self : (xs : List ℤ) → same_numbers xs xs ≡ true
same_self [] = refl
same_self (x ∷ xs) = and_from _ _ (let e : int_le x x ≡ true = grind (arith, ints) in and_from _ _ e e) (same_self xs)

-- a test that decides whether two lists are the same is this one
pub same_test : (r : Bool) (xs ys : List ℤ) → Decides r (xs ≡ ys) → same_numbers xs ys ≡ r
same_test true xs ys d = ap (same_numbers xs) (sym (d.0 refl)) ∙ same_self xs
same_test false xs ys d = not_same (same_numbers xs ys) refl
  where
    not_same : (b : Bool) → same_numbers xs ys ≡ b → b ≡ false
    not_same true e = sym (d.1 (same-is xs ys e))
    not_same false e = refl

one-is : (xs : List ℕ) → length xs ≡ 1 → xs ≡ slice_index xs 0 ∷ []
one-is [] h = let no : ⊥ = omega arith in absurd no
one-is (x ∷ []) h = refl
one-is (x ∷ y ∷ ys) h = let no : ⊥ = omega arith in absurd no

module _ (facts : List Row) (goal : Row) where
  quote-sound : (low high : ℤ) (k : ℕ) (o : Option Row) → slice_get facts k ≡ o → is_at_most goal.kind ≡ true → Good (quote_at o goal) → Follows low high facts goal
  quote-sound low high k None e a g = absurd g
  quote-sound low high k (Some fact) e a g =
      let b = good-parts (is_at_most fact.kind) _ OfKind g in
      let l = and_parts (same_numbers fact.coefs goal.coefs) _ (good-parts (looser fact goal) _ Sum b.1).0 in
      record {
        follows = λ q w h.
            let F : Kind → Type 0 = λ kind. Holds kind (value fact q) fact.bound in
            let G : Kind → Type 0 = λ kind. Holds kind (value goal q) goal.bound in
            let met = subst F (at-most-is fact.kind b.0) (meets-nth q facts k fact e h) in
            let same = same-coefs fact goal q (same-is _ _ l.0) in
            let less = l.1 in
            subst G (sym (at-most-is goal.kind a)) (omega (arith, ints));
      }

  pub quoted-sound : (low high : ℤ) (cert : List ℕ) → Good (quoted facts goal cert) → Follows low high facts goal
  quoted-sound low high [] g = absurd g
  quoted-sound low high (k ∷ []) g =
      let p = good-parts (well_shaped facts goal) _ Shape g in
      quote-sound low high k (slice_get facts k) refl (and_parts _ _ p.0).1 p.1
  quoted-sound low high (k ∷ l ∷ rest) g = absurd g

  -- what the domain answers where it looks at the fact
  pub quoted-asks : (cert : List ℕ) → length cert ≡ 1 → well_shaped facts goal ≡ true → quote_at (slice_get facts (slice_index cert 0)) goal ≡ quoted facts goal cert
  quoted-asks cert one s =
      sym (ap (quoted facts goal) (one-is cert one) ∙ ap (λ b. cond b (quote_at (slice_get facts (slice_index cert 0)) goal) (fault Shape)) s)
