-- Which rows `row_of` makes.
use Rattle.std.proofs.Common.{◌≡◌, ℕ, Bool, true, false, List, ℤ, Some, None, sym, refl, ap, arith}
use mathlib.Core.Bool.{Bool-set}
use Rattle.std.proofs.lemmas.Bool.{both_ways}
use Rattle.rows.specs.declared.row.Row.{Row}
use Rattle.rows.specs.declared.row.Kind.{Kind}
use Rattle.rows.specs.Limits.{fits}
use Rattle.rows.specs.Rows.{row_if, row_of}

module _ (cs : List ℤ) (b : ℤ) (k : Kind) where
  some-if : (t : Bool) (h : fits cs b ≡ t) (e : fits cs b ≡ true) → Some (record { coefs = cs; bound = b; kind = k; ok = e }) ≡ row_if cs b k t h
  some-if true h e = ap (λ (p : fits cs b ≡ true). Some (record { coefs = cs; bound = b; kind = k; ok = p })) (Bool-set _ _ e h)
  some-if false h e = absurd (both_ways _ h e)

  pub made_some : (e : fits cs b ≡ true) → Some (record { coefs = cs; bound = b; kind = k; ok = e }) ≡ row_of cs b k
  unfolding row_of
  made_some e = some-if (fits cs b) refl e

  none-if : (t : Bool) (h : fits cs b ≡ t) → fits cs b ≡ false → None ≡ row_if cs b k t h
  none-if true h e = absurd (both_ways _ e h)
  none-if false h e = refl

  pub made_none : fits cs b ≡ false → None ≡ row_of cs b k
  unfolding row_of
  made_none e = none-if (fits cs b) refl e

  fields-if : (t : Bool) (h : fits cs b ≡ t) (r : Row) → row_if cs b k t h ≡ Some r → (r.coefs ≡ cs) × (r.bound ≡ b) × (r.kind ≡ k)
  fields-if true h r e =
      let p : record { coefs = cs; bound = b; kind = k; ok = h } ≡ r = cc in
      (sym (ap (λ (s : Row). s.coefs) p), sym (ap (λ (s : Row). s.bound) p), sym (ap (λ (s : Row). s.kind) p))
  fields-if false h r e = let no : ◌≡◌ {A = ℕ} 0 1 = cc in let bad : ⊥ = omega arith in absurd bad

  pub made-fields : (r : Row) → row_of cs b k ≡ Some r → (r.coefs ≡ cs) × (r.bound ≡ b) × (r.kind ≡ k)
  unfolding row_of
  made-fields r e = fields-if (fits cs b) refl r e
