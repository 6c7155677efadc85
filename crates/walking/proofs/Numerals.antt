-- A numeral past the range of a term's numbers is past the limit of a term.
use Rattle.std.proofs.Common.{◌≡◌, ℕ, ◌≤◌, Bool, true, false, is_ok, cond, ℤ, pos, neg_ℤ, w32, FitsSigned, Some, None, OkIff, Result, sym, refl, ap, ◌∙◌, arith}
use Rattle.std.proofs.lemmas.Int.{ints}
use Rattle.std.proofs.lemmas.Bool.{and_parts, true≢false}
use Rattle.std.proofs.lemmas.Result.{Ok-from_Ok_iff}
use lib.Signed.{le_z}
use Rattle.language.specs.declared.term.Term.{Term}
use Rattle.language.specs.Terms.{near, all_near, constant, fits_term, limited}

small : (n : ℕ) → near (pos n) ≡ true → FitsSigned w32 (pos n)
small n h =
    let p = and_parts (le_z (neg_ℤ (pos 1000000)) (pos n)) (le_z (pos n) (pos 1000000)) h in
    let l : n ≤ 1000000 = omega (arith, ints) in
    record { sfits = omega arith }

module _ {E : Type 0} (n : ℕ) (r : Result ℤ E) where
  pub too-large : OkIff r (FitsSigned w32 (pos n)) (pos n) → is_ok r ≡ false → None ≡ limited (constant (pos n))
  unfolding constant
  too-large i h = go (fits_term t) refl
    where
      t : Term
      t = constant (pos n)

      go : (b : Bool) → fits_term t ≡ b → None ≡ cond b (Some t) None
      go false e = refl
      go true e = absurd (true≢false (sym (ap is_ok (Ok-from_Ok_iff r (FitsSigned w32 (pos n)) (pos n) i (small n (and_parts (near (pos n)) (all_near t.coefs) e).0))) ∙ h))
