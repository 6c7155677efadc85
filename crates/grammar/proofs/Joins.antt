-- A stretch read one by one, for a pass that goes along it.
use Rattle.std.proofs.Common.{◌≡◌, ℕ, zero, suc, ◌+◌, ◌≤◌, Bool, true, false, cond, sym, refl, ap, ◌∙◌, arith}
use Rattle.letters.specs.declared.token.Token.{Token}
use Rattle.grammar.specs.Parsers.{Look}
use Rattle.grammar.specs.Stretches.{Past, past, joined}

module _ {A : Type 0} (l : Look) (b : Token → Bool) (after : A → Token → ℕ → Past A) where
  -- no such token: the stretch ends here
  pub joined-off : (m : ℕ) (a : A) (i : ℕ) → b (l i) ≡ false → joined l b after m a i ≡ past a i
  unfolding joined
  joined-off zero a i h = refl
  joined-off (suc m) a i h = ap (λ z. cond z (joined l b after m (after a (l i) (suc i)).value (after a (l i) (suc i)).next) (past a i)) h

  -- one more, where m is enough up to the last token
  pub joined-on : (n : ℕ) → ((i : ℕ) → n ≤ i → b (l i) ≡ false) → (m : ℕ) (a : A) (i : ℕ) → n ≤ i + m → b (l i) ≡ true → suc i ≤ (after a (l i) (suc i)).next
      → (m' : ℕ) × (n ≤ (after a (l i) (suc i)).next + m') × (joined l b after m a i ≡ joined l b after m' (after a (l i) (suc i)).value (after a (l i) (suc i)).next)
  unfolding joined
  joined-on n ends zero a i k h g = let z : true ≡ false = sym h ∙ ends i (omega arith) in let y : ◌≡◌ {A = ℕ} 0 1 = cc in absurd (omega arith)
  joined-on n ends (suc m) a i k h g = (m, omega arith, ap (λ z. cond z (joined l b after m (after a (l i) (suc i)).value (after a (l i) (suc i)).next) (past a i)) h)
