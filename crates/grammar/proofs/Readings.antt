-- A param with no bracket after its name, as it is read token by token.
use Rattle.std.proofs.Common.{◌≡◌, ℕ, suc, ◌+◌, false, cond, sym, ap, ◌∙◌, arith}
use Rattle.letters.specs.declared.kind.Kind.TheVariants.{OpenSquare}
use Rattle.letters.specs.declared.token.Token.{Token}
use Rattle.grammar.specs.Parsers.{Look, is_a}
use Rattle.grammar.specs.Sheets.{number_param, list_param}
use Rattle.grammar.specs.Stretches.{past, param_at}

module _ (l : Look) (i : ℕ) where
  one : i + 1 ≡ suc i
  one = omega arith

  pub param-number : {a : Token} → is_a OpenSquare (l (suc i)) ≡ false → a ≡ l i → param_at l i ≡ past (number_param a) (i + 1)
  param-number g p =
      ap (λ z. cond z (past (list_param (l i) (l (suc (suc i)))) (suc (suc (suc (suc i))))) (past (number_param (l i)) (suc i))) g
      ∙ (λ k. past (number_param (sym p k)) (sym one k))

  pub not_after : false ≡ is_a OpenSquare (l (i + 1)) → is_a OpenSquare (l (suc i)) ≡ false
  not_after g = ap (λ j. is_a OpenSquare (l j)) (sym one) ∙ sym g
