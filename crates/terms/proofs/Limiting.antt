-- Which terms a product gives.
use Rattle.std.proofs.Common.{◌≡◌, Bool, true, false, cond, None, Option, ap, ◌∙◌}
use Rattle.language.specs.declared.term.Term.{Term}
use Rattle.language.specs.declared.operator.Operator.TheVariants.{Product}
use Rattle.language.specs.Terms.{scaled, is_constant, limited, worked}

module _ (t u : Term) where
  abbrev product : Bool → Bool → Option Term
  product b c = cond b (limited (scaled t.constant u)) (cond c (limited (scaled u.constant t)) None)

  pub left-constant : true ≡ is_constant t → limited (scaled t.constant u) ≡ worked Product t u
  unfolding worked
  left-constant h = ap (λ (b : Bool). product b (is_constant u)) h

  pub right-constant : false ≡ is_constant t → true ≡ is_constant u → limited (scaled u.constant t) ≡ worked Product t u
  unfolding worked
  right-constant h k = ap (λ (c : Bool). product false c) k ∙ ap (λ (b : Bool). product b (is_constant u)) h

  pub none-constant : false ≡ is_constant t → false ≡ is_constant u → None ≡ worked Product t u
  unfolding worked
  none-constant h k = ap (λ (c : Bool). product false c) k ∙ ap (λ (b : Bool). product b (is_constant u)) h
