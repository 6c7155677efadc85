-- The term at a slot, or the constant 0.
use Rattle.std.proofs.Common.{◌≡◌, ℕ, List, Option, pos, ◌∙◌, ap₂}
use Rattle.std.specs.List.{slice_get}
use Rattle.std.specs.Option.{unwrap_or}
use Rattle.std.proofs.lemmas.Option.{unwrap_or-slice_get}
use Rattle.language.specs.declared.term.Term.{Term}
use Rattle.language.specs.Terms.{constant, term_at}

pub looked : (ts : List Term) (i : ℕ) (o : Option Term) (z t : Term) → o ≡ slice_get ts i → z ≡ constant (pos 0) → t ≡ unwrap_or o z → t ≡ term_at ts i
looked ts i o z t e f g = g ∙ ap₂ unwrap_or e f ∙ unwrap_or-slice_get ts i (constant (pos 0))
