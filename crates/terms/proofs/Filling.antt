-- Loops that fill sixteen places, one after another.
use Rattle.std.proofs.Common.{◌≡◌, ℕ, ◌+◌, ◌<◌, ◌≤◌, List, length, get_or, set, ℤ, pos, ap, ◌∙◌, arith}
use Rattle.std.proofs.lemmas.List.{length-set}
use Rattle.std.proofs.lemmas.List.Edits.{fill_by_more}
use Rattle.std.proofs.lemmas.List.FromFn.{fill_by_all}
use Rattle.language.specs.Terms.{each}

-- the first j places hold what f gives
pub record Filled (f : ℕ → ℤ) (out : List ℤ) (j : ℕ) : Type 0 where
  pub long : length out ≡ 16
  pub done : (k : ℕ) → k < j → get_or out k (pos 0) ≡ f k

module _ (f : ℕ → ℤ) (out : List ℤ) where
  pub filled_none : length out ≡ 16 → Filled f out 0
  filled_none h = record { long = h; done = λ k l. let no : ⊥ = omega arith in absurd no }

  module _ (j : ℕ) (h : Filled f out j) where
    pub filled_more : (v : ℤ) → j < 16 → v ≡ f j → Filled f (set out j v) (j + 1)
    filled_more v l e = record {
      long = length-set out j v ∙ h.long;
      done = λ k m. ap (λ x. get_or (set out j x) k (pos 0)) e ∙ fill_by_more f out j (pos 0) (omega (arith, h.long)) h.done k m;
    }

    pub filled-all : 16 ≤ j → out ≡ each f
    unfolding each
    filled-all l = fill_by_all f out 16 (pos 0) h.long (λ k m. h.done k (omega arith))
