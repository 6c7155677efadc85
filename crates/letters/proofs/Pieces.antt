-- The byte at the front of the rest of a text.
use Rattle.std.proofs.Common.{◌≡◌, ℕ, ◌+◌, Bool, eqb, List, get_or, drop, sym, ap, ◌∙◌, ap₂, add-zero}
use Rattle.std.proofs.lemmas.List.{get_or-drop}
use Rattle.letters.specs.Cuts.{sign_of, sign_by, sign_at}

pub first-at : (xs : List ℕ) (i : ℕ) → get_or (drop i xs) 0 0 ≡ get_or xs i 0
first-at xs i = get_or-drop i xs 0 0 ∙ ap (λ j. get_or xs j 0) (add-zero i)

-- the sign at a place of a text, by the byte there and the one after it
pub sign_at-law : (xs : List ℕ) (i : ℕ) (e : Bool) → e ≡ eqb (get_or xs (i + 1) 0) 61 → sign_by i (sign_of (get_or xs i 0) e) ≡ sign_at i (drop i xs)
sign_at-law xs i e h = ap₂ (λ b t. sign_by i (sign_of b t)) (sym (first-at xs i)) (h ∙ ap (λ b. eqb b 61) (sym (get_or-drop i xs 1 0)))
