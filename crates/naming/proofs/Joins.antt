-- What is joined, as a list of what is read one after another.
use Rattle.std.proofs.Common.{◌≡◌, ℕ, zero, suc, Bool, true, false, cond, List, [], ◌∷◌, ◌++◌, sym, refl, ap, ◌∙◌}
use Rattle.std.proofs.lemmas.List.{append-nil, append_assoc}
use Rattle.letters.specs.declared.token.Token.{Token}
use Rattle.letters.specs.declared.kind.Kind.TheVariants.{Comma, Close}
use Rattle.grammar.specs.Parsers.{Look, is_a}
use Rattle.grammar.specs.Stretches.{Past, past, joined, param_at, params_at}
use Rattle.naming.specs.Stretching.{Reader, rest, end, params}

abbrev pub after : {X : Type 0} → Reader X → List X → Token → ℕ → Past (List X)
after one xs t i = past (xs ++ (one t i).value ∷ []) (one t i).next

pub joined-value : {X : Type 0} (l : Look) (b : Token → Bool) (one : Reader X) (n : ℕ) (xs : List X) (i : ℕ) → (joined l b (after one) n xs i).value ≡ xs ++ rest l b one n i
unfolding joined rest
joined-value l b one zero xs i = sym (append-nil xs)
joined-value {X} l b one (suc n) xs i = go (joined-value l b one n (xs ++ x ∷ []) j) (b (l i))
  where
    x : X
    x = (one (l i) (suc i)).value

    j : ℕ
    j = (one (l i) (suc i)).next

    go : (joined l b (after one) n (xs ++ x ∷ []) j).value ≡ (xs ++ x ∷ []) ++ rest l b one n j → (t : Bool) → (cond t (joined l b (after one) n (xs ++ x ∷ []) j) (past xs i)).value ≡ xs ++ cond t (x ∷ rest l b one n j) []
    go e true = e ∙ append_assoc xs (x ∷ []) (rest l b one n j)
    go e false = sym (append-nil xs)

pub joined-next : {X : Type 0} (l : Look) (b : Token → Bool) (one : Reader X) (n : ℕ) (xs : List X) (i : ℕ) → (joined l b (after one) n xs i).next ≡ end l b one n i
unfolding joined end
joined-next l b one zero xs i = refl
joined-next {X} l b one (suc n) xs i = go (joined-next l b one n (xs ++ x ∷ []) j) (b (l i))
  where
    x : X
    x = (one (l i) (suc i)).value

    j : ℕ
    j = (one (l i) (suc i)).next

    go : (joined l b (after one) n (xs ++ x ∷ []) j).next ≡ end l b one n j → (t : Bool) → (cond t (joined l b (after one) n (xs ++ x ∷ []) j) (past xs i)).next ≡ cond t (end l b one n j) i
    go e true = e
    go e false = refl

-- nothing is joined where no such token stands
pub rest-none : {X : Type 0} (l : Look) (b : Token → Bool) (one : Reader X) (n i : ℕ) → b (l i) ≡ false → rest l b one n i ≡ []
unfolding rest
rest-none l b one zero i e = refl
rest-none l b one (suc n) i e = rw e

pub end_none : {X : Type 0} (l : Look) (b : Token → Bool) (one : Reader X) (n i : ℕ) → b (l i) ≡ false → end l b one n i ≡ i
unfolding end
end_none l b one zero i e = refl
end_none l b one (suc n) i e = rw e

pub params-list : (l : Look) (n i : ℕ) → params_at n l i ≡ cond (is_a Close (l i)) [] ((param_at l i).value ∷ params l n (param_at l i).next)
params-list l n i = ap (λ ps. cond (is_a Close (l i)) [] ps) (joined-value l (is_a Comma) (λ t j. param_at l j) n ((param_at l i).value ∷ []) (param_at l i).next)
