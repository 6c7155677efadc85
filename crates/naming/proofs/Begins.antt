-- Reading a head parameter by parameter.
use Rattle.std.proofs.Common.{◌≡◌, ℕ, zero, suc, ◌+◌, ◌-◌, ◌<◌, ◌≤◌, min, Bool, true, false, cond, not, List, [], ◌∷◌, length, take, is_some, unwrap_or, Some, None, Option, sym, refl, ap, ◌∙◌, inl, inr, arith}
use Rattle.std.proofs.lemmas.List.{get_or_past, take_all}
use Rattle.std.proofs.lemmas.Bool.{cases_lt, lt-ltb}
use Rattle.std.specs.Bool.{then_some}
use Rattle.std.specs.Iterator.{Yields}
use Rattle.letters.specs.declared.kind.Kind.{Kind}
use Rattle.letters.specs.declared.kind.Kind.TheVariants.{Comma, Close, OpenSquare, End}
use Rattle.letters.specs.declared.token.Token.{Token}
use Rattle.letters.specs.Kinds.{same_kind}
use Rattle.letters.specs.Tokens.{token_of}
use Rattle.grammar.specs.Raw as Raw
use Rattle.grammar.specs.Parsers.{Look, is_a, look_in}
use Rattle.grammar.specs.Sheets.{number_param, list_param}
use Rattle.grammar.specs.Stretches.{Past, past, param_at, params_at}
use Rattle.naming.specs.declared.head.Param.{Param}
use Rattle.naming.specs.declared.head.Params.{Params}
use Rattle.naming.specs.Stretching.{Reader, rest, end, params, begun, ended, left, next_after, Gives}
use Rattle.naming.proofs.Joins.{rest-none, end_none, params-list}

pub take_min : {X : Type 0} (xs : List X) (n : ℕ) → take (min (length xs) n) xs ≡ take n xs
take_min xs n = elim (cases_lt n (length xs)) [ inl h ↦ ap (λ m. take m xs) (omega arith) | inr h ↦ ap (λ m. take m xs) (omega arith) ∙ take_all (length xs) xs (omega arith) ∙ sym (take_all n xs h) ]

-- a token of another kind than the end's stands among the tokens
pub stands : (k : Kind) (ts : List Token) (e i : ℕ) → is_a k (token_of End e 0 0) ≡ false → is_a k (look_in ts e i) ≡ true → i < length ts
stands k ts e i f t = elim (cases_lt i (length ts)) [
  | inl h ↦ h
  | inr h ↦ let g = ap (is_a k) (get_or_past ts i (token_of End e 0 0) h) in let z : true ≡ false = sym t ∙ g ∙ f in let o : ◌≡◌ {A = ℕ} 0 1 = cc in absurd (omega arith)
]

past-param : (l : Look) (i e : ℕ) → l i ≡ token_of End e 0 0 → l (suc i) ≡ token_of End e 0 0 → param_at l i ≡ past (number_param (token_of End e 0 0)) (suc i)
unfolding same_kind
past-param l i e a b = ap (λ t. cond (is_a OpenSquare t) (past (list_param (l i) (l (suc (suc i)))) (suc (suc (suc (suc i))))) (past (number_param (l i)) (suc i))) b ∙ ap (λ t. past (number_param t) (suc i)) a

past-params : (ts : List Token) (e n i : ℕ) → length ts ≤ i → params_at n (look_in ts e) i ≡ number_param (token_of End e 0 0) ∷ []
unfolding same_kind
past-params ts e n i h =
    let l : Look = look_in ts e in
    let a : l i ≡ token_of End e 0 0 = get_or_past ts i (token_of End e 0 0) h in
    let b : l (suc i) ≡ token_of End e 0 0 = get_or_past ts (suc i) (token_of End e 0 0) (omega arith) in
    params-list l n i
    ∙ ap (λ t. cond (is_a Close t) [] ((param_at l i).value ∷ params l n (param_at l i).next)) a
    ∙ ap (λ (p : Past Raw.Param). p.value ∷ params l n p.next) (past-param l i e a b)
    ∙ ap (λ ps. number_param (token_of End e 0 0) ∷ ps) (rest-none l (is_a Comma) (λ t j. param_at l j) n (suc i) (ap (is_a Comma) b))

-- one is read past each such token
module _ {X : Type 0} (l : Look) (b : Token → Bool) (one : Reader X) where
  pub left-none : (p : Past X) (n : ℕ) (here : Bool) → here ≡ false → begun l b one p n here ≡ []
  unfolding begun
  left-none p n here e = rw e

  pub ended-none : (p : Past X) (n last : ℕ) (here : Bool) → begun l b one p n here ≡ [] → ended l b one p n last here ≡ last
  unfolding begun ended
  ended-none p n last true e = let o = ap length e in absurd (omega arith)
  ended-none p n last false e = refl

  next-some : (m j : ℕ) → b (l j) ≡ true → next_after (b (l j)) (suc m) j ≡ Some (j + 1)
  next-some m j k = ap (λ t. next_after t (suc m) j) k ∙ ap (λ t. cond t (Some (j + 1)) None) (lt-ltb 0 (suc m) (omega arith))

  next-none : (m j : ℕ) → b (l j) ≡ false → next_after (b (l j)) (suc m) j ≡ None
  next-none m j k = ap (λ t. next_after t (suc m) j) k ∙ ap (λ t. cond t None None) (lt-ltb 0 (suc m) (omega arith))

  -- one is given, and what is left begins past the token after it
  pub left-on : (p : Past X) (n j : ℕ) (here : Bool) (x : X) (o : Option ℕ) → here ≡ true → p ≡ past x j → o ≡ next_after (b (l j)) n j → begun l b one p n here ≡ x ∷ begun l b one (one (l j) (unwrap_or o 0)) (n - 1) (is_some o)
  unfolding begun rest
  left-on p n j here x o h e f = ap (λ t. begun l b one p n t) h ∙ ap (λ q. begun l b one q n true) e ∙ go n (b (l j)) refl ∙ ap (λ m. x ∷ begun l b one (one (l j) (unwrap_or m 0)) (n - 1) (is_some m)) (sym f)
    where
      go : (n : ℕ) (t : Bool) → b (l j) ≡ t → x ∷ rest l b one n j ≡ x ∷ begun l b one (one (l j) (unwrap_or (next_after (b (l j)) n j) 0)) (n - 1) (is_some (next_after (b (l j)) n j))
      go zero t k = refl
      go (suc m) true k =
          ap (λ t. x ∷ cond t ((one (l j) (suc j)).value ∷ rest l b one m (one (l j) (suc j)).next) []) k
          ∙ ap (λ i. x ∷ ((one (l j) i).value ∷ rest l b one m (one (l j) i).next)) (omega arith)
          ∙ ap (λ q. x ∷ begun l b one (one (l j) (j + 1)) q true) (omega arith)
          ∙ ap (λ m'. x ∷ begun l b one (one (l j) (unwrap_or m' 0)) (suc m - 1) (is_some m')) (sym (next-some m j k))
      go (suc m) false k = ap (λ xs. x ∷ xs) (rest-none l b one (suc m) j k) ∙ ap (λ m'. x ∷ begun l b one (one (l j) (unwrap_or m' 0)) (suc m - 1) (is_some m')) (sym (next-none m j k))

  pub ended-on : (p : Past X) (n j last : ℕ) (here : Bool) (x : X) (o : Option ℕ) → here ≡ true → p ≡ past x j → o ≡ next_after (b (l j)) n j → ended l b one p n last here ≡ ended l b one (one (l j) (unwrap_or o 0)) (n - 1) j (is_some o)
  unfolding ended end
  ended-on p n j last here x o h e f = ap (λ t. ended l b one p n last t) h ∙ ap (λ q. ended l b one q n last true) e ∙ go n (b (l j)) refl ∙ ap (λ m. ended l b one (one (l j) (unwrap_or m 0)) (n - 1) j (is_some m)) (sym f)
    where
      go : (n : ℕ) (t : Bool) → b (l j) ≡ t → end l b one n j ≡ ended l b one (one (l j) (unwrap_or (next_after (b (l j)) n j) 0)) (n - 1) j (is_some (next_after (b (l j)) n j))
      go zero t k = refl
      go (suc m) true k =
          ap (λ t. cond t (end l b one m (one (l j) (suc j)).next) j) k
          ∙ ap (λ i. end l b one m (one (l j) i).next) (omega arith)
          ∙ ap (λ q. ended l b one (one (l j) (j + 1)) q j true) (omega arith)
          ∙ ap (λ m'. ended l b one (one (l j) (unwrap_or m' 0)) (suc m - 1) j (is_some m')) (sym (next-some m j k))
      go (suc m) false k = end_none l b one (suc m) j k ∙ ap (λ m'. ended l b one (one (l j) (unwrap_or m' 0)) (suc m - 1) j (is_some m')) (sym (next-none m j k))

-- none is to come where the bracket closes, else the first is
pub begun_at : (ts : List Token) (e i j : ℕ) (none : Bool) (o : Option ℕ) → j ≡ min i (length ts) → none ≡ is_a Close (look_in ts e j) → o ≡ then_some (not none) j → begun (look_in ts e) (is_a Comma) (λ t k. param_at (look_in ts e) k) (param_at (look_in ts e) (unwrap_or o 0)) (length ts) (is_some o) ≡ params_at (length ts) (look_in ts e) i
unfolding begun
begun_at ts e i j none o a b d = ap left-by d ∙ go none b ∙ sym (params-list l (length ts) j) ∙ ap (params_at (length ts) l) a ∙ clamped
  where
    l : Look
    l = look_in ts e

    left-by : Option ℕ → List Raw.Param
    left-by o = begun l (is_a Comma) (λ t k. param_at l k) (param_at l (unwrap_or o 0)) (length ts) (is_some o)

    go : (t : Bool) → t ≡ is_a Close (l j) → left-by (then_some (not t) j) ≡ cond (is_a Close (l j)) [] ((param_at l j).value ∷ params l (length ts) (param_at l j).next)
    go true h = ap (λ t. cond t [] ((param_at l j).value ∷ params l (length ts) (param_at l j).next)) h
    go false h = ap (λ t. cond t [] ((param_at l j).value ∷ params l (length ts) (param_at l j).next)) h

    clamped : params_at (length ts) l (min i (length ts)) ≡ params_at (length ts) l i
    clamped = elim (cases_lt i (length ts)) [ inl h ↦ ap (params_at (length ts) l) (omega arith) | inr h ↦ past-params ts e (length ts) (min i (length ts)) (omega arith) ∙ sym (past-params ts e (length ts) i h) ]

length_rest : {X : Type 0} (l : Look) (b : Token → Bool) (one : Reader X) (n i : ℕ) → length (rest l b one n i) ≤ n
unfolding rest
length_rest l b one zero i = omega arith
length_rest l b one (suc n) i = go (length_rest l b one n (one (l i) (suc i)).next) (b (l i))
  where
    go : length (rest l b one n (one (l i) (suc i)).next) ≤ n → (t : Bool) → length (cond t ((one (l i) (suc i)).value ∷ rest l b one n (one (l i) (suc i)).next) []) ≤ suc n
    go h true = omega arith
    go h false = omega arith

pub length-left : {X : Type 0} (l : Look) (b : Token → Bool) (one : Reader X) (p : Past X) (n : ℕ) (here : Bool) → length (begun l b one p n here) ≤ n + 1
unfolding begun
length-left l b one p n true = let h = length_rest l b one n p.next in omega arith
length-left l b one p n false = omega arith

pub comma-stands : (ts : List Token) (e i : ℕ) → is_a Comma (look_in ts e i) ≡ true → i < length ts
unfolding same_kind
comma-stands ts e i t = stands Comma ts e i refl t

-- calls gave as many as were left
pub drained : (ps : List Param) (s t u : Params) → Yields Gives s ps t → Gives t None u → length ps ≡ length (left s)
drained [] s t u e d = ap length (sym (ap left e ∙ d.0.0))
drained (p ∷ ps) s t u y d = ap suc (drained ps y.0 t u y.2 d) ∙ ap length (sym y.1.0)
