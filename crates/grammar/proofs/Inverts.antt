-- What an answer says of the parts of a parser.
use Rattle.std.proofs.Common.{◌≡◌, ℕ, suc, Bool, true, false, cond, ◌⊎◌, refl, inl, inr, arith}
use Rattle.letters.specs.declared.token.Token.{Token}
use Rattle.grammar.specs.Parsers.{Look, Ans, done, fault, spent, P, then, stop, next, seq, when, wanted}

pub no-fault : {X : Type 0} {i j : ℕ} {x : X} → fault i ≡ done x j → ⊥
no-fault e = let z : ◌≡◌ {A = ℕ} 0 1 = cc in omega arith

pub no-spent : {X : Type 0} {j : ℕ} {x : X} → spent ≡ done x j → ⊥
no-spent e = let z : ◌≡◌ {A = ℕ} 0 1 = cc in omega arith

pub seq-inv : {X Y : Type 0} (p : P X) (k : X → P Y) (l : Look) (i : ℕ) (y : Y) (j : ℕ) → seq p k l i ≡ done y j → (x : X) × (m : ℕ) × (p l i ≡ done x m) × (k x l m ≡ done y j)
unfolding seq
seq-inv {X} {Y} p k l i y j e = go (p l i) refl e
  where
    go : (a : Ans X) → p l i ≡ a → then a (λ x j. k x l j) ≡ done y j → (x : X) × (m : ℕ) × (p l i ≡ done x m) × (k x l m ≡ done y j)
    go (done x m) q e = (x, m, q, e)
    go (fault m) q e = absurd (no-fault e)
    go spent q e = absurd (no-spent e)

pub when-inv : {X : Type 0} (b : Token → Bool) (p q : P X) (l : Look) (i : ℕ) (a : Ans X) → when b p q l i ≡ a → ((b (l i) ≡ true) × (p l i ≡ a)) ⊎ ((b (l i) ≡ false) × (q l i ≡ a))
unfolding when
when-inv {X} b p q l i a e = go (b (l i)) refl e
  where
    go : (z : Bool) → b (l i) ≡ z → cond z (p l i) (q l i) ≡ a → ((b (l i) ≡ true) × (p l i ≡ a)) ⊎ ((b (l i) ≡ false) × (q l i ≡ a))
    go true h e = inl (h, e)
    go false h e = inr (h, e)

pub next-then : {Y : Type 0} (k : Token → P Y) (l : Look) (i : ℕ) (a : Ans Y) → seq next k l i ≡ a → k (l i) l (suc i) ≡ a
unfolding seq
next-then k l i a e = e

pub want-then : {Y : Type 0} (b : Token → Bool) (k : Token → P Y) (l : Look) (i : ℕ) (y : Y) (j : ℕ) → seq (wanted b) k l i ≡ done y j → (b (l i) ≡ true) × (k (l i) l (suc i) ≡ done y j)
unfolding seq when
want-then {Y} b k l i y j e = go (b (l i)) refl e
  where
    go : (z : Bool) → b (l i) ≡ z → then (cond z (next l i) (stop l i)) (λ x j. k x l j) ≡ done y j → (b (l i) ≡ true) × (k (l i) l (suc i) ≡ done y j)
    go true h e = (h, e)
    go false h e = absurd (no-fault e)

pub done-val : {X : Type 0} {x y : X} {i j : ℕ} → done x i ≡ done y j → x ≡ y
done-val e = cc

pub done_at : {X : Type 0} {x y : X} {i j : ℕ} → done x i ≡ done y j → i ≡ j
done_at e = cc
