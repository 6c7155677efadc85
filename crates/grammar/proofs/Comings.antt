-- How answers with enough fuel compose.
use Rattle.std.proofs.Common.{◌≡◌, ℕ, zero, suc, ◌≤◌, max, Bool, true, false, cond, refl, ap, ◌∙◌, arith}
use Rattle.letters.specs.declared.token.Token.{Token}
use Rattle.grammar.specs.Parsers.{Look, Ans, done, fault, P, then, give, stop, next, seq, when, wanted, turn}
use Rattle.grammar.specs.Held.{Comes}
use Rattle.grammar.proofs.Loops.{Chained}

module _ (l : Look) where
  pub deeper : {X : Type 0} (p q : ℕ → P X) (i : ℕ) (a : Ans X) → ((f : ℕ) → p (suc f) ≡ q f) → Comes q l i a → Comes p l i a
  deeper {X} p q i a h c = (suc c.0, again)
    where
      again : (f : ℕ) → suc c.0 ≤ f → p f l i ≡ a
      again zero k = absurd (omega arith)
      again (suc f) k = ap (λ (g : P X). g l i) (h f) ∙ c.1 f (omega arith)

  pub given : {X : Type 0} (x : X) (i : ℕ) → Comes (λ _. give x) l i (done x i)
  given x i = (0, λ f h. refl)

  pub stopped : {X : Type 0} (i : ℕ) → Comes {X = X} (λ _. stop) l i (fault i)
  stopped i = (0, λ f h. refl)

  pub seq-comes : {X Y : Type 0} (p : ℕ → P X) (k : ℕ → X → P Y) (i : ℕ) (x : X) (m : ℕ) (a : Ans Y) → Comes p l i (done x m) → Comes (λ f. k f x) l m a → Comes (λ f. seq (p f) (k f)) l i a
  unfolding seq
  seq-comes p k i x m a c d = (max c.0 d.0, λ f h. ap (λ a. then a (λ x j. k f x l j)) (c.1 f (omega arith)) ∙ d.1 f (omega arith))

  pub seq-faults : {X Y : Type 0} (p : ℕ → P X) (k : ℕ → X → P Y) (i m : ℕ) → Comes p l i (fault m) → Comes (λ f. seq (p f) (k f)) l i (fault m)
  unfolding seq
  seq-faults p k i m c = (c.0, λ f h. ap (λ a. then a (λ x j. k f x l j)) (c.1 f h))

  pub next-comes : {Y : Type 0} (k : ℕ → Token → P Y) (i : ℕ) (a : Ans Y) → Comes (λ f. k f (l i)) l (suc i) a → Comes (λ f. seq next (k f)) l i a
  next-comes k i a d = seq-comes (λ _. next) k i (l i) (suc i) a (0, λ f h. refl) d

  pub yes-comes : {X : Type 0} (b : Token → Bool) (p q : ℕ → P X) (i : ℕ) (a : Ans X) → b (l i) ≡ true → Comes p l i a → Comes (λ f. when b (p f) (q f)) l i a
  unfolding when
  yes-comes b p q i a h c = (c.0, λ f k. ap (λ z. cond z (p f l i) (q f l i)) h ∙ c.1 f k)

  pub no-comes : {X : Type 0} (b : Token → Bool) (p q : ℕ → P X) (i : ℕ) (a : Ans X) → b (l i) ≡ false → Comes q l i a → Comes (λ f. when b (p f) (q f)) l i a
  unfolding when
  no-comes b p q i a h c = (c.0, λ f k. ap (λ z. cond z (p f l i) (q f l i)) h ∙ c.1 f k)

  pub want-comes : {Y : Type 0} (b : Token → Bool) (k : ℕ → Token → P Y) (i : ℕ) (a : Ans Y) → b (l i) ≡ true → Comes (λ f. k f (l i)) l (suc i) a → Comes (λ f. seq (wanted b) (k f)) l i a
  want-comes b k i a h d = seq-comes (λ _. wanted b) k i (l i) (suc i) a (yes-comes b (λ _. next) (λ _. stop) i _ h (0, λ f h. refl)) d

  -- what goes on by turns: one turn more, a fault in it, or the end
  module _ {X : Type 0} {b : Token → Bool} {step : ℕ → X → Token → P X} {rest : ℕ → X → P X} (ch : Chained b step rest) (x : X) (i : ℕ) where
    pub turn-comes : (y : X) (m : ℕ) (a : Ans X) → b (l i) ≡ true → Comes (λ f. step f x (l i)) l (suc i) (done y m) → Comes (λ f. rest f y) l m a → Comes (λ f. rest f x) l i a
    turn-comes y m a h c d = deeper (λ f. rest f x) (λ f. turn b (step f) (rest f) x) i a (λ f. ch.by f x) (yes-comes b _ _ i a h (next-comes _ i a (seq-comes (λ f. step f x (l i)) rest (suc i) y m a c d)))

    pub turn-faults : (m : ℕ) → b (l i) ≡ true → Comes (λ f. step f x (l i)) l (suc i) (fault m) → Comes (λ f. rest f x) l i (fault m)
    turn-faults m h c = deeper (λ f. rest f x) (λ f. turn b (step f) (rest f) x) i (fault m) (λ f. ch.by f x) (yes-comes b _ _ i (fault m) h (next-comes _ i (fault m) (seq-faults (λ f. step f x (l i)) rest (suc i) m c)))

    pub turn-ends : b (l i) ≡ false → Comes (λ f. rest f x) l i (done x i)
    turn-ends h = deeper (λ f. rest f x) (λ f. turn b (step f) (rest f) x) i (done x i) (λ f. ch.by f x) (no-comes b _ _ i (done x i) h (given x i))
