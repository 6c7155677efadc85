-- A parser that stops at a fault could have gone on: what stands before the fault can be finished.
use Rattle.std.proofs.Common.{◌≡◌, ℕ, zero, suc, ◌≤◌, Bool, true, false, cond, List, [], ◌∷◌, ◌++◌, sym, refl, ap, ◌∙◌, subst, arith}
use Rattle.letters.specs.declared.token.Token.{Token}
use Rattle.grammar.specs.Parsers.{Look, Ans, done, fault, spent, P, then, give, stop, out, next, seq, when, wanted, turn, chain}
use Rattle.grammar.specs.Derives.{Before}

-- what is derived of tokens up to a position, and of tokens from one position to another
abbrev pub Fact : Type 1
Fact = Look → ℕ → Type 0

abbrev pub Span : Type 1
Span = Look → ℕ → ℕ → Type 0

-- these tokens stand from i to j
pub data Runs (m : Look) : ℕ → List Token → ℕ → Type 0 where
  ran : {i : ℕ} → Runs m i [] i
  runs : {i j : ℕ} {t : Token} {ts : List Token} → m i ≡ t → Runs m (suc i) ts j → Runs m i (t ∷ ts) j

runs-split : (m : Look) (i : ℕ) (ts us : List Token) (j : ℕ) → Runs m i (ts ++ us) j → (k : ℕ) × Runs m i ts k × Runs m k us j
runs-split m i [] us j r = (i, ran, r)
runs-split m i (t ∷ ts) us j (runs e r) = let s = runs-split m (suc i) ts us j r in (s.0, runs e s.1, s.2)

-- some tokens lead from one fact to another
pub record Ends (K H : Fact) : Type 0 where
  pub tokens : List Token
  pub so : (m : Look) (i j : ℕ) → K m i → Runs m i tokens j → H m j

pub none_more : {H : Fact} → Ends H H
none_more {H} = record { tokens = []; so = go }
  where
    go : (m : Look) (i j : ℕ) → H m i → Runs m i [] j → H m j
    go m i j h ran = h

pub one_more : {H : Fact} (b : Token → Bool) (t : Token) → b t ≡ true → Ends (λ m j. b (m j) ≡ true → H m (suc j)) H
one_more {H} b t e = record { tokens = t ∷ []; so = go }
  where
    go : (m : Look) (i j : ℕ) → (b (m i) ≡ true → H m (suc i)) → Runs m i (t ∷ []) j → H m j
    go m i j h (runs q ran) = h (ap b q ∙ e)

ends_on : {K G H : Fact} → Ends K G → Ends G H → Ends K H
ends_on {K} {G} {H} a b = record { tokens = a.tokens ++ b.tokens; so = λ m i j k r. (let s = runs-split m i a.tokens b.tokens j r in b.so m s.0 j (a.so m i s.0 k s.1) s.2) }

-- tokens that are of such a span
pub record Sample (E : Span) : Type 0 where
  pub tokens : List Token
  pub stands : (m : Look) (i j : ℕ) → Runs m i tokens j → E m i j

module _ (l : Look) where
  -- some tokens in place of the one at k and what follows it lead to the fact
  pub record Can (k : ℕ) (H : Fact) : Type 0 where
    pub tokens : List Token
    pub so : (m : Look) → Before k l m → (j : ℕ) → Runs m k tokens j → H m j

  can-on : {k : ℕ} {G H : Fact} → Can k G → Ends G H → Can k H
  can-on {k} c e = record { tokens = c.tokens ++ e.tokens; so = λ m u j r. (let s = runs-split m k c.tokens e.tokens j r in e.so m s.0 j (c.so m u s.0 s.1) s.2) }

  can-by : {k : ℕ} {K H : Fact} → ((m : Look) → Before k l m → K m k) → Ends K H → Can k H
  can-by {k} h e = record { tokens = e.tokens; so = λ m u j r. e.so m k j (h m u) r }

  abbrev Tells : {X : Type 0} → ℕ → Ans X → Fact → Type 0
  Tells i (done x j) H = (i ≤ j) × ((m : Look) → Before j l m → H m j)
  Tells i (fault k) H = (i ≤ k) × Can k H
  Tells i spent H = Unit {0}

  tells-on : {X : Type 0} (a : Ans X) (i j : ℕ) (H : Fact) → i ≤ j → Tells j a H → Tells i a H
  tells-on (done x k) i j H h t = (omega (arith, t.0), t.1)
  tells-on (fault k) i j H h t = (omega (arith, t.0), t.1)
  tells-on spent i j H h t = tt

  -- where p is done the fact holds, and where it stops at a fault the fact could come
  pub record Goes {X : Type 0} (p : P X) (i : ℕ) (H : Fact) : Type 0 where
    pub tells : Tells i (p l i) H

  pub can-of : {X : Type 0} {p : P X} {i k : ℕ} {H : Fact} → Goes p i H → p l i ≡ fault k → Can k H
  can-of {i} {H} g e = (subst (λ a. Tells i a H) e g.tells).1

  pub out-goes : {X : Type 0} {i : ℕ} {H : Fact} → Goes {X = X} out i H
  out-goes = record { tells = tt }

  pub give-goes : {X : Type 0} {x : X} {i : ℕ} {H : Fact} → ((m : Look) → Before i l m → H m i) → Goes (give x) i H
  give-goes h = record { tells = (omega arith, h) }

  pub stop_goes : {X : Type 0} {i : ℕ} {K H : Fact} → Ends K H → ((m : Look) → Before i l m → K m i) → Goes {X = X} stop i H
  stop_goes e h = record { tells = (omega arith, can-by h e) }

  pub when-goes : {X : Type 0} {p q : P X} {i : ℕ} {H : Fact} (b : Token → Bool) → (b (l i) ≡ true → Goes p i H) → (b (l i) ≡ false → Goes q i H) → Goes (when b p q) i H
  unfolding when
  when-goes {p} {q} {i} {H} b f g = record { tells = go (b (l i)) refl }
    where
      go : (z : Bool) → b (l i) ≡ z → Tells i (cond z (p l i) (q l i)) H
      go true e = (f e).tells
      go false e = (g e).tells

  pub next-goes : {X : Type 0} {i : ℕ} {H : Fact} (k : Token → P X) → Goes (k (l i)) (suc i) H → Goes (seq next k) i H
  unfolding seq
  next-goes {i} {H} k g = record { tells = tells-on (k (l i) l (suc i)) i (suc i) H (omega arith) g.tells }

  pub seq-goes : {X Y : Type 0} {p : P X} {k : X → P Y} {i : ℕ} {G H : Fact} → Goes p i G → Ends G H → ((x : X) (j : ℕ) → ((m : Look) → Before j l m → G m j) → Goes (k x) j H) → Goes (seq p k) i H
  unfolding seq
  seq-goes {X} {p} {k} {i} {G} {H} g e f = record { tells = go (p l i) g.tells }
    where
      go : (a : Ans X) → Tells i a G → Tells i (then a (λ x j. k x l j)) H
      go (done x j) t = tells-on (k x l j) i j H t.0 (f x j t.1).tells
      go (fault j) t = (t.0, can-on t.1 e)
      go spent t = tt

  -- from the one fact to the other by this parser, or by some tokens
  pub record Line {X : Type 0} (K : Fact) (p : P X) (H : Fact) : Type 0 where
    pub ends : Ends K H
    pub goes : (i : ℕ) → ((m : Look) → Before i l m → K m i) → Goes p i H

  pub given : {X : Type 0} {x : X} {H : Fact} → Line H (give x) H
  given = record { ends = none_more; goes = λ i h. give-goes h }

  pub bind : {X Y : Type 0} {p : P X} {k : X → P Y} {K G H : Fact} → X → Line K p G → ((x : X) → Line G (k x) H) → Line K (seq p k) H
  bind x a f = record { ends = ends_on a.ends (f x).ends; goes = λ i h. seq-goes (a.goes i h) (f x).ends (λ y j g. (f y).goes j g) }

  -- a token of a kind that is wanted
  pub token : {H : Fact} (b : Token → Bool) (t : Token) → b t ≡ true → Line (λ m j. b (m j) ≡ true → H m (suc j)) (wanted b) H
  token {H} b t e = record { ends = one_more b t e; goes = λ i h. when-goes b (λ q. record { tells = (omega arith, λ m u. h m (λ r k. u r (omega arith)) (ap b (sym (u i (omega arith))) ∙ q)) }) (λ q. stop_goes (one_more b t e) h) }

  pub stopped : {X : Type 0} {H : Fact} (b : Token → Bool) (t : Token) → b t ≡ true → Line (λ m j. b (m j) ≡ true → H m (suc j)) (stop {X = X}) H
  stopped b t e = record { ends = one_more b t e; goes = λ i h. stop_goes (one_more b t e) h }

  goes-as : {X : Type 0} {p : P X} {i : ℕ} {G H : Fact} → Goes p i G → ((m : Look) → Before i l m → (j : ℕ) → G m j → H m j) → Goes p i H
  goes-as {X} {p} {i} {G} {H} g h = record { tells = go (p l i) g.tells }
    where
      go : (a : Ans X) → Tells i a G → Tells i a H
      go (done x j) t = (t.0, λ m u. h m (λ q k. u q (omega (arith, t.0))) j (t.1 m u))
      go (fault k) t = (t.0, record { tokens = t.1.tokens; so = λ m u j r. h m (λ q k. u q (omega (arith, t.0))) j (t.1.so m u j r) })
      go spent t = tt

  -- a part with a parser of its own
  pub part : {X : Type 0} {E : Span} {p : P X} {H : Fact} → Sample E → ((i : ℕ) → Goes p i (λ m j. E m i j)) → Line (λ m i. (j : ℕ) → E m i j → H m j) p H
  part {H} s g = record { ends = record { tokens = s.tokens; so = λ m i j k r. k j (s.stands m i j r) }; goes = λ i h. goes-as (g i) (λ m u j e. h m u j e) }

  -- one way or the other, by the token at hand
  pub fork : {X : Type 0} {k : Token → P X} {q : P X} {K J H : Fact} (b : Token → Bool) → ((t : Token) → Line K (k t) H) → Line J q H → Line (λ m i. (b (m i) ≡ true → K m (suc i)) × J m i) (when b (seq next k) q) H
  fork b f a = record {
    ends = record { tokens = a.ends.tokens; so = λ m i j k r. a.ends.so m i j k.1 r };
    goes = λ i h. when-goes b (λ q. next-goes _ ((f (l i)).goes (suc i) (λ m u. (h m (λ r k. u r (omega arith))).0 (ap b (sym (u i (omega arith))) ∙ q)))) (λ q. a.goes i (λ m u. (h m u).1));
  }

  -- what is found may say less
  pub less : {X : Type 0} {p : P X} {K G H : Fact} → ((m : Look) (j : ℕ) → G m j → H m j) → Line K p G → Line K p H
  less h a = record { ends = record { tokens = a.ends.tokens; so = λ m i j k r. h m j (a.ends.so m i j k r) }; goes = λ i k. goes-as (a.goes i k) (λ m u j g. h m j g) }

  -- one turn, and turns with enough fuel
  pub turn-goes : {X : Type 0} {H : Fact} (b : Token → Bool) (step : X → Token → P X) (rest : X → P X) (x : X) (i : ℕ) → (b (l i) ≡ true → Goes (step x (l i)) (suc i) H) → ((y : X) (j : ℕ) → ((m : Look) → Before j l m → H m j) → Goes (rest y) j H) → ((m : Look) → Before i l m → H m i) → Goes (turn b step rest x) i H
  turn-goes b step rest x i f g h = when-goes b (λ q. next-goes _ (seq-goes (f q) none_more g)) (λ q. give-goes h)

  module _ {X : Type 0} {H : Fact} (b : Token → Bool) (step : ℕ → X → Token → P X) (s : (f : ℕ) (x : X) (i : ℕ) → b (l i) ≡ true → ((m : Look) → Before i l m → H m i) → Goes (step f x (l i)) (suc i) H) where
    chain-goes : (f : ℕ) (x : X) (i : ℕ) → ((m : Look) → Before i l m → H m i) → Goes (chain b step f x) i H
    unfolding chain
    chain-goes zero x i h = out-goes
    chain-goes (suc f) x i h = turn-goes b (step f) (chain b step f) x i (λ q. s f x i q h) (λ y j k. chain-goes f y j k) h

    pub loop : (f : ℕ) (x : X) → Line H (chain b step f x) H
    loop f x = record { ends = none_more; goes = λ i h. chain-goes f x i h }

  pub run : {X : Type 0} {p : P X} {K H : Fact} (i : ℕ) → Line K p H → ((m : Look) → Before i l m → K m i) → Goes p i H
  run i a h = a.goes i h
