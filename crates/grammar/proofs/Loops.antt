-- Loops: while the token at hand is such a one, past it and one step more.
use Rattle.std.proofs.Common.{◌≡◌, ℕ, suc, ◌≤◌, Bool, true, false, Ok, Err, Result, sym, refl, arith}
use Rattle.letters.specs.declared.token.Token.{Token}
use Rattle.grammar.specs.declared.misplaced.Misplaced.{Misplaced}
use Rattle.grammar.specs.Parsers.{P, next, turn, chain}
use Rattle.grammar.specs.Held.{Held, look, token_count, Taken, Went}
use Rattle.grammar.proofs.Laws.{fuelled, on-yes, on-no, seq-ok, seq-err, gives}

-- the value so far, and that what comes of it comes of the first
pub record Now {A X : Type 0} (R : Held → A → X → Type 0) (rest : ℕ → X → P X) (x0 : X) (a : A) (s0 s : Held) : Type 0 where
  pub val : X
  pub rel : R s a val
  pub on : (r : Result A Misplaced) (s' : Held) → Went R r (λ f. rest f val) s s' → Went R r (λ f. rest f x0) s0 s'

pub record Ran {A X : Type 0} (K : Held → Held → Type 0) (R : Held → A → X → Type 0) (rest : ℕ → X → P X) (a0 a : A) (s0 s : Held) : Type 0 where
  pub size : token_count s ≡ token_count s0
  pub ahead : s0.at ≤ s.at
  pub paid : K s0 s
  pub so : (x0 : X) → R s0 a0 x0 → Now R rest x0 a s0 s

pub ran-start : {A X : Type 0} (K : Held → Held → Type 0) (R : Held → A → X → Type 0) (rest : ℕ → X → P X) (a : A) (s : Held) → K s s → Ran K R rest a a s s
ran-start K R rest a s k = record { size = refl; ahead = omega arith; paid = k; so = λ x0 h. record { val = x0; rel = h; on = λ r s' w. w } }

-- what goes on by turns
pub record Chained {X : Type 0} (b : Token → Bool) (step : ℕ → X → Token → P X) (rest : ℕ → X → P X) : Type 0 where
  pub by : (f : ℕ) (x : X) → rest (suc f) x ≡ turn b (step f) (rest f) x

pub chain-chained : {X : Type 0} (b : Token → Bool) (step : ℕ → X → Token → P X) → Chained b step (chain b step)
unfolding chain
chain-chained b step = record { by = λ f x. refl }

module _ {A X : Type 0} {K : Held → Held → Type 0} {R : Held → A → X → Type 0} {b : Token → Bool} {step : ℕ → X → Token → P X} {rest : ℕ → X → P X} (ch : Chained b step rest) {a0 a : A} {s0 s : Held} where
  pub turn_on : {a' : A} {s1 s2 : Held} {t : ℕ} → Ran K R rest a0 a s0 s → true ≡ b (look s s.at) → (w : Went Taken (Ok t) (λ _. next) s s1) → ((x : X) → R s a x → Went R (Ok a') (λ f. step f x w.told.val) s1 s2) → K s0 s2 → token_count s2 ≡ token_count s0 → s0.at ≤ s2.at → Ran K R rest a0 a' s0 s2
  turn_on i e w v k size ahead = record {
    size = size;
    ahead = ahead;
    paid = k;
    so = λ x0 h.
        let n = i.so x0 h in
        let u = v n.val n.rel in
        record { val = u.told.val; rel = u.told.rel; on = λ r s' z. n.on r s' (fuelled (λ f. rest f n.val) _ (λ f. ch.by f n.val) (on-yes _ _ _ (sym e) (seq-ok _ w (seq-ok rest u z)))) };
  }

  pub turn-err : {e : Misplaced} {s1 s2 : Held} {t : ℕ} → Ran K R rest a0 a s0 s → true ≡ b (look s s.at) → (w : Went Taken (Ok t) (λ _. next) s s1) → ((x : X) → R s a x → Went R (Err e) (λ f. step f x w.told.val) s1 s2) → (x0 : X) → R s0 a0 x0 → Went R (Err e) (λ f. rest f x0) s0 s2
  turn-err i e w v x0 h =
      let n = i.so x0 h in
      n.on _ _ (fuelled (λ f. rest f n.val) _ (λ f. ch.by f n.val) (on-yes _ _ _ (sym e) (seq-ok _ w (seq-err rest (v n.val n.rel)))))

  pub turn_end : Ran K R rest a0 a s0 s → false ≡ b (look s s.at) → (x0 : X) → R s0 a0 x0 → Went R (Ok a) (λ f. rest f x0) s0 s
  turn_end i e x0 h =
      let n = i.so x0 h in
      n.on _ _ (fuelled (λ f. rest f n.val) _ (λ f. ch.by f n.val) (on-no _ _ _ (sym e) (gives n.rel)))
