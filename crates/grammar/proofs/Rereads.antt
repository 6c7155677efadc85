-- Conditions and params that were parsed are read again as they were.
use Rattle.std.proofs.Common.{◌≡◌, ℕ, zero, suc, ◌+◌, ◌≤◌, Bool, true, false, cond, eqb, List, [], ◌∷◌, ◌++◌, length, sym, refl, ap, ◌∙◌, ap₂, inl, inr, arith}
use Rattle.std.proofs.lemmas.List.{get_or_past}
use Rattle.letters.specs.declared.kind.Kind.{Kind}
use Rattle.letters.specs.declared.kind.Kind.TheVariants.{Name, Numeral, Close, OpenSquare, CloseSquare, Comma, Minus, Times, Plus, End}
use Rattle.letters.specs.declared.token.Token.{Token}
use Rattle.letters.specs.Kinds.{number, same_kind}
use Rattle.grammar.specs.Raw.{Item, Side, Condition, Param}
use Rattle.grammar.specs.Parsers.{Look, is_a, done, P, give, seq, chain}
use Rattle.grammar.specs.Sheets.{sum_sign, compares, quantity, plain_item, times_item, item_s, item_on, side_s, condition_of, condition_s, condition_on, conditions_s, optional_s, number_param, list_param, param_s, param_on, params_s}
use Rattle.grammar.specs.Stretches.{Past, past, joined, item_at, item_after, side_at, condition_at, condition_after, conditions_at, optional_at, param_at, param_after, params_at}
use Rattle.grammar.specs.Trees.{Source, look_of}
use Rattle.grammar.specs.Held.{Comes}
use Rattle.grammar.proofs.Inverts.{no-spent, seq-inv, when-inv, next-then, want-then, done-val, done_at}

-- what was parsed from i on is what is read there
pub record Read {X : Type 0} (r : Past X) (i : ℕ) (x : X) (j : ℕ) : Type 0 where
  pub same : r ≡ past x j
  pub on : i ≤ j

-- no such token stands past the last
abbrev Ends : Look → (Token → Bool) → ℕ → Type 0
Ends l b n = (i : ℕ) → n ≤ i → b (l i) ≡ false

chain-reads : {A : Type 0} (l : Look) (n : ℕ) (b : Token → Bool) (step : ℕ → A → Token → P A) (after : A → Token → ℕ → Past A) → Ends l b n
    → ((f : ℕ) (a : A) (t : Token) (i : ℕ) (a' : A) (j : ℕ) → step f a t l i ≡ done a' j → Read (after a t i) i a' j)
    → (f m : ℕ) (a : A) (i : ℕ) (a' : A) (j : ℕ) → n ≤ i + m → chain b step f a l i ≡ done a' j → Read (joined l b after m a i) i a' j
unfolding chain joined
chain-reads l n b step after ends h zero m a i a' j k e = absurd (no-spent e)
chain-reads l n b step after ends h (suc f) zero a i a' j k e = elim (when-inv b _ _ l i _ e) [
  | inl y ↦ (let z : true ≡ false = sym y.0 ∙ ends i (omega arith) in let no : ◌≡◌ {A = ℕ} 0 1 = cc in absurd (omega arith))
  | inr y ↦ record { same = ap₂ past (done-val y.1) (done_at y.1); on = let q = done_at y.1 in omega arith }
]
chain-reads {A} l n b step after ends h (suc f) (suc m) a i a' j k e = elim (when-inv b _ _ l i _ e) [
  | inl y ↦ (
      let s = seq-inv (step f a (l i)) (chain b step f) l (suc i) a' j (next-then _ l i _ y.1) in
      let r = h f a (l i) (suc i) s.0 s.1 s.2 in
      let q = chain-reads l n b step after ends h f m s.0 s.1 a' j (let z = r.on in omega arith) s.3 in
      record {
        same = ap (λ z. cond z (joined l b after m (after a (l i) (suc i)).value (after a (l i) (suc i)).next) (past a i)) y.0 ∙ ap (λ (p : Past A). joined l b after m p.value p.next) r.same ∙ q.same;
        on = let z = r.on in let w = q.on in omega arith;
      })
  | inr y ↦ record {
    same = ap (λ z. cond z (joined l b after m (after a (l i) (suc i)).value (after a (l i) (suc i)).next) (past a i)) y.0 ∙ ap₂ past (done-val y.1) (done_at y.1);
    on = let q = done_at y.1 in omega arith;
  }
]

module _ (s : Source) where
  pub ends-kind : (k : Kind) → eqb (number End) (number k) ≡ false → (i : ℕ) → length s.tokens ≤ i → is_a k (look_of s i) ≡ false
  unfolding same_kind
  ends-kind k e i h = ap (λ (t : Token). is_a k t) (get_or_past s.tokens i _ h) ∙ e

  ends-sum : Ends (look_of s) sum_sign (length s.tokens)
  ends-sum i h = ap (λ b. cond b true (is_a Minus (look_of s i))) (ends-kind Plus refl i h) ∙ ends-kind Minus refl i h

  item-reads : (res m : Bool) (i : ℕ) (it : Item) (j : ℕ) → item_s res m (look_of s) i ≡ done it j → Read (item_at (look_of s) m i) i it j
  item-reads res m i it j e = elim (when-inv (is_a Numeral) _ _ (look_of s) i _ e) [
    | inl y ↦ elim (when-inv (is_a Times) _ _ (look_of s) (suc i) _ (next-then _ (look_of s) i _ y.1)) [
      | inl z ↦ (
          let q = want-then (quantity res) _ (look_of s) (suc (suc i)) it j (next-then _ (look_of s) (suc i) _ z.1) in
          record { same = (λ k. cond (y.0 k) (cond (z.0 k) (past (times_item m (look_of s i) (look_of s (suc (suc i)))) (suc (suc (suc i)))) (past (plain_item m (look_of s i)) (suc i))) (past (plain_item m (look_of s i)) (suc i))) ∙ ap₂ past (done-val q.1) (done_at q.1); on = let w = done_at q.1 in omega arith })
      | inr z ↦ record { same = (λ k. cond (y.0 k) (cond (z.0 k) (past (times_item m (look_of s i) (look_of s (suc (suc i)))) (suc (suc (suc i)))) (past (plain_item m (look_of s i)) (suc i))) (past (plain_item m (look_of s i)) (suc i))) ∙ ap₂ past (done-val z.1) (done_at z.1); on = let w = done_at z.1 in omega arith }
    ]
    | inr y ↦ (
        let q = want-then (quantity res) _ (look_of s) i it j y.1 in
        record { same = ap (λ b. cond b (cond (is_a Times (look_of s (suc i))) (past (times_item m (look_of s i) (look_of s (suc (suc i)))) (suc (suc (suc i)))) (past (plain_item m (look_of s i)) (suc i))) (past (plain_item m (look_of s i)) (suc i))) y.0 ∙ ap₂ past (done-val q.1) (done_at q.1); on = let w = done_at q.1 in omega arith })
  ]

  -- one more of a list
  more-reads : {X : Type 0} (r : ℕ → Past X) (p : P X) → ((i : ℕ) (x : X) (j : ℕ) → p (look_of s) i ≡ done x j → Read (r i) i x j) → (xs : List X) (i : ℕ) (ys : List X) (j : ℕ) → seq p (λ x. give (xs ++ x ∷ [])) (look_of s) i ≡ done ys j → Read (past (xs ++ (r i).value ∷ []) (r i).next) i ys j
  more-reads {X} r p h xs i ys j e =
      let q = seq-inv p _ (look_of s) i ys j e in
      let k = h i q.0 q.1 q.2 in
      record { same = ap (λ (z : Past X). past (xs ++ z.value ∷ []) z.next) k.same ∙ ap₂ past (done-val q.3) (done_at q.3); on = let w = done_at q.3 in let v = k.on in omega arith }

  side-reads : (res : Bool) (f i : ℕ) (x : Side) (j : ℕ) → side_s res f (look_of s) i ≡ done x j → Read (side_at (length s.tokens) (look_of s) i) i x j
  side-reads res f i x j e =
      let q = seq-inv (item_s res false) _ (look_of s) i x j e in
      let k = item-reads res false i q.0 q.1 q.2 in
      let c = chain-reads (look_of s) (length s.tokens) sum_sign (item_on res) (item_after (look_of s)) ends-sum (λ g a t i a' j. more-reads (item_at (look_of s) (is_a Minus t)) (item_s res (is_a Minus t)) (item-reads res (is_a Minus t)) a i a' j) f (length s.tokens) (q.0 ∷ []) q.1 x j (omega arith) q.3 in
      record { same = ap (λ (z : Past Item). joined (look_of s) sum_sign (item_after (look_of s)) (length s.tokens) (z.value ∷ []) z.next) k.same ∙ c.same; on = let v = k.on in let w = c.on in omega arith }

  condition-reads : (res : Bool) (f i : ℕ) (x : Condition) (j : ℕ) → condition_s res f (look_of s) i ≡ done x j → Read (condition_at (length s.tokens) (look_of s) i) i x j
  condition-reads res f i x j e =
      let q = seq-inv (side_s res f) _ (look_of s) i x j e in
      let a = side-reads res f i q.0 q.1 q.2 in
      let w = want-then (compares false) _ (look_of s) q.1 x j q.3 in
      let r = seq-inv (side_s res f) _ (look_of s) (suc q.1) x j w.1 in
      let b = side-reads res f (suc q.1) r.0 r.1 r.2 in
      record {
        same = ap (λ (z : Past Side). past (condition_of z.value (look_of s z.next) (side_at (length s.tokens) (look_of s) (suc z.next)).value) (side_at (length s.tokens) (look_of s) (suc z.next)).next) a.same
            ∙ ap (λ (z : Past Side). past (condition_of q.0 (look_of s q.1) z.value) z.next) b.same
            ∙ ap₂ past (done-val r.3) (done_at r.3);
        on = let u = a.on in let v = b.on in let z = done_at r.3 in omega arith;
      }

  pub conditions-read : (res : Bool) (f i : ℕ) (x : List Condition) (j : ℕ) → conditions_s res f (look_of s) i ≡ done x j → Read (conditions_at (length s.tokens) (look_of s) i) i x j
  conditions-read res f i x j e =
      let q = seq-inv (condition_s res f) _ (look_of s) i x j e in
      let k = condition-reads res f i q.0 q.1 q.2 in
      let c = chain-reads (look_of s) (length s.tokens) (is_a Comma) (condition_on res) (condition_after (length s.tokens) (look_of s)) (ends-kind Comma refl) (λ g a t i a' j. more-reads (condition_at (length s.tokens) (look_of s)) (condition_s res g) (condition-reads res g) a i a' j) f (length s.tokens) (q.0 ∷ []) q.1 x j (omega arith) q.3 in
      record { same = ap (λ (z : Past Condition). joined (look_of s) (is_a Comma) (condition_after (length s.tokens) (look_of s)) (length s.tokens) (z.value ∷ []) z.next) k.same ∙ c.same; on = let v = k.on in let w = c.on in omega arith }

  optional-read : (k : Kind) (res : Bool) (f i : ℕ) (x : List Condition) (j : ℕ) → optional_s k res f (look_of s) i ≡ done x j → optional_at (length s.tokens) (look_of s) k i ≡ x
  optional-read k res f i x j e = elim (when-inv (is_a k) _ _ (look_of s) i _ e) [
    | inl y ↦ ap (λ b. cond b (conditions_at (length s.tokens) (look_of s) (suc i)).value []) y.0 ∙ ap (λ (z : Past (List Condition)). z.value) (conditions-read res f (suc i) x j (next-then _ (look_of s) i _ y.1)).same
    | inr y ↦ ap (λ b. cond b (conditions_at (length s.tokens) (look_of s) (suc i)).value []) y.0 ∙ done-val y.1
  ]

  param-reads : (i : ℕ) (p : Param) (j : ℕ) → param_s (look_of s) i ≡ done p j → Read (param_at (look_of s) i) i p j
  param-reads i p j e =
      let w = want-then (is_a Name) _ (look_of s) i p j e in
      elim (when-inv (is_a OpenSquare) _ _ (look_of s) (suc i) _ w.1) [
        | inl y ↦ (
            let m = want-then (is_a Name) _ (look_of s) (suc (suc i)) p j (next-then _ (look_of s) (suc i) _ y.1) in
            let c = want-then (is_a CloseSquare) _ (look_of s) (suc (suc (suc i))) p j m.1 in
            record { same = ap (λ b. cond b (past (list_param (look_of s i) (look_of s (suc (suc i)))) (suc (suc (suc (suc i))))) (past (number_param (look_of s i)) (suc i))) y.0 ∙ ap₂ past (done-val c.1) (done_at c.1); on = let z = done_at c.1 in omega arith })
        | inr y ↦ record { same = ap (λ b. cond b (past (list_param (look_of s i) (look_of s (suc (suc i)))) (suc (suc (suc (suc i))))) (past (number_param (look_of s i)) (suc i))) y.0 ∙ ap₂ past (done-val y.1) (done_at y.1); on = let z = done_at y.1 in omega arith }
      ]

  params-read : (f i : ℕ) (ps : List Param) (j : ℕ) → params_s f (look_of s) i ≡ done ps j → params_at (length s.tokens) (look_of s) i ≡ ps
  params-read f i ps j e = elim (when-inv (is_a Close) _ _ (look_of s) i _ e) [
    | inl y ↦ ap (λ b. cond b [] (joined (look_of s) (is_a Comma) (param_after (look_of s)) (length s.tokens) ((param_at (look_of s) i).value ∷ []) (param_at (look_of s) i).next).value) y.0 ∙ done-val (next-then _ (look_of s) i _ y.1)
    | inr y ↦ (
        let q = seq-inv param_s _ (look_of s) i ps j y.1 in
        let k = param-reads i q.0 q.1 q.2 in
        let r = seq-inv (chain (is_a Comma) param_on f (q.0 ∷ [])) _ (look_of s) q.1 ps j q.3 in
        let c = chain-reads (look_of s) (length s.tokens) (is_a Comma) param_on (param_after (look_of s)) (ends-kind Comma refl) (λ g a t i a' j. more-reads (param_at (look_of s)) param_s param-reads a i a' j) f (length s.tokens) (q.0 ∷ []) q.1 r.0 r.1 (omega arith) r.2 in
        let w = want-then (is_a Close) _ (look_of s) r.1 ps j r.3 in
        ap (λ b. cond b [] (joined (look_of s) (is_a Comma) (param_after (look_of s)) (length s.tokens) ((param_at (look_of s) i).value ∷ []) (param_at (look_of s) i).next).value) y.0
        ∙ ap (λ (z : Past Param). (joined (look_of s) (is_a Comma) (param_after (look_of s)) (length s.tokens) (z.value ∷ []) z.next).value) k.same
        ∙ ap (λ (z : Past (List Param)). z.value) c.same ∙ done-val w.1)
  ]

  -- the same, of what comes with enough fuel
  pub conditions-came : (res : Bool) (i : ℕ) (x : List Condition) (j : ℕ) → Comes (conditions_s res) (look_of s) i (done x j) → (conditions_at (length s.tokens) (look_of s) i).value ≡ x
  conditions-came res i x j c = ap (λ (z : Past (List Condition)). z.value) (conditions-read res c.0 i x j (c.1 c.0 (omega arith))).same

  pub optional-came : (k : Kind) (res : Bool) (i : ℕ) (x : List Condition) (j : ℕ) → Comes (optional_s k res) (look_of s) i (done x j) → optional_at (length s.tokens) (look_of s) k i ≡ x
  optional-came k res i x j c = optional-read k res c.0 i x j (c.1 c.0 (omega arith))

  pub params-came : (i : ℕ) (x : List Param) (j : ℕ) → Comes params_s (look_of s) i (done x j) → params_at (length s.tokens) (look_of s) i ≡ x
  params-came i x j c = params-read c.0 i x j (c.1 c.0 (omega arith))
