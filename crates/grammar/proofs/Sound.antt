-- What the parsers answer is derived.
use Rattle.std.proofs.Common.{◌≡◌, ℕ, zero, suc, Bool, true, false, List, [], ◌∷◌, subst, inl, inr}
use Rattle.letters.specs.declared.kind.Kind.{Kind}
use Rattle.letters.specs.declared.kind.Kind.TheVariants.{Name, Numeral, Rule, Needs, Gives, Let, In, If, Then, Else, Put, As, Open, Close, OpenSquare, CloseSquare, Comma, Semicolon, Minus, Times, Equal, Becomes, End}
use Rattle.letters.specs.declared.token.Token.{Token}
use Rattle.grammar.specs.Raw.{Condition, Expr, Args, none, Sheet}
use Rattle.grammar.specs.Raw as raw
use Rattle.grammar.specs.Parsers.{Look, is_a, done, P, turn, chain}
use Rattle.grammar.specs.Sheets.{sum_sign, compares, quantity, item_s, item_on, side_s, condition_s, condition_on, conditions_s, optional_s, param_s, param_on, params_s, let_by, if_by, put_by, expr_by, calc_on, arg_on, args_by, name_by, bracket_by, atom_by, expr_s, sum_s, sum_from_s, product_s, product_from_s, args_s, args_from_s, atom_s, rule_s, rule_on, sheet_s}
use Rattle.grammar.specs.Derives.{Is, DItem, item-numeral, item-plain, item-times, DSide, side-first, side-more, DCondition, condition, DConditions, conditions-first, conditions-more, DParam, param-number, param-list, DParams, params-first, params_more, DHead, head-none, head-some, Level, expr, sum, product, atom, Derives, at-numeral, at_name, at_read, at-call-none, at_call, at-nest, at-claim, product-one, product-more, sum_one, sum_more, expr-sum, expr-let, expr-if, expr-put, DArgs, args-first, args_more, DOptional, absent, present, DRule, rule, DRules, rules-none, rules-more, DSheet}
use Rattle.grammar.proofs.Inverts.{no-fault, no-spent, seq-inv, when-inv, next-then, want-then, done-val, done_at}

-- a value and a position that are given
put' : {X : Type 0} (D : X → ℕ → Type 0) {x y : X} {i j : ℕ} → D x i → done x i ≡ done y j → D y j
put' D {x} {y} {i} {j} d e = subst (λ z. D z j) (done-val e) (subst (λ z. D x z) (done_at e) d)

abbrev pub Sound : {X : Type 0} → Look → (ℕ → X → ℕ → Type 0) → P X → Type 0
Sound {X} l D p = (i : ℕ) (x : X) (j : ℕ) → p l i ≡ done x j → D i x j

abbrev SoundFrom : {X : Type 0} → Look → (ℕ → X → ℕ → Type 0) → (X → P X) → Type 0
SoundFrom {X} l D rest = (i : ℕ) (x : X) (m : ℕ) → D i x m → (y : X) (j : ℕ) → rest x l m ≡ done y j → D i y j

module _ (l : Look) where
  -- one turn, and turns with enough fuel
  turn-sound : {X : Type 0} (D : ℕ → X → ℕ → Type 0) (b : Token → Bool) (step : X → Token → P X) (rest : X → P X)
      → ((i : ℕ) (x : X) (m : ℕ) → D i x m → b (l m) ≡ true → (y : X) (j : ℕ) → step x (l m) l (suc m) ≡ done y j → D i y j)
      → SoundFrom l D rest → SoundFrom l D (λ x. turn b step rest x)
  turn-sound D b step rest h hr i x m d y j q = elim (when-inv b _ _ l m _ q) [
    | inl z ↦ (
        let s = seq-inv (step x (l m)) rest l (suc m) y j (next-then _ l m _ z.1) in
        hr i s.0 s.1 (h i x m d z.0 s.0 s.1 s.2) y j s.3)
    | inr z ↦ put' (D i) d z.1
  ]

  chain-sound : {X : Type 0} (D : ℕ → X → ℕ → Type 0) (b : Token → Bool) (step : ℕ → X → Token → P X)
      → ((f : ℕ) (i : ℕ) (x : X) (m : ℕ) → D i x m → b (l m) ≡ true → (y : X) (j : ℕ) → step f x (l m) l (suc m) ≡ done y j → D i y j)
      → (f : ℕ) → SoundFrom l D (chain b step f)
  unfolding chain
  chain-sound D b step h zero i x m d y j q = absurd (no-spent q)
  chain-sound D b step h (suc f) i x m d y j q = turn-sound D b (step f) (chain b step f) (h f) (chain-sound D b step h f) i x m d y j q

  item-sound : (res m : Bool) → Sound l (DItem l res m) (item_s res m)
  item-sound res m i it j q = elim (when-inv (is_a Numeral) _ _ l i _ q) [
    | inl y ↦ elim (when-inv (is_a Times) _ _ l (suc i) _ (next-then _ l i _ y.1)) [
      | inl z ↦ (let w = want-then (quantity res) _ l (suc (suc i)) it j (next-then _ l (suc i) _ z.1) in put' (DItem l res m i) (item-times y.0 z.0 w.0) w.1)
      | inr z ↦ put' (DItem l res m i) (item-numeral y.0) z.1
    ]
    | inr y ↦ (let w = want-then (quantity res) _ l i it j y.1 in put' (DItem l res m i) (item-plain w.0) w.1)
  ]

  pub side-sound : (res : Bool) (f : ℕ) → Sound l (DSide l res) (side_s res f)
  side-sound res f i x j q =
      let s = seq-inv (item_s res false) _ l i x j q in
      chain-sound (DSide l res) sum_sign (item_on res) (λ g i x m d b y j e. (let t = seq-inv (item_s res (is_a Minus (l m))) _ l (suc m) y j e in put' (DSide l res i) (side-more d b (item-sound res (is_a Minus (l m)) (suc m) t.0 t.1 t.2)) t.3)) f i (s.0 ∷ []) s.1 (side-first (item-sound res false i s.0 s.1 s.2)) x j s.3

  condition-sound : (res : Bool) (f : ℕ) → Sound l (DCondition l res) (condition_s res f)
  condition-sound res f i x j q =
      let a = seq-inv (side_s res f) _ l i x j q in
      let c = want-then (compares false) _ l a.1 x j a.3 in
      let b = seq-inv (side_s res f) _ l (suc a.1) x j c.1 in
      put' (DCondition l res i) (condition (side-sound res f i a.0 a.1 a.2) c.0 (side-sound res f (suc a.1) b.0 b.1 b.2)) b.3

  conditions-sound : (res : Bool) (f : ℕ) → Sound l (DConditions l res) (conditions_s res f)
  conditions-sound res f i x j q =
      let s = seq-inv (condition_s res f) _ l i x j q in
      chain-sound (DConditions l res) (is_a Comma) (condition_on res) (λ g i x m d b y j e. (let t = seq-inv (condition_s res g) _ l (suc m) y j e in put' (DConditions l res i) (conditions-more d b (condition-sound res g (suc m) t.0 t.1 t.2)) t.3)) f i (s.0 ∷ []) s.1 (conditions-first (condition-sound res f i s.0 s.1 s.2)) x j s.3

  optional-sound : (k : Kind) (res : Bool) (f : ℕ) → Sound l (DOptional l k res) (optional_s k res f)
  optional-sound k res f i x j q = elim (when-inv (is_a k) _ _ l i _ q) [
    | inl y ↦ present y.0 (conditions-sound res f (suc i) x j (next-then _ l i _ y.1))
    | inr y ↦ put' (DOptional l k res i) absent y.1
  ]

  param-sound : Sound l (DParam l) param_s
  param-sound i x j q =
      let n = want-then (is_a Name) _ l i x j q in
      elim (when-inv (is_a OpenSquare) _ _ l (suc i) _ n.1) [
        | inl y ↦ (
            let m = want-then (is_a Name) _ l (suc (suc i)) x j (next-then _ l (suc i) _ y.1) in
            let c = want-then (is_a CloseSquare) _ l (suc (suc (suc i))) x j m.1 in
            put' (DParam l i) (param-list n.0 y.0 m.0 c.0) c.1)
        | inr y ↦ put' (DParam l i) (param-number n.0) y.1
      ]

  head-sound : (f : ℕ) → Sound l (DHead l) (params_s f)
  head-sound f i x j q = elim (when-inv (is_a Close) _ _ l i _ q) [
    | inl y ↦ put' (DHead l i) (head-none y.0) (next-then _ l i _ y.1)
    | inr y ↦ (
        let s = seq-inv param_s _ l i x j y.1 in
        let c = seq-inv (chain (is_a Comma) param_on f (s.0 ∷ [])) _ l s.1 x j s.3 in
        let w = want-then (is_a Close) _ l c.1 x j c.3 in
        let d = chain-sound (DParams l) (is_a Comma) param_on (λ g i x m d b y j e. (let t = seq-inv param_s _ l (suc m) y j e in put' (DParams l i) (params_more d b (param-sound (suc m) t.0 t.1 t.2)) t.3)) f i (s.0 ∷ []) s.1 (params-first (param-sound i s.0 s.1 s.2)) c.0 c.1 c.2 in
        put' (DHead l i) (head-some d w.0) w.1)
  ]

  let-sound : (x : P Expr) → Sound l (Derives l expr) x → (i : ℕ) (e : Expr) (j : ℕ) → Is Let (l i) → let_by x (l i) l (suc i) ≡ done e j → Derives l expr i e j
  let-sound x hx i e j h q =
      let n = want-then (is_a Name) _ l _ e j q in
      let w = want-then (is_a Equal) _ l _ e j n.1 in
      let a = seq-inv x _ l _ e j w.1 in
      let k = want-then (is_a In) _ l _ e j a.3 in
      let b = seq-inv x _ l _ e j k.1 in
      put' (Derives l expr i) (expr-let h n.0 w.0 (hx _ _ _ a.2) k.0 (hx _ _ _ b.2)) b.3

  if-sound : (s x : P Expr) → Sound l (Derives l sum) s → Sound l (Derives l expr) x → (i : ℕ) (e : Expr) (j : ℕ) → Is If (l i) → if_by s x (l i) l (suc i) ≡ done e j → Derives l expr i e j
  if-sound s x hs hx i e j h q =
      let a = seq-inv s _ l _ e j q in
      let r = want-then (compares true) _ l _ e j a.3 in
      let b = seq-inv s _ l _ e j r.1 in
      let t = want-then (is_a Then) _ l _ e j b.3 in
      let c = seq-inv x _ l _ e j t.1 in
      let o = want-then (is_a Else) _ l _ e j c.3 in
      let d = seq-inv x _ l _ e j o.1 in
      put' (Derives l expr i) (expr-if h (hs _ _ _ a.2) r.0 (hs _ _ _ b.2) t.0 (hx _ _ _ c.2) o.0 (hx _ _ _ d.2)) d.3

  put-sound : (s x : P Expr) → Sound l (Derives l sum) s → Sound l (Derives l expr) x → (i : ℕ) (e : Expr) (j : ℕ) → Is Put (l i) → put_by s x (l i) l (suc i) ≡ done e j → Derives l expr i e j
  put-sound s x hs hx i e j h q =
      let n = want-then (is_a Name) _ l _ e j q in
      let o = want-then (is_a OpenSquare) _ l _ e j n.1 in
      let a = seq-inv s _ l _ e j o.1 in
      let k = want-then (is_a CloseSquare) _ l _ e j a.3 in
      let w = want-then (is_a Becomes) _ l _ e j k.1 in
      let b = seq-inv s _ l _ e j w.1 in
      let t = want-then (is_a In) _ l _ e j b.3 in
      let c = seq-inv x _ l _ e j t.1 in
      put' (Derives l expr i) (expr-put h n.0 o.0 (hs _ _ _ a.2) k.0 w.0 (hs _ _ _ b.2) t.0 (hx _ _ _ c.2)) c.3

  expr-body : (s x : P Expr) → Sound l (Derives l sum) s → Sound l (Derives l expr) x → Sound l (Derives l expr) (expr_by s x)
  expr-body s x hs hx i e j q = elim (when-inv (is_a Let) _ _ l i _ q) [
    | inl h ↦ let-sound x hx i e j h.0 (next-then _ l i _ h.1)
    | inr g ↦ elim (when-inv (is_a If) _ _ l i _ g.1) [
      | inl h ↦ if-sound s x hs hx i e j h.0 (next-then _ l i _ h.1)
      | inr g ↦ elim (when-inv (is_a Put) _ _ l i _ g.1) [ inl h ↦ put-sound s x hs hx i e j h.0 (next-then _ l i _ h.1) | inr h ↦ expr-sum (hs i e j h.1) ]
    ]
  ]

  -- arguments after their bracket, up to and with the closing one
  args-body : (s : P Expr) (rest : Args → P Args) → Sound l (Derives l sum) s → SoundFrom l (DArgs l) rest → (t : ℕ) (xs : Args) (j : ℕ) → Is Name (l t) → Is Open (l (suc t)) → args_by s rest l (suc (suc t)) ≡ done xs j → Derives l atom t (raw.call (l t) xs) j
  args-body s rest hs hr t xs j n o q = elim (when-inv (is_a Close) _ _ l (suc (suc t)) _ q) [
    | inl y ↦ put' (λ z k. Derives l atom t (raw.call (l t) z) k) (at-call-none n o y.0) (next-then _ l (suc (suc t)) _ y.1)
    | inr y ↦ (
        let a = seq-inv (arg_on s none) _ l (suc (suc t)) xs j y.1 in
        let e = seq-inv s _ l (suc (suc t)) a.0 a.1 a.2 in
        let r = seq-inv (rest a.0) _ l a.1 xs j a.3 in
        let w = want-then (is_a Close) _ l r.1 xs j r.3 in
        let d = hr (suc (suc t)) a.0 a.1 (put' (DArgs l (suc (suc t))) (args-first (hs _ _ _ e.2)) e.3) r.0 r.1 r.2 in
        put' (λ z k. Derives l atom t (raw.call (l t) z) k) (at_call n o d w.0) w.1)
  ]

  name-sound : (s : P Expr) (as' : P Args) → Sound l (Derives l sum) s → ((t : ℕ) (xs : Args) (j : ℕ) → Is Name (l t) → Is Open (l (suc t)) → as' l (suc (suc t)) ≡ done xs j → Derives l atom t (raw.call (l t) xs) j)
      → (i : ℕ) (e : Expr) (j : ℕ) → Is Name (l i) → name_by s as' (l i) l (suc i) ≡ done e j → Derives l atom i e j
  name-sound s as' hs ha i e j h q = elim (when-inv (is_a OpenSquare) _ _ l (suc i) _ q) [
    | inl g ↦ (
        let a = seq-inv s _ l _ e j (next-then _ l (suc i) _ g.1) in
        let t = want-then (is_a CloseSquare) _ l _ e j a.3 in
        put' (Derives l atom i) (at_read h g.0 (hs _ _ _ a.2) t.0) t.1)
    | inr g ↦ elim (when-inv (is_a Open) _ _ l (suc i) _ g.1) [
      | inl o ↦ (let a = seq-inv as' _ l _ e j (next-then _ l (suc i) _ o.1) in put' (Derives l atom i) (ha i a.0 a.1 h o.0 a.2) a.3)
      | inr o ↦ put' (Derives l atom i) (at_name h) o.1
    ]
  ]

  bracket-sound : (x : P Expr) (cs : P (List Condition)) → Sound l (Derives l expr) x → Sound l (DConditions l true) cs → (i : ℕ) (e : Expr) (j : ℕ) → Is Open (l i) → bracket_by x cs (l i) l (suc i) ≡ done e j → Derives l atom i e j
  bracket-sound x cs hx hc i e j h q =
      let a = seq-inv x _ l _ e j q in
      elim (when-inv (is_a As) _ _ l a.1 _ a.3) [
        | inl y ↦ (
            let c = seq-inv cs _ l _ e j (next-then _ l a.1 _ y.1) in
            let w = want-then (is_a Close) _ l _ e j c.3 in
            put' (Derives l atom i) (at-claim h (hx _ _ _ a.2) y.0 (hc _ _ _ c.2) w.0) w.1)
        | inr y ↦ (let w = want-then (is_a Close) _ l _ e j y.1 in put' (Derives l atom i) (at-nest h (hx _ _ _ a.2) w.0) w.1)
      ]

  atom-body : (s : P Expr) (as' : P Args) (x : P Expr) (cs : P (List Condition)) → Sound l (Derives l sum) s → ((t : ℕ) (xs : Args) (j : ℕ) → Is Name (l t) → Is Open (l (suc t)) → as' l (suc (suc t)) ≡ done xs j → Derives l atom t (raw.call (l t) xs) j) → Sound l (Derives l expr) x → Sound l (DConditions l true) cs → Sound l (Derives l atom) (atom_by s as' x cs)
  atom-body s as' x cs hs ha hx hc i e j q = elim (when-inv (is_a Numeral) _ _ l i _ q) [
    | inl h ↦ put' (Derives l atom i) (at-numeral h.0) (next-then _ l i _ h.1)
    | inr g ↦ elim (when-inv (is_a Name) _ _ l i _ g.1) [
      | inl h ↦ name-sound s as' hs ha i e j h.0 (next-then _ l i _ h.1)
      | inr k ↦ elim (when-inv (is_a Open) _ _ l i _ k.1) [
        | inl h ↦ bracket-sound x cs hx hc i e j h.0 (next-then _ l i _ h.1)
        | inr h ↦ absurd (no-fault h.1)
      ]
    ]
  ]

  calc-step : (v w : Level) (b : Token → Bool) (p : P Expr)
      → ((i j k : ℕ) (a c : Expr) → Derives l v i a j → b (l j) ≡ true → Derives l w (suc j) c k → Derives l v i (raw.calc (l j) a c) k)
      → Sound l (Derives l w) p → (i : ℕ) (x : Expr) (m : ℕ) → Derives l v i x m → b (l m) ≡ true → (y : Expr) (j : ℕ) → calc_on p x (l m) l (suc m) ≡ done y j → Derives l v i y j
  calc-step v w b p more' hp i x m d e y j q = let s = seq-inv p _ l (suc m) y j q in put' (Derives l v i) (more' _ _ _ _ _ d e (hp _ _ _ s.2)) s.3

  mutual
    unfolding expr_s sum_s sum_from_s product_s product_from_s args_s args_from_s atom_s

    pub expr-sound : (f : ℕ) → Sound l (Derives l expr) (expr_s f)
    expr-sound zero i e j q = absurd (no-spent q)
    expr-sound (suc f) i e j q = expr-body (sum_s f) (expr_s f) (sum-sound f) (expr-sound f) i e j q

    pub sum-sound : (f : ℕ) → Sound l (Derives l sum) (sum_s f)
    sum-sound zero i e j q = absurd (no-spent q)
    sum-sound (suc f) i e j q = let s = seq-inv (product_s f) (sum_from_s f) l i e j q in sum-from-sound f i s.0 s.1 (sum_one (product-sound f i s.0 s.1 s.2)) e j s.3

    sum-from-sound : (f : ℕ) → SoundFrom l (Derives l sum) (sum_from_s f)
    sum-from-sound zero i x m d e j q = absurd (no-spent q)
    sum-from-sound (suc f) i x m d e j q = turn-sound (Derives l sum) sum_sign (calc_on (product_s f)) (sum_from_s f) (calc-step sum product sum_sign (product_s f) (λ _ _ _ _ _ d e b. sum_more d e b) (product-sound f)) (sum-from-sound f) i x m d e j q

    product-sound : (f : ℕ) → Sound l (Derives l product) (product_s f)
    product-sound zero i e j q = absurd (no-spent q)
    product-sound (suc f) i e j q = let s = seq-inv (atom_s f) (product_from_s f) l i e j q in product-from-sound f i s.0 s.1 (product-one (atom-sound f i s.0 s.1 s.2)) e j s.3

    product-from-sound : (f : ℕ) → SoundFrom l (Derives l product) (product_from_s f)
    product-from-sound zero i x m d e j q = absurd (no-spent q)
    product-from-sound (suc f) i x m d e j q = turn-sound (Derives l product) (is_a Times) (calc_on (atom_s f)) (product_from_s f) (calc-step product atom (is_a Times) (atom_s f) (λ _ _ _ _ _ d e b. product-more d e b) (atom-sound f)) (product-from-sound f) i x m d e j q

    args-sound : (f : ℕ) (t : ℕ) (xs : Args) (j : ℕ) → Is Name (l t) → Is Open (l (suc t)) → args_s f l (suc (suc t)) ≡ done xs j → Derives l atom t (raw.call (l t) xs) j
    args-sound zero t xs j n o q = absurd (no-spent q)
    args-sound (suc f) t xs j n o q = args-body (sum_s f) (args_from_s f) (sum-sound f) (args-from-sound f) t xs j n o q

    args-from-sound : (f : ℕ) → SoundFrom l (DArgs l) (args_from_s f)
    args-from-sound zero i x m d e j q = absurd (no-spent q)
    args-from-sound (suc f) i x m d e j q = turn-sound (DArgs l) (is_a Comma) (λ xs _. arg_on (sum_s f) xs) (args_from_s f) (λ i x m d b y j e. (let s = seq-inv (sum_s f) _ l (suc m) y j e in put' (DArgs l i) (args_more d b (sum-sound f (suc m) s.0 s.1 s.2)) s.3)) (args-from-sound f) i x m d e j q

    atom-sound : (f : ℕ) → Sound l (Derives l atom) (atom_s f)
    atom-sound zero i e j q = absurd (no-spent q)
    atom-sound (suc f) i e j q = atom-body (sum_s f) (args_s f) (expr_s f) (conditions_s true f) (sum-sound f) (args-sound f) (expr-sound f) (conditions-sound true f) i e j q

  rule-sound : (f i : ℕ) (r : raw.Rule) (j : ℕ) → Is Rule (l i) → rule_s (l i) f l (suc i) ≡ done r j → DRule l i r j
  rule-sound f i r j h q =
      let n = want-then (is_a Name) _ l _ r j q in
      let o = want-then (is_a Open) _ l _ r j n.1 in
      let ps = seq-inv (params_s f) _ l _ r j o.1 in
      let ns = seq-inv (optional_s Needs false f) _ l _ r j ps.3 in
      let gs = seq-inv (optional_s Gives true f) _ l _ r j ns.3 in
      let w = want-then (is_a Equal) _ l _ r j gs.3 in
      let e = seq-inv (expr_s f) _ l _ r j w.1 in
      let c = want-then (is_a Semicolon) _ l _ r j e.3 in
      put' (DRule l i) (rule h n.0 o.0 (head-sound f _ _ _ ps.2) (optional-sound Needs false f _ _ _ ns.2) (optional-sound Gives true f _ _ _ gs.2) w.0 (expr-sound f _ _ _ e.2) c.0) c.1

  pub sheet-sound : (f : ℕ) (rs : Sheet) (j : ℕ) → sheet_s f l 0 ≡ done rs j → DSheet l rs
  sheet-sound f rs j q =
      let s = seq-inv (chain (is_a Rule) rule_on f []) _ l 0 rs j q in
      let d = chain-sound (DRules l) (is_a Rule) rule_on (λ g i x m d b y j e. (let t = seq-inv (rule_s (l m) g) _ l (suc m) y j e in put' (DRules l i) (rules-more d (rule-sound g m t.0 t.1 b t.2)) t.3)) f 0 [] 0 rules-none s.0 s.1 s.2 in
      elim (when-inv (is_a End) _ _ l s.1 _ s.3) [
        | inl y ↦ record { last = s.1; rules = subst (λ z. DRules l 0 z s.1) (done-val y.1) d; ends = y.0 }
        | inr y ↦ absurd (no-fault y.1)
      ]
