-- What is derived is answered.
use Rattle.std.proofs.Common.{◌≡◌, ℕ, suc, Bool, true, false, cond, T, eqb, List, [], ◌∷◌, ◌++◌, sym, refl, ap, ◌∙◌, subst, arith, eqb→eq}
use Rattle.letters.specs.declared.kind.Kind.{Kind}
use Rattle.letters.specs.declared.kind.Kind.TheVariants.{Name, Numeral, Rule, Needs, Gives, Let, In, If, Then, Else, Put, As, TheResult, Open, Close, OpenSquare, CloseSquare, Comma, Semicolon, Plus, Minus, Times, Less, AtMost, Equal, Unequal, Becomes, End}
use Rattle.letters.specs.declared.token.Token.{Token}
use Rattle.letters.specs.Kinds.{number, same_kind}
use Rattle.grammar.specs.Raw.{Item, Side, Condition, Expr, Args, call, test, none, Param, Sheet}
use Rattle.grammar.specs.Raw as raw
use Rattle.grammar.specs.Parsers.{Look, is_a, Ans, done, fault, spent, P, then, give, seq, wanted, chain}
use Rattle.grammar.specs.Sheets.{sum_sign, compares, quantity, item_s, item_on, side_s, condition_s, condition_on, conditions_s, optional_s, param_s, param_on, params_s, expr_by, arg_on, args_by, name_by, bracket_by, atom_by, expr_s, sum_s, sum_from_s, product_s, product_from_s, args_s, args_from_s, atom_s, rule_s, rule_on, sheet_s}
use Rattle.grammar.specs.Held.{Comes}
use Rattle.grammar.specs.Derives.{Is, DItem, item-numeral, item-plain, item-times, DSide, side-first, side-more, DCondition, condition, DConditions, conditions-first, conditions-more, DParam, param-number, param-list, DParams, params-first, params_more, DHead, head-none, head-some, Level, expr, sum, product, atom, Derives, at-numeral, at_name, at_read, at-call-none, at_call, at-nest, at-claim, product-one, product-more, sum_one, sum_more, expr-sum, expr-let, expr-if, expr-put, DArgs, args-first, args_more, DOptional, absent, present, DRule, rule, DRules, rules-none, rules-more, DSheet}
use Rattle.grammar.proofs.Loops.{chain-chained}
use Rattle.grammar.proofs.Levels.{sum-chained, product-chained, args-chained}
use Rattle.grammar.proofs.Comings.{deeper, given, seq-comes, next-comes, yes-comes, no-comes, want-comes, turn-comes, turn-ends}

-- a token of one kind is of no other
other : (k m : Kind) (t : Token) → Is k t → eqb (number k) (number m) ≡ false → is_a m t ≡ false
unfolding same_kind
other k m t h e = ap (λ n. eqb n (number m)) (eqb→eq (number t.kind) (number k) (subst T (sym h) tt)) ∙ e

-- the tokens that go on with what stands before them
pub record Apart (t : Token) : Type 0 where
  pub no-square : is_a OpenSquare t ≡ false
  pub no-open : is_a Open t ≡ false
  pub no-times : is_a Times t ≡ false
  pub no_sign : sum_sign t ≡ false

not-sign : (t : Token) → is_a Plus t ≡ false → is_a Minus t ≡ false → sum_sign t ≡ false
not-sign t p m = ap (λ b. cond b true (is_a Minus t)) p ∙ m

apart : (k : Kind) (t : Token) → Is k t → eqb (number k) (number OpenSquare) ≡ false → eqb (number k) (number Open) ≡ false → eqb (number k) (number Times) ≡ false → eqb (number k) (number Plus) ≡ false → eqb (number k) (number Minus) ≡ false → Apart t
apart k t h a b c d e = record { no-square = other k OpenSquare t h a; no-open = other k Open t h b; no-times = other k Times t h c; no_sign = not-sign t (other k Plus t h d) (other k Minus t h e) }

-- what a test on tokens says, one kind after the other
either : (k : Kind) (rest : Bool) (t : Token) {Q : Type 0} → cond (is_a k t) true rest ≡ true → (Is k t → Q) → (rest ≡ true → Q) → Q
either k rest t {Q} e f g = go (is_a k t) refl e
  where
    go : (b : Bool) → is_a k t ≡ b → cond b true rest ≡ true → Q
    go true h e = f h
    go false h e = g e

no_false : {Q : Type 0} → false ≡ true → Q
no_false e = let z : ◌≡◌ {A = ℕ} 0 1 = cc in absurd (omega arith)

sign-is : (t : Token) {Q : Type 0} → sum_sign t ≡ true → (Is Plus t → Q) → (Is Minus t → Q) → Q
sign-is t e f g = either Plus (is_a Minus t) t e f g

compares-apart : (u : Bool) (t : Token) → compares u t ≡ true → Apart t
compares-apart u t e = either Less _ t e (λ h. apart Less t h refl refl refl refl refl) (λ e. either AtMost _ t e (λ h. apart AtMost t h refl refl refl refl refl) (λ e. either Equal _ t e (λ h. apart Equal t h refl refl refl refl refl) (λ e. go u e)))
  where
    go : (u : Bool) → cond u (is_a Unequal t) false ≡ true → Apart t
    go true e = apart Unequal t e refl refl refl refl refl
    go false e = no_false e

quantity-not : (res : Bool) (t : Token) → quantity res t ≡ true → is_a Numeral t ≡ false
quantity-not res t e = either Name _ t e (λ h. other Name Numeral t h refl) (go res)
  where
    go : (res : Bool) → cond res (is_a TheResult t) false ≡ true → is_a Numeral t ≡ false
    go true e = other TheResult Numeral t e refl
    go false e = no_false e

module _ (l : Look) where
  item-full : (res m : Bool) (i : ℕ) (it : Item) (j : ℕ) → DItem l res m i it j → is_a Times (l j) ≡ false → Comes (λ _. item_s res m) l i (done it j)
  item-full res m i it j (item-numeral h) n = yes-comes l (is_a Numeral) _ _ i _ h (next-comes l _ i _ (no-comes l (is_a Times) _ _ (suc i) _ n (given l _ (suc i))))
  item-full res m i it j (item-plain h) n = no-comes l (is_a Numeral) _ _ i _ (quantity-not res (l i) h) (want-comes l (quantity res) _ i _ h (given l _ (suc i)))
  item-full res m i it j (item-times h t q) n = yes-comes l (is_a Numeral) _ _ i _ h (next-comes l _ i _ (yes-comes l (is_a Times) _ _ (suc i) _ t (next-comes l _ (suc i) _ (want-comes l (quantity res) _ (suc (suc i)) _ q (given l _ _)))))

  sign-times : (t : Token) → sum_sign t ≡ true → is_a Times t ≡ false
  sign-times t e = sign-is t e (λ h. other Plus Times t h refl) (λ h. other Minus Times t h refl)

  side-full : (res : Bool) (i : ℕ) (x : Side) (j : ℕ) → DSide l res i x j → is_a Times (l j) ≡ false → (a : Ans Side) → Comes (λ f. chain sum_sign (item_on res) f x) l j a → Comes (side_s res) l i a
  side-full res i x j (side-first {it = it} d) n a c = seq-comes l (λ _. item_s res false) _ i it j a (item-full res false i it j d n) c
  side-full res i x j (side-more {j = m} {its = its} {it = it} d e g) n a c = side-full res i its m d (sign-times (l m) e) a (turn-comes l (chain-chained sum_sign (item_on res)) its m (its ++ it ∷ []) j a e (seq-comes l (λ _. item_s res (is_a Minus (l m))) _ (suc m) it j _ (item-full res (is_a Minus (l m)) (suc m) it j g n) (given l _ j)) c)

  side-whole : (res : Bool) (i : ℕ) (x : Side) (j : ℕ) → DSide l res i x j → is_a Times (l j) ≡ false → sum_sign (l j) ≡ false → Comes (side_s res) l i (done x j)
  side-whole res i x j d n s = side-full res i x j d n _ (turn-ends l (chain-chained sum_sign (item_on res)) x j s)

  condition-full : (res : Bool) (i : ℕ) (x : Condition) (j : ℕ) → DCondition l res i x j → is_a Times (l j) ≡ false → sum_sign (l j) ≡ false → Comes (condition_s res) l i (done x j)
  condition-full res i x j (condition {j = m} {a = a} {b = b} d c e) n s =
      let p = compares-apart false (l m) c in
      seq-comes l (side_s res) _ i a m _ (side-whole res i a m d p.no-times p.no_sign) (want-comes l (compares false) _ m _ c (seq-comes l (side_s res) _ (suc m) b j _ (side-whole res (suc m) b j e n s) (given l _ j)))

  comma-apart : (t : Token) → Is Comma t → Apart t
  comma-apart t h = apart Comma t h refl refl refl refl refl

  conditions-full : (res : Bool) (i : ℕ) (x : List Condition) (j : ℕ) → DConditions l res i x j → is_a Times (l j) ≡ false → sum_sign (l j) ≡ false → (a : Ans (List Condition)) → Comes (λ f. chain (is_a Comma) (condition_on res) f x) l j a → Comes (conditions_s res) l i a
  conditions-full res i x j (conditions-first {c = c} d) n s a k = seq-comes l (condition_s res) _ i c j a (condition-full res i c j d n s) k
  conditions-full res i x j (conditions-more {j = m} {cs = cs} {c = c} d e g) n s a k =
      let p = comma-apart (l m) e in
      conditions-full res i cs m d p.no-times p.no_sign a (turn-comes l (chain-chained (is_a Comma) (condition_on res)) cs m (cs ++ c ∷ []) j a e (seq-comes l (condition_s res) _ (suc m) c j _ (condition-full res (suc m) c j g n s) (given l _ j)) k)

  conditions-whole : (res : Bool) (i : ℕ) (x : List Condition) (j : ℕ) → DConditions l res i x j → Apart (l j) → is_a Comma (l j) ≡ false → Comes (conditions_s res) l i (done x j)
  conditions-whole res i x j d p c = conditions-full res i x j d p.no-times p.no_sign _ (turn-ends l (chain-chained (is_a Comma) (condition_on res)) x j c)

  param-full : (i : ℕ) (x : Param) (j : ℕ) → DParam l i x j → is_a OpenSquare (l j) ≡ false → Comes (λ _. param_s) l i (done x j)
  param-full i x j (param-number h) n = want-comes l (is_a Name) _ i _ h (no-comes l (is_a OpenSquare) _ _ (suc i) _ n (given l _ (suc i)))
  param-full i x j (param-list h o m c) n = want-comes l (is_a Name) _ i _ h (yes-comes l (is_a OpenSquare) _ _ (suc i) _ o (next-comes l _ (suc i) _ (want-comes l (is_a Name) _ _ _ m (want-comes l (is_a CloseSquare) _ _ _ c (given l _ _)))))

  -- the first of a list of params, and its end
  params-full : (i : ℕ) (x : List Param) (j : ℕ) → DParams l i x j → is_a OpenSquare (l j) ≡ false → (a : Ans (List Param)) → Comes (λ f. chain (is_a Comma) param_on f x) l j a → Comes (λ f. seq param_s (λ p. chain (is_a Comma) param_on f (p ∷ []))) l i a
  params-full i x j (params-first {p = p} d) n a k = seq-comes l (λ _. param_s) _ i p j a (param-full i p j d n) k
  params-full i x j (params_more {j = m} {ps = ps} {p = p} d e g) n a k =
      params-full i ps m d (comma-apart (l m) e).no-square a (turn-comes l (chain-chained (is_a Comma) param_on) ps m (ps ++ p ∷ []) j a e (seq-comes l (λ _. param_s) _ (suc m) p j _ (param-full (suc m) p j g n) (given l _ j)) k)

  param-begins : (i : ℕ) (x : List Param) (j : ℕ) → DParams l i x j → is_a Close (l i) ≡ false
  param-begins i x j (params-first (param-number h)) = other Name Close (l i) h refl
  param-begins i x j (params-first (param-list h o m c)) = other Name Close (l i) h refl
  param-begins i x j (params_more {j = m} {ps = ps} d e g) = param-begins i ps m d

  -- two steps in a row, the second on both values
  regroup : {X Y Z : Type 0} (p : ℕ → P X) (q : ℕ → X → P Y) (k : ℕ → Y → P Z) (i : ℕ) (a : Ans Z) → Comes (λ f. seq (seq (p f) (q f)) (k f)) l i a → Comes (λ f. seq (p f) (λ x. seq (q f x) (k f))) l i a
  unfolding seq
  regroup {X} {Y} {Z} p q k i a c = (c.0, λ f h. same f (p f l i) ∙ c.1 f h)
    where
      same : (f : ℕ) (z : Ans X) → then z (λ x j. seq (q f x) (k f) l j) ≡ then (then z (λ x j. q f x l j)) (λ y j. k f y l j)
      same f (done x j) = refl
      same f (fault j) = refl
      same f spent = refl

  head-full : (i : ℕ) (x : List Param) (j : ℕ) → DHead l i x j → Comes params_s l i (done x j)
  head-full i x j (head-none h) = yes-comes l (is_a Close) _ _ i _ h (next-comes l _ i _ (given l _ (suc i)))
  head-full i x j (head-some {j = m} {ps = ps} d h) =
      no-comes l (is_a Close) _ _ i _ (param-begins i ps m d)
      (regroup (λ _. param_s) (λ f p. chain (is_a Comma) param_on f (p ∷ [])) (λ f ps. seq (wanted (is_a Close)) (λ _. give ps)) i _
      (seq-comes l (λ f. seq param_s (λ p. chain (is_a Comma) param_on f (p ∷ []))) _ i ps m _ (params-full i ps m d (other Close OpenSquare (l m) h refl) _ (turn-ends l (chain-chained (is_a Comma) param_on) ps m (other Close Comma (l m) h refl))) (want-comes l (is_a Close) _ m _ h (given l _ _))))

  -- what a derivation says of the parsers, by level
  abbrev Full : Level → ℕ → Expr → ℕ → Type 0
  Full atom i e j = is_a OpenSquare (l j) ≡ false → is_a Open (l j) ≡ false → Comes atom_s l i (done e j)
  Full product i e j = is_a OpenSquare (l j) ≡ false → is_a Open (l j) ≡ false → (a : Ans Expr) → Comes (λ f. product_from_s f e) l j a → Comes product_s l i a
  Full sum i e j = is_a OpenSquare (l j) ≡ false → is_a Open (l j) ≡ false → is_a Times (l j) ≡ false → (a : Ans Expr) → Comes (λ f. sum_from_s f e) l j a → Comes sum_s l i a
  Full expr i e j = Apart (l j) → Comes expr_s l i (done e j)

  abbrev FullArgs : ℕ → Args → ℕ → Type 0
  FullArgs i xs j = Apart (l j) → (a : Ans Args) → Comes (λ f. args_from_s f xs) l j a → Comes (λ f. seq (arg_on (sum_s f) none) (args_from_s f)) l i a

  sum-whole : (i : ℕ) (e : Expr) (j : ℕ) → Full sum i e j → Apart (l j) → Comes sum_s l i (done e j)
  sum-whole i e j h n = h n.no-square n.no-open n.no-times _ (turn-ends l sum-chained e j n.no_sign)

  product_whole : (i : ℕ) (e : Expr) (j : ℕ) → Full product i e j → is_a OpenSquare (l j) ≡ false → is_a Open (l j) ≡ false → is_a Times (l j) ≡ false → Comes product_s l i (done e j)
  product_whole i e j h n o t = h n o _ (turn-ends l product-chained e j t)

  atom-step : (i : ℕ) (a : Ans Expr) → Comes (λ f. atom_by (sum_s f) (args_s f) (expr_s f) (conditions_s true f)) l i a → Comes atom_s l i a
  unfolding atom_s
  atom-step i a c = deeper l atom_s _ i a (λ f. refl) c

  expr-step : (i : ℕ) (a : Ans Expr) → Comes (λ f. expr_by (sum_s f) (expr_s f)) l i a → Comes expr_s l i a
  unfolding expr_s
  expr-step i a c = deeper l expr_s _ i a (λ f. refl) c

  product-step : (i : ℕ) (a : Ans Expr) → Comes (λ f. seq (atom_s f) (product_from_s f)) l i a → Comes product_s l i a
  unfolding product_s
  product-step i a c = deeper l product_s _ i a (λ f. refl) c

  sum_step : (i : ℕ) (a : Ans Expr) → Comes (λ f. seq (product_s f) (sum_from_s f)) l i a → Comes sum_s l i a
  unfolding sum_s
  sum_step i a c = deeper l sum_s _ i a (λ f. refl) c

  args-step : (i : ℕ) (a : Ans Args) → Comes (λ f. args_by (sum_s f) (args_from_s f)) l i a → Comes args_s l i a
  unfolding args_s
  args-step i a c = deeper l args_s _ i a (λ f. refl) c

  -- what begins a sum begins no 'let', 'if' or 'put', and closes nothing
  pub record Begins (t : Token) : Type 0 where
    pub no-let : is_a Let t ≡ false
    pub no-if : is_a If t ≡ false
    pub no-put : is_a Put t ≡ false
    pub no-close : is_a Close t ≡ false

  begins-by : (k : Kind) (t : Token) → Is k t → eqb (number k) (number Let) ≡ false → eqb (number k) (number If) ≡ false → eqb (number k) (number Put) ≡ false → eqb (number k) (number Close) ≡ false → Begins t
  begins-by k t h a b c d = record { no-let = other k Let t h a; no-if = other k If t h b; no-put = other k Put t h c; no-close = other k Close t h d }

  abbrev Begun : Level → ℕ → Type 0
  Begun expr i = Unit {0}
  Begun sum i = Begins (l i)
  Begun product i = Begins (l i)
  Begun atom i = Begins (l i)

  begins : (v : Level) (i : ℕ) (e : Expr) (j : ℕ) → Derives l v i e j → Begun v i
  begins v i e j (at-numeral h) = begins-by Numeral (l i) h refl refl refl refl
  begins v i e j (at_name h) = begins-by Name (l i) h refl refl refl refl
  begins v i e j (at_read h g d t) = begins-by Name (l i) h refl refl refl refl
  begins v i e j (at-call-none h g t) = begins-by Name (l i) h refl refl refl refl
  begins v i e j (at_call h g d t) = begins-by Name (l i) h refl refl refl refl
  begins v i e j (at-nest h d t) = begins-by Open (l i) h refl refl refl refl
  begins v i e j (at-claim h d s c t) = begins-by Open (l i) h refl refl refl refl
  begins v i e j (product-one d) = begins _ i _ _ d
  begins v i e j (product-more d h b) = begins _ i _ _ d
  begins v i e j (sum_one d) = begins _ i _ _ d
  begins v i e j (sum_more d h b) = begins _ i _ _ d
  begins v i e j (expr-sum d) = tt
  begins v i e j (expr-let h n q a k b) = tt
  begins v i e j (expr-if h a r b t c o d) = tt
  begins v i e j (expr-put h n o a c w b k d) = tt

  args-begin : (i : ℕ) (xs : Args) (j : ℕ) → DArgs l i xs j → is_a Close (l i) ≡ false
  args-begin i xs j (args-first {a = a} d) = (begins sum i a j d).no-close
  args-begin i xs j (args_more {j = m} {xs = ys} d h b) = args-begin i ys m d

  sign-not : (t : Token) → sum_sign t ≡ true → (is_a OpenSquare t ≡ false) × (is_a Open t ≡ false) × (is_a Times t ≡ false)
  sign-not t e = sign-is t e (λ h. (other Plus OpenSquare t h refl, other Plus Open t h refl, other Plus Times t h refl)) (λ h. (other Minus OpenSquare t h refl, other Minus Open t h refl, other Minus Times t h refl))

  -- after a name: a list's element, a call, or neither
  name-step : (i : ℕ) (a : Ans Expr) → Is Name (l i) → Comes (λ f. name_by (sum_s f) (args_s f) (l i)) l (suc i) a → Comes atom_s l i a
  name-step i a h c = atom-step i a (no-comes l (is_a Numeral) _ _ i a (other Name Numeral (l i) h refl) (yes-comes l (is_a Name) _ _ i a h (next-comes l _ i a c)))

  open_step : (i : ℕ) (a : Ans Expr) → Is Open (l i) → Comes (λ f. bracket_by (expr_s f) (conditions_s true f) (l i)) l (suc i) a → Comes atom_s l i a
  open_step i a h c = atom-step i a (no-comes l (is_a Numeral) _ _ i a (other Open Numeral (l i) h refl) (no-comes l (is_a Name) _ _ i a (other Open Name (l i) h refl) (yes-comes l (is_a Open) _ _ i a h (next-comes l _ i a c))))

  call_step : (i : ℕ) (xs : Args) (j : ℕ) → Is Name (l i) → Is Open (l (suc i)) → Comes args_s l (suc (suc i)) (done xs j) → Comes atom_s l i (done (call (l i) xs) j)
  call_step i xs j h o c = name-step i _ h (no-comes l (is_a OpenSquare) _ _ (suc i) _ (other Open OpenSquare (l (suc i)) o refl) (yes-comes l (is_a Open) _ _ (suc i) _ o (next-comes l _ (suc i) _ (seq-comes l args_s _ (suc (suc i)) xs j _ c (given l _ j)))))

  mutual
    full : (v : Level) (i : ℕ) (e : Expr) (j : ℕ) → Derives l v i e j → Full v i e j
    full v i e j (at-numeral h) = λ n o. atom-step i _ (yes-comes l (is_a Numeral) _ _ i _ h (next-comes l _ i _ (given l _ _)))
    full v i e j (at_name h) = λ n o. name-step i _ h (no-comes l (is_a OpenSquare) _ _ (suc i) _ n (no-comes l (is_a Open) _ _ (suc i) _ o (given l _ _)))
    full v i e j (at_read {j = m} {a} h g d t) = λ n o. name-step i _ h (yes-comes l (is_a OpenSquare) _ _ (suc i) _ g (next-comes l _ (suc i) _ (seq-comes l sum_s _ _ a m _ (sum-whole _ a m (full sum _ a m d) (apart CloseSquare (l m) t refl refl refl refl refl)) (want-comes l (is_a CloseSquare) _ m _ t (given l _ _)))))
    full v i e j (at-call-none h g t) = λ n o. call_step i none _ h g (args-step _ _ (yes-comes l (is_a Close) _ _ (suc (suc i)) _ t (next-comes l _ (suc (suc i)) _ (given l _ _))))
    full v i e j (at_call {j = m} {xs} h g d t) = λ n o. call_step i xs _ h g (args-step _ _ (no-comes l (is_a Close) _ _ (suc (suc i)) _ (args-begin _ xs m d) (regroup (λ f. arg_on (sum_s f) none) args_from_s (λ f ys. seq (wanted (is_a Close)) (λ _. give ys)) (suc (suc i)) _ (seq-comes l (λ f. seq (arg_on (sum_s f) none) (args_from_s f)) _ (suc (suc i)) xs m _ (full-args _ xs m d (apart Close (l m) t refl refl refl refl refl) _ (turn-ends l args-chained xs m (other Close Comma (l m) t refl))) (want-comes l (is_a Close) _ m _ t (given l _ _))))))
    full v i e j (at-nest {j = m} {a} h d t) = λ n o. open_step i _ h (seq-comes l expr_s _ _ a m _ (full expr _ a m d (apart Close (l m) t refl refl refl refl refl)) (no-comes l (is_a As) _ _ m _ (other Close As (l m) t refl) (want-comes l (is_a Close) _ m _ t (given l _ _))))
    full v i e j (at-claim {j = m} {k} {a} {cs} h d s c t) = λ n o. open_step i _ h (seq-comes l expr_s _ _ a m _ (full expr _ a m d (apart As (l m) s refl refl refl refl refl)) (yes-comes l (is_a As) _ _ m _ s (next-comes l _ m _ (seq-comes l (conditions_s true) _ (suc m) cs k _ (conditions-whole true (suc m) cs k c (apart Close (l k) t refl refl refl refl refl) (other Close Comma (l k) t refl)) (want-comes l (is_a Close) _ k _ t (given l _ _))))))
    full v i e j (product-one d) = λ n o a c. product-step i a (seq-comes l atom_s product_from_s i e j a (full atom i e j d n o) c)
    full v i e j (product-more {j = m} {a = x} {b = y} d h k) = λ n o a c. full product i x m d (other Times OpenSquare (l m) h refl) (other Times Open (l m) h refl) a (turn-comes l product-chained x m e j a h (seq-comes l atom_s _ (suc m) y j _ (full atom (suc m) y j k n o) (given l _ j)) c)
    full v i e j (sum_one d) = λ n o t a c. sum_step i a (seq-comes l product_s sum_from_s i e j a (product_whole i e j (full product i e j d) n o t) c)
    full v i e j (sum_more {j = m} {a = x} {b = y} d h k) = λ n o t a c. full sum i x m d (sign-not (l m) h).0 (sign-not (l m) h).1 (sign-not (l m) h).2 a (turn-comes l sum-chained x m e j a h (seq-comes l product_s _ (suc m) y j _ (product_whole (suc m) y j (full product (suc m) y j k) n o t) (given l _ j)) c)
    full v i e j (expr-sum d) = λ p. expr-step i _ (no-comes l (is_a Let) _ _ i _ (begins sum i e j d).no-let (no-comes l (is_a If) _ _ i _ (begins sum i e j d).no-if (no-comes l (is_a Put) _ _ i _ (begins sum i e j d).no-put (sum-whole i e j (full sum i e j d) p))))
    full v i e j (expr-let {j = m} {a = x} {b = y} h n q d t k) = λ p. expr-step i _ (yes-comes l (is_a Let) _ _ i _ h (next-comes l _ i _ (want-comes l (is_a Name) _ _ _ n (want-comes l (is_a Equal) _ _ _ q (seq-comes l expr_s _ _ x m _ (full expr _ x m d (apart In (l m) t refl refl refl refl refl)) (want-comes l (is_a In) _ m _ t (seq-comes l expr_s _ _ y j _ (full expr _ y j k p) (given l _ _))))))))
    full v i e j (expr-if {j = m} {k} {m = y} {a = a} {b} {c} {d} h x q u t w o z) = λ p. expr-step i _ (no-comes l (is_a Let) _ _ i _ (other If Let (l i) h refl) (yes-comes l (is_a If) _ _ i _ h (next-comes l _ i _ (seq-comes l sum_s _ _ a m _ (sum-whole _ a m (full sum _ a m x) (compares-apart true (l m) q)) (want-comes l (compares true) _ m _ q (seq-comes l sum_s _ (suc m) b k _ (sum-whole _ b k (full sum _ b k u) (apart Then (l k) t refl refl refl refl refl)) (want-comes l (is_a Then) _ k _ t (seq-comes l expr_s _ _ c y _ (full expr _ c y w (apart Else (l y) o refl refl refl refl refl)) (want-comes l (is_a Else) _ y _ o (seq-comes l expr_s _ _ d j _ (full expr _ d j z p) (given l _ _)))))))))))
    full v i e j (expr-put {j = m} {k} {a = a} {b} {c} h n q x s w y t z) = λ p. expr-step i _ (no-comes l (is_a Let) _ _ i _ (other Put Let (l i) h refl) (no-comes l (is_a If) _ _ i _ (other Put If (l i) h refl) (yes-comes l (is_a Put) _ _ i _ h (next-comes l _ i _ (want-comes l (is_a Name) _ _ _ n (want-comes l (is_a OpenSquare) _ _ _ q (seq-comes l sum_s _ _ a m _ (sum-whole _ a m (full sum _ a m x) (apart CloseSquare (l m) s refl refl refl refl refl)) (want-comes l (is_a CloseSquare) _ m _ s (want-comes l (is_a Becomes) _ _ _ w (seq-comes l sum_s _ _ b k _ (sum-whole _ b k (full sum _ b k y) (apart In (l k) t refl refl refl refl refl)) (want-comes l (is_a In) _ k _ t (seq-comes l expr_s _ _ c j _ (full expr _ c j z p) (given l _ _)))))))))))))

    full-args : (i : ℕ) (xs : Args) (j : ℕ) → DArgs l i xs j → FullArgs i xs j
    full-args i xs j (args-first {a = x} d) = λ p a c. seq-comes l (λ f. arg_on (sum_s f) none) _ i xs j a (seq-comes l sum_s _ i x j _ (sum-whole i x j (full sum i x j d) p) (given l _ j)) c
    full-args i xs j (args_more {j = m} {xs = ys} {a = x} d h b) = λ p a c. full-args i ys m d (comma-apart (l m) h) a (turn-comes l args-chained ys m xs j a h (seq-comes l sum_s _ (suc m) x j _ (sum-whole (suc m) x j (full sum (suc m) x j b) p) (given l _ j)) c)

  -- what follows conditions in a rule: `gives` or `=`
  optional-full : (k : Kind) (res : Bool) (i : ℕ) (x : List Condition) (j : ℕ) → DOptional l k res i x j → is_a k (l j) ≡ false → Apart (l j) → is_a Comma (l j) ≡ false → Comes (optional_s k res) l i (done x j)
  optional-full k res i x j absent n p c = no-comes l (is_a k) _ _ i _ n (given l _ i)
  optional-full k res i x j (present h d) n p c = yes-comes l (is_a k) _ _ i _ h (next-comes l _ i _ (conditions-whole res (suc i) x j d p c))

  record Follows (t : Token) : Type 0 where
    no-needs : is_a Needs t ≡ false
    apart' : Apart t
    no-comma : is_a Comma t ≡ false

  gives-follows : (i : ℕ) (x : List Condition) (j : ℕ) → DOptional l Gives true i x j → Is Equal (l j) → Follows (l i)
  gives-follows i x j absent e = record { no-needs = other Equal Needs (l i) e refl; apart' = apart Equal (l i) e refl refl refl refl refl; no-comma = other Equal Comma (l i) e refl }
  gives-follows i x j (present h d) e = record { no-needs = other Gives Needs (l i) h refl; apart' = apart Gives (l i) h refl refl refl refl refl; no-comma = other Gives Comma (l i) h refl }

  rule-full : (i : ℕ) (r : raw.Rule) (j : ℕ) → DRule l i r j → Is Rule (l i) × Comes (rule_s (l i)) l (suc i) (done r j)
  rule-full i r j (rule {j = m} {k} {m = g} {n} {ps} {ns} {gs} {e} h a o d x y q b s) =
      let w = gives-follows k gs g y q in
      (h, want-comes l (is_a Name) _ _ _ a (want-comes l (is_a Open) _ _ _ o (seq-comes l params_s _ _ ps m _ (head-full _ ps m d) (seq-comes l (optional_s Needs false) _ m ns k _ (optional-full Needs false m ns k x w.no-needs w.apart' w.no-comma) (seq-comes l (optional_s Gives true) _ k gs g _ (optional-full Gives true k gs g y (other Equal Gives (l g) q refl) (apart Equal (l g) q refl refl refl refl refl) (other Equal Comma (l g) q refl)) (want-comes l (is_a Equal) _ g _ q (seq-comes l expr_s _ _ e n _ (full expr _ e n b (apart Semicolon (l n) s refl refl refl refl refl)) (want-comes l (is_a Semicolon) _ n _ s (given l _ _)))))))))

  rules-full : (i : ℕ) (rs : Sheet) (j : ℕ) → DRules l i rs j → (a : Ans Sheet) → Comes (λ f. chain (is_a Rule) rule_on f rs) l j a → Comes (λ f. chain (is_a Rule) rule_on f []) l i a
  rules-full i rs j rules-none a c = c
  rules-full i rs j (rules-more {j = m} {rs = qs} {r = r} d b) a c =
      let w = rule-full m r j b in
      rules-full i qs m d a (turn-comes l (chain-chained (is_a Rule) rule_on) qs m (qs ++ r ∷ []) j a w.0 (seq-comes l (rule_s (l m)) _ (suc m) r j _ w.1 (given l _ j)) c)

  pub sheet-full : (rs : Sheet) (d : DSheet l rs) → Comes sheet_s l 0 (done rs d.last)
  sheet-full rs d = seq-comes l (λ f. chain (is_a Rule) rule_on f []) _ 0 rs d.last _ (rules-full 0 rs d.last d.rules _ (turn-ends l (chain-chained (is_a Rule) rule_on) rs d.last (other End Rule (l d.last) d.ends refl))) (yes-comes l (is_a End) _ _ d.last _ d.ends (given l _ _))
