-- What stands before a fault begins a sheet: each production can be finished from where its parser stops.
use Rattle.std.proofs.Common.{◌≡◌, ℕ, zero, suc, Bool, true, false, List, [], ◌∷◌, sym, refl, ap, ◌∙◌, subst, arith}
use Rattle.letters.specs.declared.kind.Kind.{Kind}
use Rattle.letters.specs.declared.kind.Kind.TheVariants.{Name, Numeral, Rule, Needs, Gives, Let, In, If, Then, Else, Put, As, Open, Close, OpenSquare, CloseSquare, Comma, Semicolon, Minus, Times, Less, Equal, Becomes, End}
use Rattle.letters.specs.declared.token.Token.{Token}
use Rattle.letters.specs.Kinds.{same_kind}
use Rattle.letters.specs.Tokens.{token_of}
use Rattle.letters.proofs.Numbering.{same-kind-decides}
use Rattle.grammar.specs.Raw.{Item, Side, Condition, Expr, Args, num, none, Param, Sheet}
use Rattle.grammar.specs.Raw as raw
use Rattle.grammar.specs.Parsers.{Look, is_a, P, seq, wanted, want}
use Rattle.grammar.specs.Sheets.{sum_sign, compares, quantity, plain_item, item_s, item_on, side_s, condition_of, condition_s, condition_on, conditions_s, optional_s, number_param, param_s, param_on, params_s, expr_by, calc_on, arg_on, args_by, atom_by, expr_s, sum_s, sum_from_s, product_s, product_from_s, args_s, args_from_s, atom_s, rule_of, rule_on, sheet_s}
use Rattle.grammar.specs.Derives.{Is, DItem, item-numeral, item-plain, item-times, DSide, side-first, side-more, DCondition, condition, DConditions, conditions-first, conditions-more, DParam, param-number, param-list, DParams, params-first, params_more, DHead, head-none, head-some, Level, expr, sum, product, atom, Derives, at-numeral, at_name, at_read, at-call-none, at_call, at-nest, at-claim, product-one, product-more, sum_one, sum_more, expr-sum, expr-let, expr-if, expr-put, DArgs, args-first, args_more, DOptional, absent, present, rule, DRules, rules-none, rules-more, Before}
use Rattle.grammar.proofs.Finishing.{Fact, Span, Runs, ran, runs, Sample, Goes, out-goes, give-goes, stop_goes, when-goes, seq-goes, turn-goes, none_more, Line, given, bind, token, stopped, part, fork, less, loop, run}

-- a token of this kind
abbrev of : Kind → Token
of k = token_of k 0 0 0

is-of : (k : Kind) → is_a k (of k) ≡ true
is-of k = (same-kind-decides k k).1 refl

a-quantity : (res : Bool) → quantity res (of Name) ≡ true
unfolding same_kind
a-quantity res = refl

a-comparison : (u : Bool) → compares u (of Less) ≡ true
unfolding same_kind
a-comparison u = refl

-- the spans of the grammar
abbrev Items : Bool → Bool → Span
Items res s m i j = (x : Item) × DItem m res s i x j

abbrev Sides : Bool → Span
Sides res m i j = (x : Side) × DSide m res i x j

abbrev OneCondition : Bool → Span
OneCondition res m i j = (x : Condition) × DCondition m res i x j

abbrev Conditions : Bool → Span
Conditions res m i j = (x : List Condition) × DConditions m res i x j

abbrev Optionals : Kind → Bool → Span
Optionals k res m i j = (x : List Condition) × DOptional m k res i x j

abbrev OneParam : Span
OneParam m i j = (x : Param) × DParam m i x j

abbrev Params : Span
Params m i j = (x : List Param) × DParams m i x j

abbrev Heads : Span
Heads m i j = (x : List Param) × DHead m i x j

abbrev Exprs : Level → Span
Exprs v m i j = (x : Expr) × Derives m v i x j

abbrev SomeArgs : Span
SomeArgs m i j = (x : Args) × DArgs m i x j

abbrev Rules : Span
Rules m i j = (x : Sheet) × DRules m i x j

-- arguments with their `)`
data Closing (m : Look) : ℕ → ℕ → Type 0 where
  closes : {i : ℕ} → Is Close (m i) → Closing m i (suc i)
  closed : {i j : ℕ} {xs : Args} → DArgs m i xs j → Is Close (m j) → Closing m i (suc j)

-- a value for each of them, which no derivation has to have
an_item : Item
an_item = plain_item false (of Numeral)

a-condition : Condition
a-condition = condition_of [] (of Less) []

an-expr : Expr
an-expr = num (of Numeral)

-- the shortest of each
one : {E : Span} (k : Kind) → ((m : Look) (i : ℕ) → is_a k (m i) ≡ true → E m i (suc i)) → Sample E
one {E} k h = record { tokens = of k ∷ []; stands = go }
  where
    go : (m : Look) (i j : ℕ) → Runs m i (of k ∷ []) j → E m i j
    go m i j (runs e ran) = h m i (ap (is_a k) e ∙ is-of k)

as-well : {E F : Span} → Sample E → ((m : Look) (i j : ℕ) → E m i j → F m i j) → Sample F
as-well s h = record { tokens = s.tokens; stands = λ m i j r. h m i j (s.stands m i j r) }

item-sample : (res s : Bool) → Sample (Items res s)
item-sample res s = one Numeral (λ m i h. (_, item-numeral h))

side-sample : (res : Bool) → Sample (Sides res)
side-sample res = as-well (item-sample res false) (λ m i j d. (_, side-first d.1))

condition-sample : (res : Bool) → Sample (OneCondition res)
condition-sample res = record { tokens = of Numeral ∷ of Less ∷ of Numeral ∷ []; stands = go }
  where
    numeral : {t : Token} → t ≡ of Numeral → Is Numeral t
    numeral e = ap (is_a Numeral) e ∙ is-of Numeral

    go : (m : Look) (i j : ℕ) → Runs m i (of Numeral ∷ of Less ∷ of Numeral ∷ []) j → OneCondition res m i j
    go m i j (runs e (runs c (runs d ran))) = (_, condition (side-first (item-numeral (numeral e))) (ap (compares false) c ∙ a-comparison false) (side-first (item-numeral (numeral d))))

conditions-sample : (res : Bool) → Sample (Conditions res)
conditions-sample res = as-well (condition-sample res) (λ m i j d. (_, conditions-first d.1))

optional-sample : (k : Kind) (res : Bool) → Sample (Optionals k res)
optional-sample k res = record { tokens = []; stands = go }
  where
    go : (m : Look) (i j : ℕ) → Runs m i [] j → Optionals k res m i j
    go m i j ran = ([], absent)

param-sample : Sample OneParam
param-sample = one Name (λ m i h. (_, param-number h))

head-sample : Sample Heads
head-sample = one Close (λ m i h. (_, head-none h))

closing-sample : Sample Closing
closing-sample = one Close (λ m i h. closes h)

atom-sample : Sample (Exprs atom)
atom-sample = one Numeral (λ m i h. (_, at-numeral h))

product-sample : Sample (Exprs product)
product-sample = as-well atom-sample (λ m i j d. (_, product-one d.1))

sum-sample : Sample (Exprs sum)
sum-sample = as-well product-sample (λ m i j d. (_, sum_one d.1))

expr-sample : Sample (Exprs expr)
expr-sample = as-well sum-sample (λ m i j d. (_, expr-sum d.1))

module _ (l : Look) where
  -- what the last token says in another text that is the same up to it
  still : (b : Token → Bool) (i : ℕ) {m : Look} → Before (suc i) l m → b (l i) ≡ true → b (m i) ≡ true
  still b i u h = ap b (sym (u i (omega arith))) ∙ h

  back : {i : ℕ} {m : Look} → Before (suc i) l m → Before i l m
  back u q k = u q (omega arith)

  -- a token of this kind, or one for which the test holds, and then the rest
  word : {X : Type 0} {f : Token → P X} {G H : Fact} (k : Kind) → ((t : Token) → Line l G (f t) H) → Line l (λ m j. is_a k (m j) ≡ true → G m (suc j)) (seq (want k) f) H
  word k f = bind l (of k) (token l (is_a k) (of k) (is-of k)) f

  a-name : {X : Type 0} {f : Token → P X} {G H : Fact} (res : Bool) → ((t : Token) → Line l G (f t) H) → Line l (λ m j. quantity res (m j) ≡ true → G m (suc j)) (seq (wanted (quantity res)) f) H
  a-name res f = bind l (of Name) (token l (quantity res) (of Name) (a-quantity res)) f

  comparing : {X : Type 0} {f : Token → P X} {G H : Fact} (v : Bool) → ((t : Token) → Line l G (f t) H) → Line l (λ m j. compares v (m j) ≡ true → G m (suc j)) (seq (wanted (compares v)) f) H
  comparing v f = bind l (of Less) (token l (compares v) (of Less) (a-comparison v)) f

  item-goes : (res s : Bool) (i : ℕ) → Goes l (item_s res s) i (λ m j. Items res s m i j)
  item-goes res s i = run l i (fork l (is_a Numeral) (λ n. fork l (is_a Times) (λ _. a-name res (λ t. given l)) (given l)) (a-name res (λ t. given l))) (λ m u. (λ h. (λ t q. (_, item-times h t q), (_, item-numeral h)), λ q. (_, item-plain q)))

  side-goes : (res : Bool) (f i : ℕ) → Goes l (side_s res f) i (λ m j. Sides res m i j)
  side-goes res f i = run l i (bind l an_item (part l (item-sample res false) (item-goes res false)) (λ it. loop l sum_sign (item_on res) step f (it ∷ []))) (λ m u j d. (_, side-first d.1))
    where
      step : (f : ℕ) (x : Side) (k : ℕ) → sum_sign (l k) ≡ true → ((m : Look) → Before k l m → Sides res m i k) → Goes l (item_on res f x (l k)) (suc k) (λ m j. Sides res m i j)
      step f x k h e = run l (suc k) (bind l an_item (part l (item-sample res (is_a Minus (l k))) (item-goes res (is_a Minus (l k)))) (λ it. given l)) (λ m u j d. (_, side-more (e m (back u)).1 (still sum_sign k u h) (subst (λ t. DItem m res (is_a Minus t) (suc k) d.0 j) (u k (omega arith)) d.1)))

  condition-goes : (res : Bool) (f i : ℕ) → Goes l (condition_s res f) i (λ m j. OneCondition res m i j)
  condition-goes res f i = run l i (bind l [] (part l (side-sample res) (side-goes res f)) (λ a. comparing false (λ c. bind l [] (part l (side-sample res) (side-goes res f)) (λ b. given l)))) (λ m u j a c k b. (_, condition a.1 c b.1))

  conditions-go : (res : Bool) (f i : ℕ) → Goes l (conditions_s res f) i (λ m j. Conditions res m i j)
  conditions-go res f i = run l i (bind l a-condition (part l (condition-sample res) (condition-goes res f)) (λ c. loop l (is_a Comma) (condition_on res) step f (c ∷ []))) (λ m u j d. (_, conditions-first d.1))
    where
      step : (f : ℕ) (x : List Condition) (k : ℕ) → is_a Comma (l k) ≡ true → ((m : Look) → Before k l m → Conditions res m i k) → Goes l (condition_on res f x (l k)) (suc k) (λ m j. Conditions res m i j)
      step f x k h e = run l (suc k) (bind l a-condition (part l (condition-sample res) (condition-goes res f)) (λ c. given l)) (λ m u j d. (_, conditions-more (e m (back u)).1 (still (is_a Comma) k u h) d.1))

  optional-goes : (k : Kind) (res : Bool) (f i : ℕ) → Goes l (optional_s k res f) i (λ m j. Optionals k res m i j)
  optional-goes k res f i = run l i (fork l (is_a k) (λ _. part l (conditions-sample res) (conditions-go res f)) (given l)) (λ m u. (λ h j d. (_, present h d.1), (_, absent)))

  param-goes : (i : ℕ) → Goes l param_s i (λ m j. OneParam m i j)
  param-goes i = run l i (word Name (λ n. fork l (is_a OpenSquare) (λ _. word Name (λ m. word CloseSquare (λ _. given l))) (given l))) (λ m u h. (λ o n c. (_, param-list h o n c), (_, param-number h)))

  head-goes : (f i : ℕ) → Goes l (params_s f) i (λ m j. Heads m i j)
  head-goes f i = run l i (fork l (is_a Close) (λ _. given l) (bind l (number_param (of Name)) (part l param-sample param-goes) (λ p. bind l [] (closing (loop l (is_a Comma) param_on step f (p ∷ []))) (λ ps. word Close (λ _. given l))))) (λ m u. (λ h. (_, head-none h), λ j d. (_, params-first d.1)))
    where
      step : (f : ℕ) (x : List Param) (k : ℕ) → is_a Comma (l k) ≡ true → ((m : Look) → Before k l m → Params m i k) → Goes l (param_on f x (l k)) (suc k) (λ m j. Params m i j)
      step f x k h e = run l (suc k) (bind l (number_param (of Name)) (part l param-sample param-goes) (λ p. given l)) (λ m u j d. (_, params_more (e m (back u)).1 (still (is_a Comma) k u h) d.1))

      closing : {p : P (List Param)} → Line l (λ m j. Params m i j) p (λ m j. Params m i j) → Line l (λ m j. Params m i j) p (λ m j. Is Close (m j) → Heads m i (suc j))
      closing a = less l (λ m j d h. (_, head-some d.1 h)) a

  expr-body : (s x : P Expr) → ((i : ℕ) → Goes l s i (λ m j. Exprs sum m i j)) → ((i : ℕ) → Goes l x i (λ m j. Exprs expr m i j)) → (i : ℕ) → Goes l (expr_by s x) i (λ m j. Exprs expr m i j)
  expr-body s x hs hx i = run l i
      (fork l (is_a Let) (λ t. word Name (λ n. word Equal (λ _. an-expression (λ a. word In (λ _. an-expression (λ b. given l))))))
      (fork l (is_a If) (λ t. a_sum (λ a. comparing true (λ c. a_sum (λ b. word Then (λ _. an-expression (λ d. word Else (λ _. an-expression (λ e. given l))))))))
      (fork l (is_a Put) (λ t. word Name (λ n. word OpenSquare (λ _. a_sum (λ a. word CloseSquare (λ _. word Becomes (λ _. a_sum (λ b. word In (λ _. an-expression (λ c. given l)))))))))
      (part l sum-sample hs))))
      (λ m u. (λ h n q j a t k b. (_, expr-let h n q a.1 t b.1), (λ h j a c k b t o d e g y. (_, expr-if h a.1 c b.1 t d.1 e y.1), (λ h n o j a c w k b t q d. (_, expr-put h n o a.1 c w b.1 t d.1), λ j a. (_, expr-sum a.1)))))
    where
      a_sum : {Y : Type 0} {f : Expr → P Y} {G H : Fact} → ((e : Expr) → Line l G (f e) H) → Line l (λ m i. (j : ℕ) → Exprs sum m i j → G m j) (seq s f) H
      a_sum f = bind l an-expr (part l sum-sample hs) f

      an-expression : {Y : Type 0} {f : Expr → P Y} {G H : Fact} → ((e : Expr) → Line l G (f e) H) → Line l (λ m i. (j : ℕ) → Exprs expr m i j → G m j) (seq x f) H
      an-expression f = bind l an-expr (part l expr-sample hx) f

  args-body : (s : P Expr) (rest : Args → P Args) → ((i : ℕ) → Goes l s i (λ m j. Exprs sum m i j)) → ((xs : Args) (i k : ℕ) → ((m : Look) → Before k l m → SomeArgs m i k) → Goes l (rest xs) k (λ m j. SomeArgs m i j)) → (i : ℕ) → Goes l (args_by s rest) i (λ m j. Closing m i j)
  args-body s rest hs hr i = run l i (fork l (is_a Close) (λ _. given l) (bind l none (bind l an-expr (part l sum-sample hs) (λ e. given l)) (λ xs. bind l none (further xs) (λ ys. word Close (λ _. given l))))) (λ m u. (λ h. closes h, λ j d. (_, args-first d.1)))
    where
      further : (xs : Args) → Line l (λ m j. SomeArgs m i j) (rest xs) (λ m j. Is Close (m j) → Closing m i (suc j))
      further xs = less l (λ m j d h. closed d.1 h) (record { ends = none_more; goes = λ k e. hr xs i k e })

  call-closed : (m : Look) (i j : ℕ) → Is Name (m i) → Is Open (m (suc i)) → Closing m (suc (suc i)) j → Exprs atom m i j
  call-closed m i j n o (closes h) = (_, at-call-none n o h)
  call-closed m i j n o (closed d h) = (_, at_call n o d h)

  atom-body : (s : P Expr) (xs : P Args) (x : P Expr) (cs : P (List Condition)) → ((i : ℕ) → Goes l s i (λ m j. Exprs sum m i j)) → ((i : ℕ) → Goes l xs i (λ m j. Closing m i j)) → ((i : ℕ) → Goes l x i (λ m j. Exprs expr m i j)) → ((i : ℕ) → Goes l cs i (λ m j. Conditions true m i j)) → (i : ℕ) → Goes l (atom_by s xs x cs) i (λ m j. Exprs atom m i j)
  atom-body s xs x cs hs ha hx hc i = run l i
      (fork l (is_a Numeral) (λ t. given l)
      (fork l (is_a Name) (λ n. fork l (is_a OpenSquare) (λ _. bind l an-expr (part l sum-sample hs) (λ a. word CloseSquare (λ _. given l))) (fork l (is_a Open) (λ _. bind l none (part l closing-sample ha) (λ ys. given l)) (given l)))
      (fork l (is_a Open) (λ t. bind l an-expr (part l expr-sample hx) (λ e. fork l (is_a As) (λ a. bind l [] (part l (conditions-sample true) hc) (λ ds. word Close (λ _. given l))) (word Close (λ _. given l))))
      (stopped l (is_a Numeral) (of Numeral) (is-of Numeral)))))
      (λ m u. (λ h. (_, at-numeral h), (λ h. (λ o j a c. (_, at_read h o a.1 c), (λ o j d. call-closed m i j h o d, (_, at_name h))), (λ h j a. (λ s k c t. (_, at-claim h a.1 s c.1 t), λ t. (_, at-nest h a.1 t)), λ h. (_, at-numeral h)))))

  -- one more part of a sum or a product
  calc-goes : (v w : Level) (b : Token → Bool) (p : P Expr) → Sample (Exprs w) → ((m : Look) (i j k : ℕ) (a c : Expr) → Derives m v i a j → b (m j) ≡ true → Derives m w (suc j) c k → Derives m v i (raw.calc (m j) a c) k)
      → ((i : ℕ) → Goes l p i (λ m j. Exprs w m i j)) → (x : Expr) (i k : ℕ) → ((m : Look) → Before k l m → Exprs v m i k) → b (l k) ≡ true → Goes l (calc_on p x (l k)) (suc k) (λ m j. Exprs v m i j)
  calc-goes v w b p s more' hp x i k e h = run l (suc k) (bind l an-expr (part l s hp) (λ c. given l)) (λ m u j d. (_, more' m i k j _ _ (e m (back u)).1 (still b k u h) d.1))

  mutual
    unfolding expr_s sum_s sum_from_s product_s product_from_s args_s args_from_s atom_s

    expr-goes : (f i : ℕ) → Goes l (expr_s f) i (λ m j. Exprs expr m i j)
    expr-goes zero i = out-goes l
    expr-goes (suc f) i = expr-body (sum_s f) (expr_s f) (sum_goes f) (expr-goes f) i

    sum_goes : (f i : ℕ) → Goes l (sum_s f) i (λ m j. Exprs sum m i j)
    sum_goes zero i = out-goes l
    sum_goes (suc f) i = run l i (bind l an-expr (part l product-sample (product-goes f)) (λ a. record { ends = none_more; goes = λ k e. sum-from-goes f a i k e })) (λ m u j d. (_, sum_one d.1))

    sum-from-goes : (f : ℕ) (x : Expr) (i k : ℕ) → ((m : Look) → Before k l m → Exprs sum m i k) → Goes l (sum_from_s f x) k (λ m j. Exprs sum m i j)
    sum-from-goes zero x i k e = out-goes l
    sum-from-goes (suc f) x i k e = turn-goes l sum_sign (calc_on (product_s f)) (sum_from_s f) x k (calc-goes sum product sum_sign (product_s f) product-sample (λ m i j k a c d h g. sum_more d h g) (product-goes f) x i k e) (λ y j g. sum-from-goes f y i j g) e

    product-goes : (f i : ℕ) → Goes l (product_s f) i (λ m j. Exprs product m i j)
    product-goes zero i = out-goes l
    product-goes (suc f) i = run l i (bind l an-expr (part l atom-sample (atom-goes f)) (λ a. record { ends = none_more; goes = λ k e. product-from-goes f a i k e })) (λ m u j d. (_, product-one d.1))

    product-from-goes : (f : ℕ) (x : Expr) (i k : ℕ) → ((m : Look) → Before k l m → Exprs product m i k) → Goes l (product_from_s f x) k (λ m j. Exprs product m i j)
    product-from-goes zero x i k e = out-goes l
    product-from-goes (suc f) x i k e = turn-goes l (is_a Times) (calc_on (atom_s f)) (product_from_s f) x k (calc-goes product atom (is_a Times) (atom_s f) atom-sample (λ m i j k a c d h g. product-more d h g) (atom-goes f) x i k e) (λ y j g. product-from-goes f y i j g) e

    args-go : (f i : ℕ) → Goes l (args_s f) i (λ m j. Closing m i j)
    args-go zero i = out-goes l
    args-go (suc f) i = args-body (sum_s f) (args_from_s f) (sum_goes f) (args-from-go f) i

    args-from-go : (f : ℕ) (xs : Args) (i k : ℕ) → ((m : Look) → Before k l m → SomeArgs m i k) → Goes l (args_from_s f xs) k (λ m j. SomeArgs m i j)
    args-from-go zero xs i k e = out-goes l
    args-from-go (suc f) xs i k e = turn-goes l (is_a Comma) (λ ys _. arg_on (sum_s f) ys) (args_from_s f) xs k (λ h. run l (suc k) (bind l an-expr (part l sum-sample (sum_goes f)) (λ c. given l)) (λ m u j d. (_, args_more (e m (back u)).1 (still (is_a Comma) k u h) d.1))) (λ y j g. args-from-go f y i j g) e

    atom-goes : (f i : ℕ) → Goes l (atom_s f) i (λ m j. Exprs atom m i j)
    atom-goes zero i = out-goes l
    atom-goes (suc f) i = atom-body (sum_s f) (args_s f) (expr_s f) (conditions_s true f) (sum_goes f) (args-go f) (expr-goes f) (conditions-go true f) i

  rule-on : (f : ℕ) (rs : Sheet) (k : ℕ) → is_a Rule (l k) ≡ true → ((m : Look) → Before k l m → Rules m 0 k) → Goes l (rule_on f rs (l k)) (suc k) (λ m j. Rules m 0 j)
  rule-on f rs k h e = run l (suc k)
      (bind l (rule_of (of Rule) (of Name) [] [] [] an-expr) (word Name (λ n. word Open (λ _. bind l [] (part l head-sample (head-goes f)) (λ ps. bind l [] (part l (optional-sample Needs false) (optional-goes Needs false f)) (λ ns. bind l [] (part l (optional-sample Gives true) (optional-goes Gives true f)) (λ gs. word Equal (λ _. bind l an-expr (part l expr-sample (expr-goes f)) (λ e. word Semicolon (λ _. given l))))))))) (λ r. given l))
      (λ m u n o j d i x g y q b z s. (_, rules-more (e m (back u)).1 (rule (still (is_a Rule) k u h) n o d.1 x.1 y.1 q z.1 s)))

  pub sheet-goes : (f : ℕ) → Goes l (sheet_s f) 0 (λ m j. Rules m 0 j)
  sheet-goes f = seq-goes l ((loop l (is_a Rule) rule_on rule-on f []).goes 0 (λ m u. (_, rules-none))) none_more (λ rs j e. when-goes l (is_a End) (λ h. give-goes l e) (λ h. stop_goes l none_more e))
