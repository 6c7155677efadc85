-- A parser reads no further than the token that it stops at.
use Rattle.std.proofs.Common.{◌≡◌, ℕ, zero, suc, ◌≤◌, Bool, true, false, cond, List, [], ◌∷◌, sym, refl, ap, ◌∙◌, subst, arith}
use Rattle.letters.specs.declared.kind.Kind.{Kind}
use Rattle.letters.specs.declared.kind.Kind.TheVariants.{Name, Numeral, Rule, Needs, Gives, Let, In, If, Then, Else, Put, As, Open, Close, OpenSquare, CloseSquare, Comma, Semicolon, Minus, Times, Equal, Becomes, End}
use Rattle.letters.specs.declared.token.Token.{Token}
use Rattle.grammar.specs.Raw.{Condition, Expr, Args, none}
use Rattle.grammar.specs.Parsers.{Look, is_a, Ans, done, fault, spent, P, then, give, stop, out, next, seq, when, wanted, turn, chain}
use Rattle.grammar.specs.Sheets.{sum_sign, compares, quantity, item_s, item_on, side_s, condition_s, condition_on, conditions_s, optional_s, param_s, param_on, params_s, expr_by, calc_on, arg_on, args_by, atom_by, expr_s, sum_s, sum_from_s, product_s, product_from_s, args_s, args_from_s, atom_s, rule_s, rule_on, sheet_s}
use Rattle.grammar.specs.Derives.{Upto}

abbrev Beyond : {X : Type 0} → ℕ → Ans X → Type 0
Beyond i (done x j) = i ≤ j
Beyond i (fault k) = i ≤ k
Beyond i spent = Unit {0}

-- the two agree up to where the answer stops
abbrev pub Seen : {X : Type 0} → Ans X → Look → Look → Type 0
Seen (done x j) l m = Upto j l m
Seen (fault k) l m = Upto k l m
Seen spent l m = ⊥

seen_at : {X : Type 0} (a : Ans X) (l m : Look) (i : ℕ) → Beyond i a → Seen a l m → Upto i l m
seen_at (done x j) l m i h s q k = s q (omega arith)
seen_at (fault j) l m i h s q k = s q (omega arith)
seen_at spent l m i h s q k = absurd s

beyond-on : {X : Type 0} (a : Ans X) (i j : ℕ) → i ≤ j → Beyond j a → Beyond i a
beyond-on (done x k) i j h p = omega arith
beyond-on (fault k) i j h p = omega arith
beyond-on spent i j h p = tt

pub record Good {X : Type 0} (p : P X) : Type 0 where
  pub beyond : (l : Look) (i : ℕ) → Beyond i (p l i)
  pub same : (l m : Look) (i : ℕ) → Seen (p l i) l m → p m i ≡ p l i

module _ {X : Type 0} where
  give-good : (x : X) → Good (give x)
  give-good x = record { beyond = λ l i. omega arith; same = λ l m i s. refl }

  stop-good : Good {X = X} stop
  stop-good = record { beyond = λ l i. omega arith; same = λ l m i s. refl }

  out-good : Good {X = X} out
  out-good = record { beyond = λ l i. tt; same = λ l m i s. absurd s }

  on-good : (b : Token → Bool) (p q : P X) → Good p → Good q → Good (when b p q)
  unfolding when
  on-good b p q g h = record { beyond = λ l i. beyond (b (l i)) l i; same = λ l m i s. same l m i (b (l i)) refl s }
    where
      beyond : (z : Bool) (l : Look) (i : ℕ) → Beyond i (cond z (p l i) (q l i))
      beyond true l i = g.beyond l i
      beyond false l i = h.beyond l i

      same : (l m : Look) (i : ℕ) (z : Bool) → b (l i) ≡ z → Seen (cond z (p l i) (q l i)) l m → cond (b (m i)) (p m i) (q m i) ≡ cond z (p l i) (q l i)
      same l m i true e s = ap (λ t. cond (b t) (p m i) (q m i)) (sym (seen_at (p l i) l m i (g.beyond l i) s i (omega arith))) ∙ ap (λ z. cond z (p m i) (q m i)) e ∙ g.same l m i s
      same l m i false e s = ap (λ t. cond (b t) (p m i) (q m i)) (sym (seen_at (q l i) l m i (h.beyond l i) s i (omega arith))) ∙ ap (λ z. cond z (p m i) (q m i)) e ∙ h.same l m i s

next-good : Good next
next-good = record { beyond = λ l i. omega arith; same = λ l m i s. ap (λ t. done t (suc i)) (sym (s i (omega arith))) }

seq-good : {X Y : Type 0} (p : P X) (k : X → P Y) → Good p → ((x : X) → Good (k x)) → Good (seq p k)
unfolding seq
seq-good {X} {Y} p k g h = record { beyond = λ l i. beyond l i (p l i) (g.beyond l i); same = λ l m i s. same l m i (p l i) refl s }
  where
    beyond : (l : Look) (i : ℕ) (a : Ans X) → Beyond i a → Beyond i (then a (λ x j. k x l j))
    beyond l i (done x j) e = beyond-on (k x l j) i j e ((h x).beyond l j)
    beyond l i (fault j) e = e
    beyond l i spent e = tt

    same : (l m : Look) (i : ℕ) (a : Ans X) → p l i ≡ a → Seen (then a (λ x j. k x l j)) l m → then (p m i) (λ x j. k x m j) ≡ then a (λ x j. k x l j)
    same l m i (done x j) e s = ap (λ a. then a (λ x j. k x m j)) (g.same l m i (subst (λ a. Seen a l m) (sym e) (seen_at (k x l j) l m j ((h x).beyond l j) s)) ∙ e) ∙ (h x).same l m j s
    same l m i (fault j) e s = ap (λ a. then a (λ x j. k x m j)) (g.same l m i (subst (λ a. Seen a l m) (sym e) s) ∙ e)
    same l m i spent e s = absurd s

nexts : {Y : Type 0} (k : Token → P Y) → ((t : Token) → Good (k t)) → Good (seq next k)
nexts k h = seq-good next k next-good h

wants : {Y : Type 0} (b : Token → Bool) (k : Token → P Y) → ((t : Token) → Good (k t)) → Good (seq (wanted b) k)
wants b k h = seq-good (wanted b) k (on-good b next stop next-good stop-good) h

turn-good : {X : Type 0} (b : Token → Bool) (step : X → Token → P X) (rest : X → P X) → ((x : X) (t : Token) → Good (step x t)) → ((x : X) → Good (rest x)) → (x : X) → Good (turn b step rest x)
turn-good b step rest h g x = on-good b _ _ (nexts _ (λ t. seq-good (step x t) rest (h x t) g)) (give-good x)

chain-good : {X : Type 0} (b : Token → Bool) (step : ℕ → X → Token → P X) → ((f : ℕ) (x : X) (t : Token) → Good (step f x t)) → (f : ℕ) (x : X) → Good (chain b step f x)
unfolding chain
chain-good b step h zero x = out-good
chain-good b step h (suc f) x = turn-good b (step f) (chain b step f) (h f) (chain-good b step h f) x

item-good : (res m : Bool) → Good (item_s res m)
item-good res m = on-good (is_a Numeral) _ _ (nexts _ (λ n. on-good (is_a Times) _ _ (nexts _ (λ _. wants (quantity res) _ (λ t. give-good _))) (give-good _))) (wants (quantity res) _ (λ t. give-good _))

side-good : (res : Bool) (f : ℕ) → Good (side_s res f)
side-good res f = seq-good (item_s res false) _ (item-good res false) (λ it. chain-good sum_sign (item_on res) (λ g x t. seq-good (item_s res (is_a Minus t)) _ (item-good res (is_a Minus t)) (λ it. give-good _)) f _)

condition-good : (res : Bool) (f : ℕ) → Good (condition_s res f)
condition-good res f = seq-good (side_s res f) _ (side-good res f) (λ a. wants (compares false) _ (λ c. seq-good (side_s res f) _ (side-good res f) (λ b. give-good _)))

conditions-good : (res : Bool) (f : ℕ) → Good (conditions_s res f)
conditions-good res f = seq-good (condition_s res f) _ (condition-good res f) (λ c. chain-good (is_a Comma) (condition_on res) (λ g x t. seq-good (condition_s res g) _ (condition-good res g) (λ c. give-good _)) f _)

optional-good : (k : Kind) (res : Bool) (f : ℕ) → Good (optional_s k res f)
optional-good k res f = on-good (is_a k) _ _ (nexts _ (λ _. conditions-good res f)) (give-good _)

param-good : Good param_s
param-good = wants (is_a Name) _ (λ n. on-good (is_a OpenSquare) _ _ (nexts _ (λ _. wants (is_a Name) _ (λ m. wants (is_a CloseSquare) _ (λ _. give-good _)))) (give-good _))

params-good : (f : ℕ) → Good (params_s f)
params-good f = on-good (is_a Close) _ _ (nexts _ (λ _. give-good _)) (seq-good param_s _ param-good (λ p. seq-good (chain (is_a Comma) param_on f (p ∷ [])) _ (chain-good (is_a Comma) param_on (λ g x t. seq-good param_s _ param-good (λ p. give-good _)) f _) (λ ps. wants (is_a Close) _ (λ _. give-good _))))

expr-body : (s x : P Expr) → Good s → Good x → Good (expr_by s x)
expr-body s x g h = on-good (is_a Let) _ _ (nexts _ (λ t. wants (is_a Name) _ (λ n. wants (is_a Equal) _ (λ _. seq-good x _ h (λ a. wants (is_a In) _ (λ _. seq-good x _ h (λ b. give-good _)))))))
    (on-good (is_a If) _ _ (nexts _ (λ t. seq-good s _ g (λ a. wants (compares true) _ (λ r. seq-good s _ g (λ b. wants (is_a Then) _ (λ _. seq-good x _ h (λ c. wants (is_a Else) _ (λ _. seq-good x _ h (λ d. give-good _)))))))))
    (on-good (is_a Put) _ _ (nexts _ (λ t. wants (is_a Name) _ (λ n. wants (is_a OpenSquare) _ (λ _. seq-good s _ g (λ a. wants (is_a CloseSquare) _ (λ _. wants (is_a Becomes) _ (λ _. seq-good s _ g (λ b. wants (is_a In) _ (λ _. seq-good x _ h (λ c. give-good _)))))))))) g))

args-body : (s : P Expr) (rest : Args → P Args) → Good s → ((xs : Args) → Good (rest xs)) → Good (args_by s rest)
args-body s rest g h = on-good (is_a Close) _ _ (nexts _ (λ _. give-good _)) (seq-good (arg_on s none) _ (seq-good s _ g (λ e. give-good _)) (λ xs. seq-good (rest xs) _ (h xs) (λ ys. wants (is_a Close) _ (λ _. give-good _))))

atom-body : (s : P Expr) (xs : P Args) (x : P Expr) (cs : P (List Condition)) → Good s → Good xs → Good x → Good cs → Good (atom_by s xs x cs)
atom-body s xs x cs g a h c = on-good (is_a Numeral) _ _ (nexts _ (λ t. give-good _))
    (on-good (is_a Name) _ _ (nexts _ (λ n. on-good (is_a OpenSquare) _ _ (nexts _ (λ _. seq-good s _ g (λ e. wants (is_a CloseSquare) _ (λ _. give-good _)))) (on-good (is_a Open) _ _ (nexts _ (λ _. seq-good xs _ a (λ ys. give-good _))) (give-good _))))
    (on-good (is_a Open) _ _ (nexts _ (λ t. seq-good x _ h (λ e. on-good (is_a As) _ _ (nexts _ (λ k. seq-good cs _ c (λ ds. wants (is_a Close) _ (λ _. give-good _)))) (wants (is_a Close) _ (λ _. give-good _))))) stop-good))

mutual
  unfolding expr_s sum_s sum_from_s product_s product_from_s args_s args_from_s atom_s

  expr-good : (f : ℕ) → Good (expr_s f)
  expr-good zero = out-good
  expr-good (suc f) = expr-body (sum_s f) (expr_s f) (sum-good f) (expr-good f)

  sum-good : (f : ℕ) → Good (sum_s f)
  sum-good zero = out-good
  sum-good (suc f) = seq-good (product_s f) (sum_from_s f) (product-good f) (sum-from-good f)

  sum-from-good : (f : ℕ) (a : Expr) → Good (sum_from_s f a)
  sum-from-good zero a = out-good
  sum-from-good (suc f) a = turn-good sum_sign (calc_on (product_s f)) (sum_from_s f) (λ x t. seq-good (product_s f) _ (product-good f) (λ b. give-good _)) (sum-from-good f) a

  product-good : (f : ℕ) → Good (product_s f)
  product-good zero = out-good
  product-good (suc f) = seq-good (atom_s f) (product_from_s f) (atom-good f) (product-from-good f)

  product-from-good : (f : ℕ) (a : Expr) → Good (product_from_s f a)
  product-from-good zero a = out-good
  product-from-good (suc f) a = turn-good (is_a Times) (calc_on (atom_s f)) (product_from_s f) (λ x t. seq-good (atom_s f) _ (atom-good f) (λ b. give-good _)) (product-from-good f) a

  args-good : (f : ℕ) → Good (args_s f)
  args-good zero = out-good
  args-good (suc f) = args-body (sum_s f) (args_from_s f) (sum-good f) (args-from-good f)

  args-from-good : (f : ℕ) (xs : Args) → Good (args_from_s f xs)
  args-from-good zero xs = out-good
  args-from-good (suc f) xs = turn-good (is_a Comma) (λ ys _. arg_on (sum_s f) ys) (args_from_s f) (λ ys t. seq-good (sum_s f) _ (sum-good f) (λ e. give-good _)) (args-from-good f) xs

  atom-good : (f : ℕ) → Good (atom_s f)
  atom-good zero = out-good
  atom-good (suc f) = atom-body (sum_s f) (args_s f) (expr_s f) (conditions_s true f) (sum-good f) (args-good f) (expr-good f) (conditions-good true f)

rule-good : (t : Token) (f : ℕ) → Good (rule_s t f)
rule-good t f = wants (is_a Name) _ (λ n. wants (is_a Open) _ (λ _. seq-good (params_s f) _ (params-good f) (λ ps. seq-good (optional_s Needs false f) _ (optional-good Needs false f) (λ ns. seq-good (optional_s Gives true f) _ (optional-good Gives true f) (λ gs. wants (is_a Equal) _ (λ _. seq-good (expr_s f) _ (expr-good f) (λ e. wants (is_a Semicolon) _ (λ _. give-good _))))))))

pub sheet-good : (f : ℕ) → Good (sheet_s f)
sheet-good f = seq-good (chain (is_a Rule) rule_on f []) _ (chain-good (is_a Rule) rule_on (λ g rs t. seq-good (rule_s t g) _ (rule-good t g) (λ r. give-good _)) f []) (λ rs. on-good (is_a End) _ _ (give-good rs) stop-good)
