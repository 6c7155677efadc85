-- The grammar as a relation: one constructor for each production. The tokens from i to j are the tree.
use Rattle.std.specs.Prelude.{◌≡◌, ℕ, suc, ◌<◌, ◌≤◌, Bool, true, false, List, [], ◌∷◌, ◌++◌}
use Rattle.letters.specs.declared.kind.Kind.{Kind}
use Rattle.letters.specs.declared.kind.Kind.TheVariants.{Name, Numeral, Rule, Needs, Gives, Let, In, If, Then, Else, Put, As, Open, Close, OpenSquare, CloseSquare, Comma, Semicolon, Minus, Times, Equal, Becomes, End}
use Rattle.letters.specs.declared.token.Token.{Token}
use Rattle.grammar.specs.Raw.{Item, Side, Condition, Expr, Args, num, name, calc, read, call, bind, test, put, claim, nest, none, more, Param, Sheet}
use Rattle.grammar.specs.Raw as raw
use Rattle.grammar.specs.Parsers.{Look, is_a}
use Rattle.grammar.specs.Sheets.{sum_sign, compares, quantity, plain_item, times_item, condition_of, number_param, list_param, rule_of}

abbrev pub Is : Kind → Token → Type 0
Is k t = is_a k t ≡ true

-- item ::= NUMERAL | quantity | NUMERAL `*` quantity
pub data DItem (l : Look) (res m : Bool) : ℕ → Item → ℕ → Type 0 where
  item-numeral : {i : ℕ} → Is Numeral (l i) → DItem l res m i (plain_item m (l i)) (suc i)
  item-plain : {i : ℕ} → quantity res (l i) ≡ true → DItem l res m i (plain_item m (l i)) (suc i)
  item-times : {i : ℕ} → Is Numeral (l i) → Is Times (l (suc i)) → quantity res (l (suc (suc i))) ≡ true → DItem l res m i (times_item m (l i) (l (suc (suc i)))) (suc (suc (suc i)))

-- side ::= item | side (`+` | `-`) item
pub data DSide (l : Look) (res : Bool) : ℕ → Side → ℕ → Type 0 where
  side-first : {i j : ℕ} {it : Item} → DItem l res false i it j → DSide l res i (it ∷ []) j
  side-more : {i j k : ℕ} {its : Side} {it : Item} → DSide l res i its j → sum_sign (l j) ≡ true → DItem l res (is_a Minus (l j)) (suc j) it k → DSide l res i (its ++ it ∷ []) k

-- condition ::= side (`<` | `<=` | `=`) side
pub data DCondition (l : Look) (res : Bool) : ℕ → Condition → ℕ → Type 0 where
  condition : {i j k : ℕ} {a b : Side} → DSide l res i a j → compares false (l j) ≡ true → DSide l res (suc j) b k → DCondition l res i (condition_of a (l j) b) k

-- conditions ::= condition | conditions `,` condition
pub data DConditions (l : Look) (res : Bool) : ℕ → List Condition → ℕ → Type 0 where
  conditions-first : {i j : ℕ} {c : Condition} → DCondition l res i c j → DConditions l res i (c ∷ []) j
  conditions-more : {i j k : ℕ} {cs : List Condition} {c : Condition} → DConditions l res i cs j → Is Comma (l j) → DCondition l res (suc j) c k → DConditions l res i (cs ++ c ∷ []) k

-- param ::= NAME | NAME `[` NAME `]`
pub data DParam (l : Look) : ℕ → Param → ℕ → Type 0 where
  param-number : {i : ℕ} → Is Name (l i) → DParam l i (number_param (l i)) (suc i)
  param-list : {i : ℕ} → Is Name (l i) → Is OpenSquare (l (suc i)) → Is Name (l (suc (suc i))) → Is CloseSquare (l (suc (suc (suc i)))) → DParam l i (list_param (l i) (l (suc (suc i)))) (suc (suc (suc (suc i))))

-- params ::= param | params `,` param
pub data DParams (l : Look) : ℕ → List Param → ℕ → Type 0 where
  params-first : {i j : ℕ} {p : Param} → DParam l i p j → DParams l i (p ∷ []) j
  params_more : {i j k : ℕ} {ps : List Param} {p : Param} → DParams l i ps j → Is Comma (l j) → DParam l (suc j) p k → DParams l i (ps ++ p ∷ []) k

-- head ::= `)` | params `)`
pub data DHead (l : Look) : ℕ → List Param → ℕ → Type 0 where
  head-none : {i : ℕ} → Is Close (l i) → DHead l i [] (suc i)
  head-some : {i j : ℕ} {ps : List Param} → DParams l i ps j → Is Close (l j) → DHead l i ps (suc j)

pub data Level : Type 0 where
  expr sum product atom : Level

mutual
  pub data Derives (l : Look) : Level → ℕ → Expr → ℕ → Type 0 where
    -- atom ::= NUMERAL | NAME | NAME `[` sum `]` | NAME `(` `)` | NAME `(` args `)` | `(` expr `)` | `(` expr `as` conditions `)`
    at-numeral : {i : ℕ} → Is Numeral (l i) → Derives l atom i (num (l i)) (suc i)
    at_name : {i : ℕ} → Is Name (l i) → Derives l atom i (name (l i)) (suc i)
    at_read : {i j : ℕ} {a : Expr} → Is Name (l i) → Is OpenSquare (l (suc i)) → Derives l sum (suc (suc i)) a j → Is CloseSquare (l j) → Derives l atom i (read (l i) a) (suc j)
    at-call-none : {i : ℕ} → Is Name (l i) → Is Open (l (suc i)) → Is Close (l (suc (suc i))) → Derives l atom i (call (l i) none) (suc (suc (suc i)))
    at_call : {i j : ℕ} {xs : Args} → Is Name (l i) → Is Open (l (suc i)) → DArgs l (suc (suc i)) xs j → Is Close (l j) → Derives l atom i (call (l i) xs) (suc j)
    at-nest : {i j : ℕ} {a : Expr} → Is Open (l i) → Derives l expr (suc i) a j → Is Close (l j) → Derives l atom i (nest (l i) a) (suc j)
    at-claim : {i j k : ℕ} {a : Expr} {cs : List Condition} → Is Open (l i) → Derives l expr (suc i) a j → Is As (l j) → DConditions l true (suc j) cs k → Is Close (l k) → Derives l atom i (claim (l j) a cs) (suc k)
    -- product ::= atom | product `*` atom
    product-one : {i j : ℕ} {a : Expr} → Derives l atom i a j → Derives l product i a j
    product-more : {i j k : ℕ} {a b : Expr} → Derives l product i a j → Is Times (l j) → Derives l atom (suc j) b k → Derives l product i (calc (l j) a b) k
    -- sum ::= product | sum (`+` | `-`) product
    sum_one : {i j : ℕ} {a : Expr} → Derives l product i a j → Derives l sum i a j
    sum_more : {i j k : ℕ} {a b : Expr} → Derives l sum i a j → sum_sign (l j) ≡ true → Derives l product (suc j) b k → Derives l sum i (calc (l j) a b) k
    -- expr ::= sum | `let` NAME `=` expr `in` expr | `if` sum comparison sum `then` expr `else` expr | `put` NAME `[` sum `]` `:=` sum `in` expr
    expr-sum : {i j : ℕ} {a : Expr} → Derives l sum i a j → Derives l expr i a j
    expr-let : {i j k : ℕ} {a b : Expr} → Is Let (l i) → Is Name (l (suc i)) → Is Equal (l (suc (suc i))) → Derives l expr (suc (suc (suc i))) a j → Is In (l j) → Derives l expr (suc j) b k → Derives l expr i (bind (l i) (l (suc i)) a b) k
    expr-if : {i j k m n : ℕ} {a b c d : Expr} → Is If (l i) → Derives l sum (suc i) a j → compares true (l j) ≡ true → Derives l sum (suc j) b k → Is Then (l k) → Derives l expr (suc k) c m → Is Else (l m) → Derives l expr (suc m) d n → Derives l expr i (test (l i) (l j) a b c d) n
    expr-put : {i j k n : ℕ} {a b c : Expr} → Is Put (l i) → Is Name (l (suc i)) → Is OpenSquare (l (suc (suc i))) → Derives l sum (suc (suc (suc i))) a j → Is CloseSquare (l j) → Is Becomes (l (suc j)) → Derives l sum (suc (suc j)) b k → Is In (l k) → Derives l expr (suc k) c n → Derives l expr i (put (l i) (l (suc i)) a b c) n

  -- args ::= sum | args `,` sum
  pub data DArgs (l : Look) : ℕ → Args → ℕ → Type 0 where
    args-first : {i j : ℕ} {a : Expr} → Derives l sum i a j → DArgs l i (more none a) j
    args_more : {i j k : ℕ} {xs : Args} {a : Expr} → DArgs l i xs j → Is Comma (l j) → Derives l sum (suc j) a k → DArgs l i (more xs a) k

-- conditions after a keyword, or nothing
pub data DOptional (l : Look) (k : Kind) (res : Bool) : ℕ → List Condition → ℕ → Type 0 where
  absent : {i : ℕ} → DOptional l k res i [] i
  present : {i j : ℕ} {cs : List Condition} → Is k (l i) → DConditions l res (suc i) cs j → DOptional l k res i cs j

-- rule ::= `rule` NAME `(` head [`needs` conditions] [`gives` conditions] `=` expr `;`
pub data DRule (l : Look) : ℕ → raw.Rule → ℕ → Type 0 where
  rule : {i j k m n : ℕ} {ps : List Param} {ns gs : List Condition} {e : Expr} → Is Rule (l i) → Is Name (l (suc i)) → Is Open (l (suc (suc i))) → DHead l (suc (suc (suc i))) ps j → DOptional l Needs false j ns k → DOptional l Gives true k gs m → Is Equal (l m) → Derives l expr (suc m) e n → Is Semicolon (l n) → DRule l i (rule_of (l i) (l (suc i)) ps ns gs e) (suc n)

-- rules ::= | rules rule
pub data DRules (l : Look) : ℕ → Sheet → ℕ → Type 0 where
  rules-none : {i : ℕ} → DRules l i [] i
  rules-more : {i j k : ℕ} {rs : Sheet} {r : raw.Rule} → DRules l i rs j → DRule l j r k → DRules l i (rs ++ r ∷ []) k

-- sheet ::= rules END
pub record DSheet (l : Look) (rs : Sheet) : Type 0 where
  pub last : ℕ
  pub rules : DRules l 0 rs last
  pub ends : Is End (l last)

-- the same tokens up to k, and at k
abbrev pub Upto : ℕ → Look → Look → Type 0
Upto k l m = (q : ℕ) → q ≤ k → l q ≡ m q

-- the same tokens before k
abbrev pub Before : ℕ → Look → Look → Type 0
Before k l m = (q : ℕ) → q < k → l q ≡ m q
