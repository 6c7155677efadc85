-- Where a parse stands, and what a step of it does.
use Rattle.std.specs.Prelude.{◌≡◌, ℕ, suc, ◌+◌, ◌<◌, ◌≤◌, List, [], ◌∷◌, ◌++◌, length, Some, Ok, Err, Result}
use Rattle.letters.specs.declared.token.Token.{Token}
use Rattle.pile.specs.Entries.{entries, lender}
use Rattle.grammar.specs.declared.misplaced.Misplaced.{Misplaced}
use Rattle.grammar.specs.declared.node.Node.{Node}
use Rattle.grammar.specs.declared.parser.Parser.{Parser}
use Rattle.grammar.specs.Raw.{Expr, Args, Rule, Sheet}
use Rattle.grammar.specs.Parsers.{Look, Ans, done, fault, P}
use Rattle.grammar.specs.Trees.{Source, look_of, raw_at, args_at, rule_in, rules_to}

pub record Held : Type 0 where
  pub source : Source
  pub at : ℕ
  pub nodes : List Node
  -- whose pile they lie on, and whose slots
  pub lender : ℕ × ℕ

abbrev pub held : Parser → Held
held p = record { source = record { tokens = p.source.tokens.now; end = p.source.end }; at = p.at; nodes = entries p.nodes.now; lender = (p.nodes.ghost_name, lender p.nodes.now) }

abbrev pub look : Held → Look
look s = look_of s.source

abbrev pub token_count : Held → ℕ
token_count s = length s.source.tokens

-- the rules among the nodes
abbrev pub sheet : Held → Sheet
sheet s = rules_to s.source (length s.nodes) s.nodes

-- the same text; nodes were added, and no rule among them
pub record Lasts (s s' : Held) : Type 0 where
  pub same : s'.source ≡ s.source
  pub added : (ms : List Node) × (s'.nodes ≡ s.nodes ++ ms)
  pub rules : sheet s' ≡ sheet s

-- what an answer of the code stands for: a token's number, a node's position, a node
pub record Taken (s : Held) (a : ℕ) (t : Token) : Type 0 where
  pub reads : look s a ≡ t

pub record Stands (s : Held) (p : ℕ) (e : Expr) : Type 0 where
  pub below : p < length s.nodes
  pub reads : raw_at s.source (length s.nodes) s.nodes p ≡ e

pub record ArgsStand (s : Held) (p : ℕ) (xs : Args) : Type 0 where
  pub below : p < length s.nodes
  pub reads : args_at s.source (length s.nodes) s.nodes p ≡ xs

abbrev pub RuleStands : Held → Node → Rule → Type 0
RuleStands s n r = rule_in s.source (raw_at s.source (length s.nodes) s.nodes) (Some n) ≡ r ∷ []

abbrev pub Any : {A X : Type 0} → Held → A → X → Type 0
Any s a x = Unit {0}

-- with enough fuel the answer of p is a
abbrev pub Comes : {X : Type 0} → (ℕ → P X) → Look → ℕ → Ans X → Type 0
Comes p l i a = (b : ℕ) × ((f : ℕ) → b ≤ f → p f l i ≡ a)

pub record Fine {A X : Type 0} (R : Held → A → X → Type 0) (a : A) (p : ℕ → P X) (s s' : Held) : Type 0 where
  pub val : X
  pub rel : R s' a val
  pub came : Comes p (look s) s.at (done val s'.at)
  pub lasts : Lasts s s'

-- the fault is at a token with this place
pub record Failed {X : Type 0} (w : ℕ) (p : ℕ → P X) (s : Held) : Type 0 where
  pub faulty : ℕ
  pub came : Comes p (look s) s.at (fault faulty)
  pub place : w ≡ (look s faulty).place

abbrev pub Told : {A X : Type 0} → (Held → A → X → Type 0) → Result A Misplaced → (ℕ → P X) → Held → Held → Type 0
Told R (Ok a) p s s' = Fine R a p s s'
Told R (Err e) p s s' = Failed e.place p s

-- a step of the code does what the parser p says
pub record Went {A X : Type 0} (R : Held → A → X → Type 0) (r : Result A Misplaced) (p : ℕ → P X) (s s' : Held) : Type 0 where
  pub lender : s'.lender ≡ s.lender
  pub size : token_count s' ≡ token_count s
  pub ahead : s.at ≤ s'.at
  pub told : Told R r p s s'

-- no more nodes were made than tokens passed
abbrev pub Paid : Held → Held → Type 0
Paid s s' = length s'.nodes + s.at ≤ length s.nodes + s'.at

-- one more, for a token that was passed before
abbrev pub Owed : Held → Held → Type 0
Owed s s' = length s'.nodes + s.at ≤ suc (length s.nodes + s'.at)

abbrev pub OwedTwo : Held → Held → Type 0
OwedTwo s s' = length s'.nodes + s.at ≤ suc (suc (length s.nodes + s'.at))

-- past one token
pub record Bumped (s s' : Held) : Type 0 where
  pub lender : s'.lender ≡ s.lender
  pub same : s'.source ≡ s.source
  pub size : token_count s' ≡ token_count s
  pub nodes : s'.nodes ≡ s.nodes
  pub count : length s'.nodes ≡ length s.nodes
  pub at : s'.at ≡ suc s.at
  pub inside : s.at < token_count s

-- one more node
pub record Pushed (p : ℕ) (n : Node) (s s' : Held) : Type 0 where
  pub lender : s'.lender ≡ s.lender
  pub same : s'.source ≡ s.source
  pub size : token_count s' ≡ token_count s
  pub at : s'.at ≡ s.at
  pub nodes : s'.nodes ≡ s.nodes ++ n ∷ []
  pub count : length s'.nodes ≡ suc (length s.nodes)
  pub here : p ≡ length s.nodes

-- no node was made
abbrev pub SameCount : Held → Held → Type 0
SameCount s s' = length s'.nodes ≡ length s.nodes
