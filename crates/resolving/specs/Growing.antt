-- How the tables grow while a tree is put into them.
use Rattle.std.specs.Prelude.{◌≡◌, ℕ, ◌+◌, ◌<◌, ◌≤◌, length}
use Rattle.std.specs.List.{AllByRecursion}
use Rattle.grammar.specs.Raw as Raw
use Rattle.grammar.specs.Weights.{expr_weight, args_weight}
use Rattle.naming.specs.Scopes.{Scope, Sheet}
use Rattle.language.specs.Tree as Tree
use Rattle.records.specs.declared.node.Node.{Node}
use Rattle.records.specs.Tables.{Tables}
use Rattle.records.specs.Columns.{Columns, pushed, tables_by}
use Rattle.records.specs.Standing.{SidesIn, Stands, ArgsStand, Grows}
use Rattle.records.specs.Sound.{Near}
use Rattle.records.specs.Counting.{exprs_up_to, args_up_to, claims_up_to, claims_in, nodes_up_to, listed_up_to}
use Rattle.resolving.specs.Resolving.{expr_of, args_of}

-- a node is put after the others
abbrev pub added : Columns → Node → Columns
added p node = record p { nodes = pushed p.nodes node }

-- each has room for so many more
pub record Roomy (w : ℕ) (p : Columns) : Type 0 where
  pub nodes : length p.nodes.entries + w ≤ p.nodes.room
  pub conditions : length p.conditions.entries + w ≤ p.conditions.room
  pub items : length p.items.entries + w ≤ p.items.room

-- factors lie within the limit of terms, and the sides of each condition among the items
pub record Fair (c : Columns) : Type 0 where
  pub factors : Near c.items.entries
  pub sides : AllByRecursion (SidesIn (length c.items.entries)) c.conditions.entries

-- each grew by at most so many; how many expressions and conditions up to a byte are new
pub record Made (w : ℕ) (c k : ℕ → ℕ) (R : Tables → Type 0) (p q : Columns) : Type 0 where
  pub grows : Grows (tables_by p) (tables_by q)
  pub holds : R (tables_by q)
  pub fair : Fair p → Fair q
  pub nodes : length q.nodes.entries ≤ length p.nodes.entries + w
  pub listed : length q.conditions.entries ≤ length p.conditions.entries + w
  pub items : length q.items.entries ≤ length p.items.entries + w
  pub rooms : (q.nodes.room ≡ p.nodes.room) × (q.conditions.room ≡ p.conditions.room) × (q.items.room ≡ p.items.room)
  pub others : (q.params ≡ p.params) × (q.entries ≡ p.entries) × (q.lender ≡ p.lender)
  pub exprs : (byte : ℕ) → nodes_up_to byte q.nodes.entries ≡ nodes_up_to byte p.nodes.entries + c byte
  pub conditions : (byte : ℕ) → listed_up_to byte q.conditions.entries ≡ listed_up_to byte p.conditions.entries + k byte

-- an expression, or arguments, at a position of the table of nodes, the nodes lying from another position on
pub record ExprAt (t : Tables) (lo at : ℕ) (e : Tree.Expr) : Type 0 where
  pub below : at < length t.nodes
  pub stands : Stands t lo at e

pub record ArgsAt (t : Tables) (lo at : ℕ) (es : Tree.Args) : Type 0 where
  pub below : at < length t.nodes
  pub stands : ArgsStand t lo at es

-- a written expression is resolved into the tables, all its nodes new
abbrev pub ExprMade : Sheet → Scope → Raw.Expr → ℕ → Columns → Columns → Type 0
ExprMade S Γ e at p q = Made (expr_weight e) (λ byte. exprs_up_to byte (expr_of S Γ e)) (λ byte. claims_up_to byte (expr_of S Γ e)) (λ t. ExprAt t (length p.nodes.entries) at (expr_of S Γ e)) p q

-- written arguments are, before those that stand at a position; the new nodes lie after those
pub record ArgsMade (S : Sheet) (Γ : Scope) (es : Raw.Args) (after at : ℕ) (p q : Columns) : Type 0 where
  pub made : Made (args_weight es) (λ byte. args_up_to byte (args_of S Γ es Tree.end)) (λ byte. claims_in byte (args_of S Γ es Tree.end)) (λ t. Unit {0}) p q
  pub stands : (lo : ℕ) (xs : Tree.Args) → ArgsAt (tables_by p) lo after xs → ArgsAt (tables_by q) lo at (args_of S Γ es xs)
