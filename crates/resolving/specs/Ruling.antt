-- Written rules, resolved into the tables.
use Rattle.std.specs.Prelude.{◌≡◌, ℕ, ◌+◌, ◌≤◌, List, [], ◌++◌, map, length}
use Rattle.letters.specs.declared.kind.Kind.TheVariants.{Needs, Gives}
use Rattle.grammar.specs.Raw as Raw
use Rattle.grammar.specs.Sheets as Sheets
use Rattle.grammar.specs.Stretches.{params_at, optional_at}
use Rattle.grammar.specs.Trees.{look_of, raw_at}
use Rattle.grammar.specs.Weights.{rule_weight, weight_of}
use Rattle.naming.specs.declared.written.Written.{Written}
use Rattle.naming.specs.declared.taken.Ruled.{Ruled}
use Rattle.naming.specs.Scopes.{Sheet}
use Rattle.naming.specs.Sources.{source_of}
use Rattle.records.specs.declared.entry.Param.{Param}
use Rattle.records.specs.declared.entry.Entry.{Entry}
use Rattle.records.specs.Columns.{Columns, tables_by}
use Rattle.records.specs.Rules.{RuleStands, RulesStand}
use Rattle.records.specs.Counting.{exprs_up_to, conditions_up_to, claims_up_to, nodes_up_to, listed_up_to}
use Rattle.counting.specs.Counts.{sheet_exprs, sheet_conditions}
use Rattle.resolving.specs.Resolving.{rule_of}
use Rattle.resolving.specs.Growing.{Made, Fair}

-- the rule whose parts are these, its body at a position below top
abbrev pub rule_by : Written → ℕ → Ruled → Raw.Rule
rule_by w top k =
    let s = source_of w in
    let n = length w.tokens.now in
    Sheets.rule_of (look_of s k.keyword) (look_of s k.name) (params_at n (look_of s) k.params) (optional_at n (look_of s) Needs k.needs) (optional_at n (look_of s) Gives k.gives) (raw_at s top w.nodes.now k.body)

-- the same with other parameters
abbrev pub tree_params : Columns → Columns → Columns
tree_params q p = record p { params = q.params }

-- a written rule is resolved into the tables, as an entry that is not yet among them; the nodes of its body are new
pub record RuleMade (S : Sheet) (r : Raw.Rule) (e : Entry) (p q : Columns) : Type 0 where
  pub made : Made (rule_weight r) (λ byte. exprs_up_to byte (rule_of S r).body) (λ byte. (conditions_up_to byte (rule_of S r).needs + conditions_up_to byte (rule_of S r).gives) + claims_up_to byte (rule_of S r).body) (λ t. Unit {0}) (tree_params q p) q
  pub params : (more : List Param) × (q.params.entries ≡ p.params.entries ++ more)
  pub few : length q.params.entries ≤ length p.params.entries + rule_weight r
  pub roomy : q.params.room ≡ p.params.room
  pub stands : RuleStands (tables_by q) q.params.entries (length p.nodes.entries) e (rule_of S r)

-- written rules are, as entries
pub record RulesMade (S : Sheet) (rs : List Raw.Rule) (p : Columns) : Type 0 where
  pub stand : RulesStand (tables_by p) p.params.entries 0 p.entries.entries (map (rule_of S) rs)
  pub nodes : length p.nodes.entries ≤ weight_of rs
  pub conditions : length p.conditions.entries ≤ weight_of rs
  pub items : length p.items.entries ≤ weight_of rs
  pub params : length p.params.entries ≤ weight_of rs
  pub rules : length p.entries.entries ≤ weight_of rs
  pub exprs : (byte : ℕ) → nodes_up_to byte p.nodes.entries ≡ sheet_exprs byte (map (rule_of S) rs)
  pub claims : (byte : ℕ) → listed_up_to byte p.conditions.entries ≡ sheet_conditions byte (map (rule_of S) rs)
  pub fair : Fair p

-- nothing lies in the tables yet
pub record Empty (p : Columns) : Type 0 where
  pub nodes : p.nodes.entries ≡ []
  pub conditions : p.conditions.entries ≡ []
  pub items : p.items.entries ≡ []
  pub params : p.params.entries ≡ []
  pub rules : p.entries.entries ≡ []

-- each table has room for so many
pub record Ample (w : ℕ) (p : Columns) : Type 0 where
  pub nodes : w ≤ p.nodes.room
  pub conditions : w ≤ p.conditions.room
  pub items : w ≤ p.items.room
  pub params : w ≤ p.params.room
  pub rules : w ≤ p.entries.room

-- each table has the room that it had, in the same records
pub record SameRooms (p q : Columns) : Type 0 where
  pub nodes : q.nodes.room ≡ p.nodes.room
  pub conditions : q.conditions.room ≡ p.conditions.room
  pub items : q.items.room ≡ p.items.room
  pub params : q.params.room ≡ p.params.room
  pub entries : q.entries.room ≡ p.entries.room
  pub lender : q.lender ≡ p.lender
