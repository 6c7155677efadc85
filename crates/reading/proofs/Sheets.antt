-- A written sheet by its text, tokens and nodes, and what was made of it.
use Rattle.std.proofs.Common.{◌≡◌, ℕ, ◌≤◌, List, length, take, Err, Result, sym, ap, ◌∙◌, subst, ap₂, arith}
use Rattle.std.proofs.lemmas.List.{take_all}
use Rattle.letters.specs.declared.token.Token.{Token}
use Rattle.grammar.specs.declared.node.Node.{Node}
use Rattle.grammar.specs.Raw as Raw
use Rattle.grammar.specs.Parsers.{Look, look_in}
use Rattle.grammar.specs.Trees.{look_of}
use Rattle.grammar.specs.Derives.{DSheet}
use Rattle.grammar.specs.Weights.{weight_of}
use Rattle.grammar.proofs.Weighing.{weighs}
use Rattle.naming.specs.declared.written.Written.{Written}
use Rattle.naming.specs.Sources.{source_of, sheet_in, rules_of}
use Rattle.resolving.specs.Making.{Small, Fit}
use Rattle.language.specs.declared.refusal.Refusal.{Refusal}
use Rattle.records.specs.declared.record.Record.{Record}
use Rattle.records.specs.Columns.{Columns, fresh}
use Rattle.reading.specs.declared.sizes.Sizes.{Sizes}
use Rattle.reading.specs.Answers.{Refused, Checked}
use Rattle.resolving.specs.Ruling.{Ample}

-- the sheet is made of these
pub record Same (w : Written) (text : List ℕ) (tokens : List Token) (nodes : List Node) : Type 0 where
  pub of-text : w.text.now ≡ text
  pub of-tokens : w.tokens.now ≡ take 16384 tokens
  pub of-nodes : w.nodes.now ≡ take 16384 nodes

module _ (w : Written) (text : List ℕ) (tokens : List Token) (nodes : List Node) (same : Same w text tokens nodes) where
  pub same-rules : rules_of w ≡ sheet_in text tokens nodes
  same-rules = rw (same.of-text, same.of-tokens, same.of-nodes)

  pub same-look : length tokens ≤ 16384 → look_in tokens (length text) ≡ look_of (source_of w)
  same-look h = sym (ap₂ look_in (same.of-tokens ∙ take_all 16384 tokens h) (ap length same.of-text))

  pub same-fit : length tokens ≤ 16384 → ((q : ℕ) → Small (look_in tokens (length text) q)) → Fit w
  same-fit h f q = subst (λ (l : Look). Small (l q)) (same-look h) (f q)

  pub same-derived : length tokens ≤ 16384 → DSheet (look_in tokens (length text)) (sheet_in text tokens nodes) → DSheet (look_of (source_of w)) (rules_of w)
  same-derived h d = subst (λ rs. DSheet (look_of (source_of w)) rs) (sym same-rules) (subst (λ (l : Look). DSheet l (sheet_in text tokens nodes)) (same-look h) d)

  pub same-checked : (r : Result Sizes Refusal) (records : List Record) → Checked r w.text.now (rules_of w) records → Checked r text (sheet_in text tokens nodes) records
  same-checked r records k = subst (λ rs. Checked r text rs records) same-rules (subst (λ t. Checked r t (rules_of w) records) same.of-text k)

-- what refuses is the answer
pub refusal-checked : (r : Result Sizes Refusal) (d : Refusal) (text : List ℕ) (sheet : Raw.Sheet) (records : List Record) → r ≡ Err d → Refused text sheet d → Checked r text sheet records
refusal-checked r d text sheet records e k = subst (λ r. Checked r text sheet records) (sym e) k

-- a sheet that the grammar has is no heavier than its tokens are many
pub light : (w : Written) → DSheet (look_of (source_of w)) (rules_of w) → weight_of (rules_of w) ≤ 16384
light w d = let k = weighs w.tokens.now (length w.text.now) (rules_of w) d in omega (arith, w.few)

-- fresh tables have room for all that 16,384 tokens can stand for
pub ample : (w records lender : ℕ) (p : Columns) → p ≡ fresh records lender → w ≤ 16384 → 4096 ≤ records → Ample w p
ample w records lender p e h k = subst (Ample w) (sym e) (record { nodes = omega arith; conditions = omega arith; items = omega arith; params = omega arith; rules = omega arith })
