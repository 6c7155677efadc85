-- The items of a side and the conditions that are still to come, as they are written.
use Rattle.std.specs.Prelude.{◌≡◌, ◌≤◌, ℕ, ◌+◌, ◌∷◌, List, [], length, max, is_some, unwrap_or, MatchOption, Option}
use Rattle.letters.specs.declared.kind.Kind.TheVariants.{Comma, Minus}
use Rattle.grammar.specs.Parsers.{Look, is_a}
use Rattle.grammar.specs.Pieces.{item_of}
use Rattle.grammar.specs.Raw as Raw
use Rattle.grammar.specs.Sheets.{sum_sign, condition_of}
use Rattle.grammar.specs.Stretches.{Past, item_at, condition_at}
use Rattle.grammar.specs.Trees.{look_of}
use Rattle.naming.specs.declared.side.Signed.{Signed}
use Rattle.naming.specs.declared.side.Items.{Items}
use Rattle.naming.specs.declared.condition.Condition.{Condition}
use Rattle.naming.specs.declared.condition.Conditions.{Conditions}
use Rattle.naming.specs.Sources.{source_of}
use Rattle.naming.specs.Stretching.{Reader, begun, ended}

abbrev pub raw_item : Signed → Raw.Item
raw_item s = item_of s.minus s.item

-- the next item, if one is to come
abbrev pub next_item : Items → Past Raw.Item
next_item s = item_at (look_of (source_of s.sheet)) s.minus (unwrap_or s.next 0)

-- how items are read past their signs
abbrev pub Reads : Look → Reader Raw.Item
Reads l t i = item_at l (is_a Minus t) i

abbrev pub side_left : Items → Raw.Side
side_left s = begun (look_of (source_of s.sheet)) sum_sign (Reads (look_of (source_of s.sheet))) (next_item s) s.rest (is_some s.next)

abbrev pub side_end : Items → ℕ
side_end s = ended (look_of (source_of s.sheet)) sum_sign (Reads (look_of (source_of s.sheet))) (next_item s) s.rest s.end (is_some s.next)

-- the first of them is given, as it stands in the sheet, and the others are left
pub record GivesItem (s : Items) (r : Option Signed) (t : Items) : Type 0 where
  pub items : MatchOption r ((side_left s ≡ []) × (side_left t ≡ [])) (λ i. side_left s ≡ raw_item i ∷ side_left t)
  pub read : MatchOption r (Unit {0}) (λ i. raw_item i ≡ (next_item s).value)
  pub end : side_end t ≡ side_end s
  pub near : (unwrap_or t.next 0 ≤ max (unwrap_or s.next 0) 16384) × (t.end ≤ max s.end (unwrap_or s.next 0 + 3))
  pub sheet : t.sheet ≡ s.sheet

abbrev pub raw_condition : Condition → Raw.Condition
raw_condition c = condition_of (side_left c.left) c.comparison (side_left c.right)

abbrev pub conditions_left : Conditions → List Raw.Condition
conditions_left s = begun (look_of (source_of s.sheet)) (is_a Comma) (λ t i. condition_at (length s.sheet.tokens.now) (look_of (source_of s.sheet)) i) (condition_at (length s.sheet.tokens.now) (look_of (source_of s.sheet)) (unwrap_or s.next 0)) s.rest (is_some s.next)

-- the first of them is given, of the same sheet, and the others are left
pub record GivesCondition (s : Conditions) (r : Option Condition) (t : Conditions) : Type 0 where
  pub conditions : MatchOption r ((conditions_left s ≡ []) × (conditions_left t ≡ [])) (λ c. conditions_left s ≡ raw_condition c ∷ conditions_left t)
  pub sheets : MatchOption r (Unit {0}) (λ c. (c.left.sheet ≡ s.sheet) × (c.right.sheet ≡ s.sheet))
  pub sheet : t.sheet ≡ s.sheet
