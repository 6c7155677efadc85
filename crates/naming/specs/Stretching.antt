-- Stretches of tokens as lists: what is joined, one after another.
use Rattle.std.specs.Prelude.{◌≡◌, ℕ, zero, suc, ◌+◌, Bool, cond, List, [], ◌∷◌, is_some, unwrap_or, MatchOption, Some, None, Option, nat_lt}
use Rattle.letters.specs.declared.kind.Kind.TheVariants.{Comma, Minus}
use Rattle.letters.specs.declared.token.Token.{Token}
use Rattle.grammar.specs.Raw as Raw
use Rattle.grammar.specs.Parsers.{Look, is_a}
use Rattle.grammar.specs.Sheets.{sum_sign}
use Rattle.grammar.specs.Stretches.{Past, item_at, condition_at, param_at}
use Rattle.grammar.specs.Trees.{look_of}
use Rattle.naming.specs.declared.head.Params.{Params}
use Rattle.naming.specs.declared.head.Param.{Param}
use Rattle.naming.specs.Sources.{source_of}

-- how one is read past the token that joins it
abbrev pub Reader : Type 0 → Type 0
Reader X = Token → ℕ → Past X

-- at most n more of them from a position on, and the position after those
unfoldable pub rest : {X : Type 0} → Look → (Token → Bool) → Reader X → ℕ → ℕ → List X
rest l b one zero i = []
rest l b one (suc n) i = cond (b (l i)) ((one (l i) (suc i)).value ∷ rest l b one n (one (l i) (suc i)).next) []

unfoldable pub end : {X : Type 0} → Look → (Token → Bool) → Reader X → ℕ → ℕ → ℕ
end l b one zero i = i
end l b one (suc n) i = cond (b (l i)) (end l b one n (one (l i) (suc i)).next) i

abbrev pub items : Look → ℕ → ℕ → List Raw.Item
items l = rest l sum_sign (λ t i. item_at l (is_a Minus t) i)

abbrev pub items_end : Look → ℕ → ℕ → ℕ
items_end l = end l sum_sign (λ t i. item_at l (is_a Minus t) i)

abbrev pub conditions : ℕ → Look → ℕ → ℕ → List Raw.Condition
conditions n l = rest l (is_a Comma) (λ t i. condition_at n l i)

abbrev pub params : Look → ℕ → ℕ → List Raw.Param
params l = rest l (is_a Comma) (λ t i. param_at l i)

abbrev pub looked : Look → Option ℕ → Option Token
looked l None = None
looked l (Some n) = Some (l n)

abbrev pub written : Look → Param → Raw.Param
written l p = record { name = l p.name; length = looked l p.length }

-- what was read and what is joined to it, if it is to come; and where the last of it ends
unfoldable pub begun : {X : Type 0} → Look → (Token → Bool) → Reader X → Past X → ℕ → Bool → List X
begun l b one p n here = cond here (p.value ∷ rest l b one n p.next) []

unfoldable pub ended : {X : Type 0} → Look → (Token → Bool) → Reader X → Past X → ℕ → ℕ → Bool → ℕ
ended l b one p n last here = cond here (end l b one n p.next) last

-- the parameters that are still to come
abbrev pub left : Params → List Raw.Param
left s = begun (look_of (source_of s.sheet)) (is_a Comma) (λ t i. param_at (look_of (source_of s.sheet)) i) (param_at (look_of (source_of s.sheet)) (unwrap_or s.next 0)) s.rest (is_some s.next)

-- where the next begins, after one that ends at a position, if the token there joins the two
abbrev pub next_after : Bool → ℕ → ℕ → Option ℕ
next_after joins n j = cond (nat_lt 0 n) (cond joins (Some (j + 1)) None) None

-- the first of them is given, and the others are left
abbrev pub Gives : Params → Option Param → Params → Type 0
Gives s r t = MatchOption r ((left s ≡ []) × (left t ≡ [])) (λ p. left s ≡ written (look_of (source_of s.sheet)) p ∷ left t) × (t.sheet ≡ s.sheet)
