-- Conditions and params are flat stretches of tokens. They are read from a position on, whatever stands there; n bounds how many are joined.
use Rattle.std.specs.Prelude.{ℕ, zero, suc, Bool, false, cond, List, [], ◌∷◌, ◌++◌}
use Rattle.letters.specs.declared.kind.Kind.{Kind}
use Rattle.letters.specs.declared.kind.Kind.TheVariants.{Numeral, Close, OpenSquare, Comma, Minus, Times}
use Rattle.letters.specs.declared.token.Token.{Token}
use Rattle.grammar.specs.Raw.{Item, Side, Condition, Param}
use Rattle.grammar.specs.Parsers.{Look, is_a}
use Rattle.grammar.specs.Sheets.{sum_sign, plain_item, times_item, condition_of, number_param, list_param}

-- what was read, and the position after it
pub record Past (X : Type 0) : Type 0 where
  pub value : X
  pub next : ℕ

abbrev pub past : {X : Type 0} → X → ℕ → Past X
past x j = record { value = x; next = j }

-- one more is read past each such token
unfoldable pub joined : {A : Type 0} → Look → (Token → Bool) → (A → Token → ℕ → Past A) → ℕ → A → ℕ → Past A
joined l b step zero a i = past a i
joined l b step (suc n) a i = cond (b (l i)) (joined l b step n (step a (l i) (suc i)).value (step a (l i) (suc i)).next) (past a i)

-- a numeral with `*` after it is a factor
abbrev pub item_at : Look → Bool → ℕ → Past Item
item_at l m i = cond (is_a Numeral (l i))
    (cond (is_a Times (l (suc i))) (past (times_item m (l i) (l (suc (suc i)))) (suc (suc (suc i)))) (past (plain_item m (l i)) (suc i)))
    (past (plain_item m (l i)) (suc i))

abbrev pub item_after : Look → Side → Token → ℕ → Past Side
item_after l its t i = past (its ++ (item_at l (is_a Minus t) i).value ∷ []) (item_at l (is_a Minus t) i).next

abbrev pub side_at : ℕ → Look → ℕ → Past Side
side_at n l i = joined l sum_sign (item_after l) n ((item_at l false i).value ∷ []) (item_at l false i).next

-- a side, a comparison, a side
abbrev pub right_at : ℕ → Look → ℕ → Past Side
right_at n l i = side_at n l (suc (side_at n l i).next)

abbrev pub condition_at : ℕ → Look → ℕ → Past Condition
condition_at n l i = past (condition_of (side_at n l i).value (l (side_at n l i).next) (right_at n l i).value) (right_at n l i).next

abbrev pub condition_after : ℕ → Look → List Condition → Token → ℕ → Past (List Condition)
condition_after n l cs t i = past (cs ++ (condition_at n l i).value ∷ []) (condition_at n l i).next

abbrev pub conditions_at : ℕ → Look → ℕ → Past (List Condition)
conditions_at n l i = joined l (is_a Comma) (condition_after n l) n ((condition_at n l i).value ∷ []) (condition_at n l i).next

-- conditions after a keyword, if that stands there
abbrev pub optional_at : ℕ → Look → Kind → ℕ → List Condition
optional_at n l k i = cond (is_a k (l i)) (conditions_at n l (suc i)).value []

abbrev pub param_at : Look → ℕ → Past Param
param_at l i = cond (is_a OpenSquare (l (suc i))) (past (list_param (l i) (l (suc (suc i)))) (suc (suc (suc (suc i))))) (past (number_param (l i)) (suc i))

abbrev pub param_after : Look → List Param → Token → ℕ → Past (List Param)
param_after l ps t i = past (ps ++ (param_at l i).value ∷ []) (param_at l i).next

abbrev pub params_at : ℕ → Look → ℕ → List Param
params_at n l i = cond (is_a Close (l i)) [] (joined l (is_a Comma) (param_after l) n ((param_at l i).value ∷ []) (param_at l i).next).value
