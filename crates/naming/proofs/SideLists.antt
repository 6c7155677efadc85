-- Sides and conditions as lists, and what they are past the last token.
use Rattle.std.proofs.Common.{◌≡◌, ℕ, suc, ◌+◌, ◌<◌, ◌≤◌, min, Bool, true, false, cond, [], ◌∷◌, List, length, sym, refl, ap, ◌∙◌, ap₂, inl, inr, arith}
use Rattle.std.proofs.lemmas.List.{get_or_past}
use Rattle.std.proofs.lemmas.Bool.{cases_lt}
use Rattle.letters.specs.declared.kind.Kind.TheVariants.{Numeral, Comma, Minus, Times, End}
use Rattle.letters.specs.declared.token.Token.{Token}
use Rattle.letters.specs.Kinds.{same_kind}
use Rattle.letters.specs.Tokens.{token_of}
use Rattle.grammar.specs.Raw as Raw
use Rattle.grammar.specs.Parsers.{Look, is_a, look_in}
use Rattle.grammar.specs.Sheets.{sum_sign, plain_item, times_item, condition_of}
use Rattle.grammar.specs.Stretches.{Past, past, item_at, side_at, condition_at, conditions_at}
use Rattle.naming.specs.Resolving.{item_place}
use Rattle.naming.specs.Stretching.{items, items_end, conditions}
use Rattle.naming.proofs.Joins.{joined-value, joined-next, rest-none, end_none}

pub side-list : (l : Look) (n i : ℕ) → (side_at n l i).value ≡ (item_at l false i).value ∷ items l n (item_at l false i).next
side-list l n i = joined-value l sum_sign (λ t j. item_at l (is_a Minus t) j) n ((item_at l false i).value ∷ []) (item_at l false i).next

pub side-end : (l : Look) (n i : ℕ) → (side_at n l i).next ≡ items_end l n (item_at l false i).next
side-end l n i = joined-next l sum_sign (λ t j. item_at l (is_a Minus t) j) n ((item_at l false i).value ∷ []) (item_at l false i).next

pub conditions-list : (l : Look) (n i : ℕ) → (conditions_at n l i).value ≡ (condition_at n l i).value ∷ conditions n l n (condition_at n l i).next
conditions-list l n i = joined-value l (is_a Comma) (λ t j. condition_at n l j) n ((condition_at n l i).value ∷ []) (condition_at n l i).next

-- past the last token there is no name
past-item : (ts : List Token) (e i : ℕ) → length ts ≤ i → item_at (look_in ts e) false i ≡ past (plain_item false (token_of End e 0 0)) (i + 1)
unfolding same_kind
past-item ts e i h =
    let l : Look = look_in ts e in
    let a : l i ≡ token_of End e 0 0 = get_or_past ts i (token_of End e 0 0) h in
    let s : suc i ≡ i + 1 = omega arith in
    rw a (ap (past (plain_item false (token_of End e 0 0))) s)

pub past-side : (ts : List Token) (e n i : ℕ) → length ts ≤ i → ((side_at n (look_in ts e) i).value ≡ plain_item false (token_of End e 0 0) ∷ []) × ((side_at n (look_in ts e) i).next ≡ i + 1)
unfolding same_kind
past-side ts e n i h =
    let l : Look = look_in ts e in
    let p = past-item ts e i h in
    let a : sum_sign (l (i + 1)) ≡ false = ap sum_sign (get_or_past ts (i + 1) (token_of End e 0 0) (omega arith)) in (
      side-list l n i ∙ ap (λ (q : Past Raw.Item). q.value ∷ items l n q.next) p ∙ ap (λ xs. plain_item false (token_of End e 0 0) ∷ xs) (rest-none l sum_sign (λ t j. item_at l (is_a Minus t) j) n (i + 1) a),
      side-end l n i ∙ ap (λ (q : Past Raw.Item). items_end l n q.next) p ∙ end_none l sum_sign (λ t j. item_at l (is_a Minus t) j) n (i + 1) a,
    )

past-conditions : (ts : List Token) (e n i : ℕ) → length ts ≤ i → (conditions_at n (look_in ts e) i).value ≡ condition_of (plain_item false (token_of End e 0 0) ∷ []) (token_of End e 0 0) (plain_item false (token_of End e 0 0) ∷ []) ∷ []
unfolding same_kind
past-conditions ts e n i h =
    let E : Token = token_of End e 0 0 in
    let l : Look = look_in ts e in
    let j : ℕ = (side_at n l i).next in
    let k : ℕ = (side_at n l (suc j)).next in
    let a : j ≡ i + 1 = (past-side ts e n i h).1 in
    let b : k ≡ suc j + 1 = (past-side ts e n (suc j) (omega arith)).1 in
    let d : is_a Comma (l k) ≡ false = ap (is_a Comma) (get_or_past ts k E (omega arith)) in
    conditions-list l n i ∙ ap (λ cs. (condition_at n l i).value ∷ cs) (rest-none l (is_a Comma) (λ t m. condition_at n l m) n k d)
    ∙ ap₂ (λ x y. condition_of x (l j) y ∷ []) (past-side ts e n i h).0 (past-side ts e n (suc j) (omega arith)).0
    ∙ ap (λ t. condition_of (plain_item false E ∷ []) t (plain_item false E ∷ []) ∷ []) (get_or_past ts j E (omega arith))

-- past the last token conditions read the same anywhere
pub clamped : (ts : List Token) (e n i : ℕ) → (conditions_at n (look_in ts e) (min i (length ts))).value ≡ (conditions_at n (look_in ts e) i).value
unfolding same_kind
clamped ts e n i = elim (cases_lt i (length ts)) [
  | inl h ↦ ap (λ j. (conditions_at n (look_in ts e) j).value) (let m : min i (length ts) ≡ i = omega arith in m)
  | inr h ↦ ap (λ j. (conditions_at n (look_in ts e) j).value) (let m : min i (length ts) ≡ length ts = omega arith in m) ∙ past-conditions ts e n (length ts) (omega arith) ∙ sym (past-conditions ts e n i h)
]

pub sign-stands : (ts : List Token) (e i : ℕ) → sum_sign (look_in ts e i) ≡ true → i < length ts
unfolding same_kind
sign-stands ts e i t = elim (cases_lt i (length ts)) [
  | inl h ↦ h
  | inr h ↦ let z : true ≡ false = sym t ∙ ap sum_sign (get_or_past ts i (token_of End e 0 0) h) in let o : ◌≡◌ {A = ℕ} 0 1 = cc in absurd (omega arith)
]

-- a condition's place is that of its first token
pub item-place : (l : Look) (m : Bool) (i : ℕ) → item_place (item_at l m i).value ≡ (l i).place
item-place l m i = go (is_a Numeral (l i)) (is_a Times (l (suc i)))
  where
    go : (b t : Bool) → item_place (cond b (cond t (past (times_item m (l i) (l (suc (suc i)))) (suc (suc (suc i)))) (past (plain_item m (l i)) (suc i))) (past (plain_item m (l i)) (suc i))).value ≡ (l i).place
    go true true = refl
    go true false = refl
    go false t = refl
