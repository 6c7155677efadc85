-- Parsers: what they answer at a position of the tokens, and how one is made of others.
use Rattle.std.specs.Prelude.{ℕ, zero, suc, Bool, cond, List, slice_index_or}
use Rattle.letters.specs.declared.kind.Kind.{Kind}
use Rattle.letters.specs.declared.kind.Kind.TheVariants.{End}
use Rattle.letters.specs.declared.token.Token.{Token}
use Rattle.letters.specs.Kinds.{same_kind}
use Rattle.letters.specs.Tokens.{token_of}

-- the tokens by position
abbrev pub Look : Type 0
Look = ℕ → Token

-- past the last token stands one at the text's end
abbrev pub look_in : List Token → ℕ → Look
look_in ts e i = slice_index_or ts i (token_of End e 0 0)

abbrev pub is_a : Kind → Token → Bool
is_a k t = same_kind t.kind k

-- a value and the position after it, or the position of the first token that does not fit; spent, where the fuel was not enough
pub data Ans (X : Type 0) : Type 0 where
  done : X → ℕ → Ans X
  fault : ℕ → Ans X
  spent : Ans X

abbrev pub P : Type 0 → Type 0
P X = Look → ℕ → Ans X

abbrev pub then : {X Y : Type 0} → Ans X → (X → ℕ → Ans Y) → Ans Y
then (done x j) k = k x j
then (fault j) k = fault j
then spent k = spent

abbrev pub give : {X : Type 0} → X → P X
give x l i = done x i

abbrev pub stop : {X : Type 0} → P X
stop l i = fault i

abbrev pub out : {X : Type 0} → P X
out l i = spent

abbrev pub next : P Token
next l i = done (l i) (suc i)

unfoldable pub seq : {X Y : Type 0} → P X → (X → P Y) → P Y
seq p k l i = then (p l i) (λ x j. k x l j)

-- one or the other, by the token at hand
unfoldable pub when : {X : Type 0} → (Token → Bool) → P X → P X → P X
when b p q l i = cond (b (l i)) (p l i) (q l i)

abbrev pub on : {X : Type 0} → Kind → P X → P X → P X
on k = when (is_a k)

abbrev pub wanted : (Token → Bool) → P Token
wanted b = when b next stop

abbrev pub want : Kind → P Token
want k = wanted (is_a k)

-- while the token at hand is such a one: past it, a step, and on from what that gives
abbrev pub turn : {A : Type 0} → (Token → Bool) → (A → Token → P A) → (A → P A) → A → P A
turn b step rest a = when b (seq next (λ t. seq (step a t) rest)) (give a)

unfoldable pub chain : {A : Type 0} → (Token → Bool) → (ℕ → A → Token → P A) → ℕ → A → P A
chain b step zero a = out
chain b step (suc f) a = turn b (step f) (chain b step f) a
