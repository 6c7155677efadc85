-- What the grammar does with a token of a kind in place of one of the tokens.
use Rattle.std.specs.Prelude.{◌≡◌, ℕ, ◌+◌, ◌^◌, ◌<◌, Bool, true, false, not, List, [], ◌∷◌, ◌++◌, take, Some, None, Ok, Err, Option, Result, ◌==◌, ◌≢◌}
use Rattle.std.specs.List.{prefix_len, AllByRecursion}
use Rattle.letters.specs.declared.kind.Kind.{Kind}
use Rattle.letters.specs.declared.token.Token.{Token}
use Rattle.letters.specs.Tokens.{token_of}
use Rattle.grammar.specs.declared.unread.Unread.{Unread}
use Rattle.grammar.specs.declared.unread.Unread.TheVariants.{Full, Fault}
use Rattle.grammar.specs.Raw.{Sheet}
use Rattle.grammar.specs.Parsers.{Look, look_in, done, fault}
use Rattle.grammar.specs.Sheets.{sheet_s}
use Rattle.grammar.specs.Held.{Comes}
use Rattle.grammar.specs.Derives.{DSheet, Upto}
use Rattle.showing.specs.declared.kinds.Kinds.{Kinds}
use Rattle.showing.specs.Kinds.{among}

-- a token begins elsewhere
abbrev pub elsewhere : ℕ → Token → Bool
elsewhere w t = not (t.place == w)

-- the number of the first token that begins at a place, or of the end
abbrev pub number_at : List Token → ℕ → ℕ
number_at ts w = prefix_len (elsewhere w) ts

-- none of these tokens is at this place
abbrev pub Apart : List Token → ℕ → Type 0
Apart ts w = AllByRecursion (λ t. elsewhere w t ≡ true) ts

-- the tokens, and one of this kind at a place
abbrev pub probed : List Token → ℕ → Kind → List Token
probed ts w k = ts ++ token_of k w 0 0 ∷ []

-- the tokens before a place, and one of this kind there
abbrev pub spliced : List Token → ℕ → Kind → List Token
spliced ts w k = probed (take (number_at ts w) ts) w k

-- the grammar stops at the token of this number, and no tokens that begin so, up to and with it, derive a sheet
pub record Stops (l : Look) (i : ℕ) : Type 0 where
  pub came : Comes sheet_s l 0 (fault i)
  pub dead : (m : Look) → Upto i l m → (rs : Sheet) → DSheet m rs → ⊥

-- the grammar reads the tokens, or stops at another than this
pub data Passes (l : Look) (i : ℕ) : Type 0 where
  reads : (rs : Sheet) (j : ℕ) → Comes sheet_s l 0 (done rs j) → Passes l i
  stops : (j : ℕ) → (j ≢ i) → Comes sheet_s l 0 (fault j) → Passes l i

-- no fault was found at a place
abbrev pub passed : Result ℕ Unread → ℕ → Bool
passed (Ok n) w = true
passed (Err Full) w = true
passed (Err (Fault p)) w = not (p == w)

-- what a flag says of the token of this number
abbrev pub Tells : Bool → Look → ℕ → Type 0
Tells true l i = Passes l i
Tells false l i = Stops l i

-- a kind is among these exactly where the grammar does not stop at a token of that kind, put at a place after so many tokens
abbrev pub TellsEach : Kinds → List Token → ℕ → ℕ → Type 0
TellsEach ks ts w i = (k : Kind) → Tells (among ks k) (look_in (probed ts w k) (w + 1)) i

-- the same of the tokens before a place
abbrev pub Expected : Kinds → List Token → ℕ → Type 0
Expected ks ts w = (k : Kind) → Tells (among ks k) (look_in (spliced ts w k) (w + 1)) (number_at ts w)

-- there is room for the tokens up to the place, and a place after it
abbrev pub Room : List Token → ℕ → ℕ → ℕ → Type 0
Room ts w nodes scratch = (number_at ts w < nodes) × (number_at ts w < scratch) × (w + 1 < 2 ^ 64)

abbrev pub Told : Option Kinds → List Token → ℕ → ℕ → ℕ → Type 0
Told (Some ks) ts w nodes scratch = Expected ks ts w
Told None ts w nodes scratch = Room ts w nodes scratch → ⊥
