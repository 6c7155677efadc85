-- The law of letters: the tokens put end to end, with blanks between, are the text, and none could be longer.
use Rattle.std.specs.Prelude.{◌≡◌, ℕ, suc, ◌+◌, ◌<◌, ◌≤◌, true, false, List, [], ◌∷◌, ◌++◌, length, take, drop, Ok, Err, Result, slice_index}
use Rattle.std.specs.Str.Parse.{digits_value}
use Rattle.letters.specs.declared.kind.Kind.{Kind}
use Rattle.letters.specs.declared.kind.Kind.TheVariants.{Name, Numeral}
use Rattle.letters.specs.declared.token.Token.{Token}
use Rattle.letters.specs.declared.misspelt.Misspelt.{Misspelt}
use Rattle.letters.specs.declared.misspelt.Misspelt.TheVariants.{Length, Letter, Brackets}
use Rattle.letters.specs.Bytes.{is_blank, is_letter, is_digit, is_opening, open_in, EachLetter, EachDigit}
use Rattle.letters.specs.Kinds.{word, keyword_of}

-- these bytes write the token: a name, a numeral, or a keyword or sign as it is written
pub data Spelt (t : Token) (w : List ℕ) : Type 0 where
  name : t.kind ≡ Name → EachLetter w → length w ≤ 16 → keyword_of w ≡ Name → t.value ≡ 0 → Spelt t w
  numeral : t.kind ≡ Numeral → EachDigit w → length w ≤ 6 → t.value ≡ digits_value 10 w → Spelt t w
  fixed : w ≡ word t.kind → t.value ≡ 0 → Spelt t w

-- one byte more makes a longer word, numeral or sign
pub data Grows (w : List ℕ) (b : ℕ) : Type 0 where
  by-letter : EachLetter w → is_letter b ≡ true → Grows w b
  by-digit : EachDigit w → is_digit b ≡ true → Grows w b
  to-sign : (k : Kind) → w ++ b ∷ [] ≡ word k → Grows w b

-- no token is longer, where this is what follows
abbrev pub Longest : List ℕ → List ℕ → Type 0
Longest w after = (b : ℕ) (more : List ℕ) → after ≡ b ∷ more → Grows w b → ⊥

-- the bytes from place i on are these tokens, with blanks between, and then what is left
pub data Reads : ℕ → List ℕ → List Token → List ℕ → Type 0 where
  end : {i : ℕ} {left : List ℕ} → Reads i left [] left
  blank : {i b : ℕ} {bs left : List ℕ} {ts : List Token} → is_blank b ≡ true → Reads (suc i) bs ts left → Reads i (b ∷ bs) ts left
  token : {i : ℕ} {w bs left : List ℕ} {t : Token} {ts : List Token} → t.place ≡ i → t.size ≡ length w → 0 < length w → Spelt t w → Longest w bs → Reads (i + length w) bs ts left → Reads i (w ++ bs) (t ∷ ts) left

-- neither a blank nor a token stands at the front
abbrev pub Stuck : List ℕ → Type 0
Stuck left = (is_blank (slice_index left 0) ≡ false) × ((t : Token) (w after : List ℕ) → left ≡ w ++ after → 0 < length w → Spelt t w → Longest w after → ⊥)

-- what an answer and the tokens that are written tell of the text: they read it, as no others do, or they read what stands before the fault
abbrev pub Told : List ℕ → Result ℕ Misspelt → List Token → Type 0
Told text (Ok n) ts = Reads 0 text (take n ts) [] × ((us : List Token) → Reads 0 text us [] → us ≡ take n ts)
Told text (Err Length) ts = 16384 < length text
Told text (Err (Letter i)) ts = (i < length text) × ((n : ℕ) × Reads 0 text (take n ts) (drop i text)) × Stuck (drop i text)
Told text (Err (Brackets i)) ts = (i < length text) × ((n : ℕ) × Reads 0 text (take n ts) (drop i text)) × (is_opening (slice_index text i) ≡ true)

-- no more than 64 brackets are open at any byte up to place i
abbrev pub Shallow : List ℕ → ℕ → Type 0
Shallow text i = (k : ℕ) → k ≤ i → open_in 0 (take k text) ≤ 64

-- what an answer tells of the brackets: 64 are enough, or at the fault 64 are open
abbrev pub Bracketed : List ℕ → Result ℕ Misspelt → Type 0
Bracketed text (Ok n) = Shallow text (length text)
Bracketed text (Err Length) = Unit {0}
Bracketed text (Err (Letter i)) = Shallow text i
Bracketed text (Err (Brackets i)) = Shallow text i × (open_in 0 (take i text) ≡ 64)
