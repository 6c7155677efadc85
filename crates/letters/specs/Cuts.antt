-- How a text is cut into tokens, from its first byte to its last.
use Rattle.std.specs.Prelude.{ℕ, zero, suc, ◌+◌, ◌-◌, Bool, cond, ◌&&◌, List, [], ◌∷◌, ◌++◌, length, take, drop, Some, None, Ok, Err, Option, Result, ◌==◌, nat_le, nat_lt, slice_index}
use Rattle.std.specs.Str.Parse.{digits_value}
use Rattle.std.specs.List.{prefix_len}
use Rattle.letters.specs.declared.kind.Kind.{Kind}
use Rattle.letters.specs.declared.kind.Kind.TheVariants.{Numeral, Open, Close, OpenSquare, CloseSquare, Comma, Semicolon, Plus, Minus, Times, Less, AtMost, Equal, Unequal, Becomes}
use Rattle.letters.specs.declared.token.Token.{Token}
use Rattle.letters.specs.declared.misspelt.Misspelt.{Misspelt}
use Rattle.letters.specs.declared.misspelt.Misspelt.TheVariants.{Length, Letter, Brackets}
use Rattle.letters.specs.Bytes.{is_letter, is_digit, is_opening, is_closing, lead_of, Gap, Word, Number, Sign, Lead}
use Rattle.letters.specs.Kinds.{word, keyword_of}
use Rattle.letters.specs.Tokens.{token_of}

-- the word at the front of the bytes from place i on: the run of letters there, a keyword or a name; a run of more than 16 is misspelt
abbrev pub word_by : ℕ → List ℕ → ℕ → Result Token Misspelt
word_by i bs n = cond (nat_le n 16) (Ok (token_of (keyword_of (take n bs)) i n 0)) (Err (Letter i))

abbrev pub word_at : ℕ → List ℕ → Result Token Misspelt
word_at i bs = word_by i bs (prefix_len is_letter bs)

-- the numeral at the front: the run of digits there; a run of more than 6 is misspelt
abbrev pub numeral_by : ℕ → List ℕ → ℕ → Result Token Misspelt
numeral_by i bs n = cond (nat_le n 6) (Ok (token_of Numeral i n (digits_value 10 (take n bs)))) (Err (Letter i))

abbrev pub numeral_at : ℕ → List ℕ → Result Token Misspelt
numeral_at i bs = numeral_by i bs (prefix_len is_digit bs)

-- the sign that begins with a byte, by whether an equals sign follows
abbrev pub sign_of : ℕ → Bool → Option Kind
sign_of b equals =
    cond (b == 60 && equals) (Some AtMost) (cond (b == 33 && equals) (Some Unequal) (cond (b == 58 && equals) (Some Becomes)
    (cond (b == 40) (Some Open) (cond (b == 41) (Some Close) (cond (b == 91) (Some OpenSquare) (cond (b == 93) (Some CloseSquare)
    (cond (b == 44) (Some Comma) (cond (b == 59) (Some Semicolon) (cond (b == 43) (Some Plus) (cond (b == 45) (Some Minus)
    (cond (b == 42) (Some Times) (cond (b == 60) (Some Less) (cond (b == 61) (Some Equal) None)))))))))))))

abbrev pub sign_by : ℕ → Option Kind → Result Token Misspelt
sign_by i None = Err (Letter i)
sign_by i (Some k) = Ok (token_of k i (length (word k)) 0)

abbrev pub sign_at : ℕ → List ℕ → Result Token Misspelt
sign_at i bs = sign_by i (sign_of (slice_index bs 0) (slice_index bs 1 == 61))

-- a token that stands there, as a piece
abbrev pub some_token : Result Token Misspelt → Result (Option Token) Misspelt
some_token (Ok t) = Ok (Some t)
some_token (Err m) = Err m

-- what stands at the front of the bytes from place i on: a blank, which is no token, or the longest token, or neither
abbrev pub piece_by : Lead → ℕ → List ℕ → Result (Option Token) Misspelt
piece_by Gap i bs = Ok None
piece_by Word i bs = some_token (word_at i bs)
piece_by Number i bs = some_token (numeral_at i bs)
piece_by Sign i bs = some_token (sign_at i bs)

unfoldable pub piece_of : ℕ → List ℕ → Result (Option Token) Misspelt
piece_of i bs = piece_by (lead_of (slice_index bs 0)) i bs

-- how many brackets are open after the token that begins with this byte; the 65th may not open
abbrev pub open_after : ℕ → ℕ → ℕ → Result ℕ Misspelt
open_after b depth i = cond (is_opening b) (cond (nat_lt depth 64) (Ok (depth + 1)) (Err (Brackets i))) (Ok (cond (is_closing b) (depth - 1) depth))

-- the tokens up to the end of the text, or up to the first fault
pub record Cut : Type 0 where
  pub tokens : List Token
  pub fault : Option Misspelt

abbrev pub done : Cut
done = record { tokens = []; fault = None }

abbrev pub stop : Misspelt → Cut
stop m = record { tokens = []; fault = Some m }

abbrev pub put : Token → Cut → Cut
put t c = record { tokens = t ∷ c.tokens; fault = c.fault }

-- a token before the rest, given what the brackets come to
abbrev pub put_by : Token → Result ℕ Misspelt → (ℕ → Cut) → Cut
put_by t (Ok depth) rest = put t (rest depth)
put_by t (Err m) rest = stop m

-- a piece at place i, that begins with b, before the rest, given how many bytes of it are to skip and how many brackets are open
abbrev pub cut_by : Result (Option Token) Misspelt → ℕ → ℕ → ℕ → (ℕ → ℕ → Cut) → Cut
cut_by (Ok None) i b depth rest = rest 0 depth
cut_by (Ok (Some t)) i b depth rest = put_by t (open_after b depth i) (rest (t.size - 1))
cut_by (Err m) i b depth rest = stop m

-- the bytes from place i on: the next `skip` belong to a token that is taken already
unfoldable pub cut_from : ℕ → ℕ → ℕ → List ℕ → Cut
cut_from skip depth i [] = done
cut_from zero depth i (b ∷ bs) = cut_by (piece_of i (b ∷ bs)) i b depth (λ n o. cut_from n o (suc i) bs)
cut_from (suc skip) depth i (b ∷ bs) = cut_from skip depth (suc i) bs

unfoldable pub cut_of : List ℕ → Cut
cut_of text = cond (nat_le (length text) 16384) (cut_from 0 0 0 text) (stop Length)

abbrev pub answer_by : Option Misspelt → ℕ → Result ℕ Misspelt
answer_by None n = Ok n
answer_by (Some m) n = Err m

-- how many tokens there are, or the fault
abbrev pub answer : Cut → Result ℕ Misspelt
answer c = answer_by c.fault (length c.tokens)

-- tokens laid over the front of an array, whose rest stays
abbrev pub laid : List Token → List Token → List Token
laid ts old = ts ++ drop (length ts) old
