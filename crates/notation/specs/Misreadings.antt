-- What a refusal says of a text: that no value is written so, unless memory was wanting.
use Rattle.std.specs.Prelude.{ℕ, ◌^◌, ◌<◌, ◌≡◌, List, Option, Some, Result, Ok, decimal, ◌≢◌}
use Rattle.notation.specs.declared.misread.Misread.{Misread}
use Rattle.notation.specs.declared.misread.Misread.TheVariants.{Number, Short, Relation, Bound, Term, Quantity, Limits, Form, Memory}

abbrev pub Unwritten : List ℕ → Type 0
Unwritten word = (n : ℕ) → n < 2 ^ 32 → word ≢ decimal n

abbrev pub NoNumber : Misread → List ℕ → Type 0
NoNumber Memory word = Unit {0}
NoNumber Number word = Unwritten word
NoNumber Short word = Unwritten word
NoNumber Relation word = Unwritten word
NoNumber Bound word = Unwritten word
NoNumber Term word = Unwritten word
NoNumber Quantity word = Unwritten word
NoNumber Limits word = Unwritten word
NoNumber Form word = Unwritten word

-- no value that the word is sure to be parsed as is printed as the word
abbrev pub WritesNone : {T E : Type 0} → (List ℕ → Result T E → Type 0) → (T → Option (List ℕ)) → List ℕ → Type 0
WritesNone {T} {E} parses output word = (value : T) → ((read : Result T E) → parses word read → read ≡ Ok value) → output value ≢ Some word
