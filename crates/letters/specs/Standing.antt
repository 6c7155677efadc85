-- Where tokens stand in a text.
use Rattle.std.specs.Prelude.{ℕ, ◌+◌, ◌<◌, ◌≤◌, List, [], ◌∷◌, length}
use Rattle.letters.specs.declared.token.Token.{Token}
use Rattle.letters.specs.Spelling.{Spelt}
use Rattle.letters.specs.Tokens.{bytes_of}

-- a token lies in the text and is spelt at its place
abbrev pub Stands : List ℕ → Token → Type 0
Stands text t = (t.place + t.size ≤ length text) × Spelt t (bytes_of text t)

-- tokens from place i on, each after the end of the one before
abbrev pub Ascending : ℕ → List Token → Type 0
Ascending i [] = Unit {0}
Ascending i (t ∷ ts) = (i ≤ t.place) × (0 < t.size) × Ascending (t.place + t.size) ts
