-- A token, and the bytes that it has in a text.
use Rattle.std.specs.Prelude.{ℕ, Bool, List, take, drop}
use Rattle.std.specs.Str.{bytes_eq}
use Rattle.letters.specs.declared.kind.Kind.{Kind}
use Rattle.letters.specs.declared.token.Token.{Token}

abbrev pub token_of : Kind → ℕ → ℕ → ℕ → Token
token_of k i n v = record { kind = k; place = i; size = n; value = v }

abbrev pub bytes_of : List ℕ → Token → List ℕ
bytes_of text t = take t.size (drop t.place text)

-- two tokens of a text are written alike
abbrev pub same_name : List ℕ → Token → Token → Bool
same_name text a b = bytes_eq (bytes_of text a) (bytes_of text b)
