-- Every kind of token.
use Rattle.std.specs.Prelude.{List, ◌∷◌}
use Rattle.letters.specs.declared.kind.Kind.{Kind}
use Rattle.letters.specs.declared.kind.Kind.TheVariants.{Name, Numeral, End, Open, Close, OpenSquare, CloseSquare, Comma, Semicolon, Plus, Minus, Times, Less, AtMost, Equal, Unequal, Becomes}
use Rattle.letters.specs.Kinds.{keywords}

-- the kinds in the order of their numbers
unfoldable pub kinds : List Kind
kinds = Name ∷ Numeral ∷ End ∷ Open ∷ Close ∷ OpenSquare ∷ CloseSquare ∷ Comma ∷ Semicolon ∷ Plus ∷ Minus ∷ Times ∷ Less ∷ AtMost ∷ Equal ∷ Unequal ∷ Becomes ∷ keywords
