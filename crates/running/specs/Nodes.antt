-- What a node says of its expression.
use Rattle.std.specs.Prelude.{ℕ}
use Rattle.records.specs.declared.node.Node.{Node}
use Rattle.records.specs.declared.node.Node.TheVariants.{Blank, Num, Name, Calc, Read, Call, Bind, Test, Put, Claim, End, Value, Lent}

abbrev pub place_in : Node → ℕ
place_in Blank = 0
place_in (Num p v) = p
place_in (Name p i) = p
place_in (Calc p o a b) = p
place_in (Read p m l a) = p
place_in (Call p f a) = p
place_in (Bind p a b) = p
place_in (Test p c a b d e) = p
place_in (Put p q m l a b e) = p
place_in (Claim p a s) = p
place_in End = 0
place_in (Value a b) = 0
place_in (Lent l b) = 0
