-- The law of parsing, in the grammar's own words.
use Rattle.std.specs.Prelude.{◌≡◌, ℕ, List, Ok, Err, Result}
use Rattle.letters.specs.declared.token.Token.{Token}
use Rattle.grammar.specs.declared.node.Node.{Node}
use Rattle.grammar.specs.declared.unread.Unread.{Unread}
use Rattle.grammar.specs.declared.unread.Unread.TheVariants.{Full, Fault}
use Rattle.grammar.specs.Raw.{Sheet}
use Rattle.grammar.specs.Parsers.{Look, look_in}
use Rattle.grammar.specs.Trees.{rules_to}
use Rattle.grammar.specs.Parsed.{source_of}
use Rattle.grammar.specs.Derives.{DSheet, Upto, Before}

-- the tokens derive this sheet and no other
pub record OnlySheet (l : Look) (rs : Sheet) : Type 0 where
  pub derived : DSheet l rs
  pub only : (qs : Sheet) → DSheet l qs → qs ≡ rs

-- tokens that are the same before k derive a sheet
pub record Begun (l : Look) (k : ℕ) : Type 0 where
  pub tokens : Look
  pub same : Before k l tokens
  pub sheet : Sheet
  pub derived : DSheet tokens sheet

-- what stands before the token at fault goes on to a sheet, and with that token it does not
pub record NoSheet (l : Look) (w : ℕ) : Type 0 where
  pub faulty : ℕ
  pub place : w ≡ (l faulty).place
  pub begun : Begun l faulty
  pub dead : (m : Look) → Upto faulty l m → (rs : Sheet) → DSheet m rs → ⊥

-- tokens are read exactly where they derive a sheet, and that sheet is in the nodes
abbrev pub Lawful : Result ℕ Unread → List Token → ℕ → List Node → Type 0
Lawful (Ok k) ts e ns = OnlySheet (look_in ts e) (rules_to (source_of ts e) k ns)
Lawful (Err Full) ts e ns = Unit {0}
Lawful (Err (Fault w)) ts e ns = NoSheet (look_in ts e) w
