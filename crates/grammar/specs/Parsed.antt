-- What parsing a whole text says.
use Rattle.std.specs.Prelude.{◌≡◌, ℕ, ◌<◌, ◌≤◌, List, length, Ok, Err, Result}
use Rattle.letters.specs.declared.token.Token.{Token}
use Rattle.grammar.specs.declared.misplaced.Misplaced.{Misplaced}
use Rattle.grammar.specs.declared.node.Node.{Node}
use Rattle.grammar.specs.declared.unread.Unread.{Unread}
use Rattle.grammar.specs.declared.unread.Unread.TheVariants.{Full, Fault}
use Rattle.grammar.specs.Parsers.{look_in, done, fault}
use Rattle.grammar.specs.Sheets.{sheet_s}
use Rattle.grammar.specs.Trees.{Source, rules_to}
use Rattle.grammar.specs.Held.{Held, look, sheet, Comes, Failed}

abbrev pub source_of : List Token → ℕ → Source
source_of ts e = record { tokens = ts; end = e }

-- the first nodes, as many as are given, hold the sheet that the grammar finds
pub record Sheeted (ts : List Token) (e k : ℕ) (ns : List Node) : Type 0 where
  pub last : ℕ
  pub came : Comes sheet_s (look_in ts e) 0 (done (rules_to (source_of ts e) k ns) last)
  pub within : k ≤ length ns

-- the grammar finds a fault at a token with this place
pub record Faulted (ts : List Token) (e w : ℕ) : Type 0 where
  pub faulty : ℕ
  pub came : Comes sheet_s (look_in ts e) 0 (fault faulty)
  pub place : w ≡ (look_in ts e faulty).place

abbrev pub Said : Result ℕ Unread → List Token → ℕ → ℕ → List Node → Type 0
Said (Ok k) ts e room ns = (length ts ≤ room) × Sheeted ts e k ns
Said (Err Full) ts e room ns = room < length ts
Said (Err (Fault w)) ts e room ns = (length ts ≤ room) × Faulted ts e w

pub record Parsed (r : Result ℕ Unread) (ts : List Token) (e room : ℕ) (ns : List Node) : Type 0 where
  pub said : Said r ts e room ns

-- the rules of the tokens at hand
pub record Done (s s' : Held) : Type 0 where
  pub last : ℕ
  pub came : Comes sheet_s (look s) s.at (done (sheet s') last)
  pub same : s'.source ≡ s.source

abbrev pub RuledSo : Result (Unit {0}) Misplaced → Held → Held → Type 0
RuledSo (Ok u) s s' = Done s s'
RuledSo (Err e) s s' = Failed e.place sheet_s s

pub record Ruled (r : Result (Unit {0}) Misplaced) (s s' : Held) : Type 0 where
  pub lender : s'.lender ≡ s.lender
  pub so : RuledSo r s s'
