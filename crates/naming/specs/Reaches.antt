-- Scopes by token numbers: those of the names in force, and those of the rule's lists.
use Rattle.std.specs.Prelude.{◌≡◌, ℕ, Bool, List, map, is_some, Option}
use Rattle.letters.specs.declared.token.Token.{Token}
use Rattle.grammar.specs.Trees.{look_of}
use Rattle.pile.specs.declared.Pile.{Pile}
use Rattle.pile.specs.Entries.{entries, room}
use Rattle.naming.specs.declared.written.Written.{Written}
use Rattle.naming.specs.Least.{least}
use Rattle.naming.specs.Sources.{source_of, rules_of}
use Rattle.naming.specs.Scopes.{Scope, Sheet, slot_in}

abbrev pub tokens_of : Written → List ℕ → List Token
tokens_of w ns = map (look_of (source_of w)) ns

abbrev pub scope_of : Written → List ℕ → List ℕ → Scope
scope_of w names lists = record { names = tokens_of w names; lists = tokens_of w lists }

abbrev pub sheet_of : Written → Sheet
sheet_of w = record { text = w.text.now; rules = rules_of w }

-- one of these tokens is written as this one
abbrev pub among : Written → List ℕ → Token → Bool
among w ns t = is_some (slot_in w.text.now (tokens_of w ns) t)

-- a fault is the first of those that the names in force give, and the names are the same again
pub record Went (fault : Option ℕ) (faults : List ℕ → List ℕ) (before after : Pile ℕ) : Type 0 where
  pub told : fault ≡ least (faults (entries before))
  pub kept : entries after ≡ entries before
  pub roomy : room after ≡ room before
