-- What stands in front of the token that is tried.
use Rattle.std.specs.Prelude.{◌≡◌, List}
use Rattle.letters.specs.declared.token.Token.{Token}
use Rattle.pile.specs.Entries.{entries, room}
use Rattle.showing.specs.declared.probe.Probe.{Probe}

abbrev pub front : Probe → List Token
front p = entries p.tokens

-- the same tokens stand before the same place, with the same room
pub record Kept (p q : Probe) : Type 0 where
  pub front : front q ≡ front p
  pub room : room q.tokens ≡ room p.tokens
  pub place : q.place ≡ p.place
