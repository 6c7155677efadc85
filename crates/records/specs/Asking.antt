-- What an obligation asks, as it is read back from records.
use Rattle.std.specs.Prelude.{◌≡◌, ℕ, ◌+◌, ◌<◌, List, length, take, drop, Some, Option}
use Rattle.std.specs.List.{slice_get}
use Rattle.rows.specs.declared.row.Row.{Row}
use Rattle.language.specs.Walking.{Obligation}
use Rattle.records.specs.declared.asked.Asked.{Asked}
use Rattle.records.specs.declared.record.Record.{Record}
use Rattle.records.specs.Owing.{row_at}

abbrev pub asked_of : Obligation → Asked
asked_of o = record { duty = o.duty; place = o.place; facts = length o.facts; goal = o.goal }

-- the answer has what the obligation asks, its facts lie at the front of the room that was lent, and the rest of the room stays
pub record Asks (answer : Option Asked) (old new : List Row) (o : Obligation) : Type 0 where
  pub asked : answer ≡ Some (asked_of o)
  pub facts : take (length o.facts) new ≡ o.facts
  pub rest : drop (length o.facts) new ≡ drop (length o.facts) old

-- these rows lie from a position on
abbrev pub RowsFrom : List Record → ℕ → List Row → Type 0
RowsFrom records base rows = (j : ℕ) → j < length rows → row_at records (base + j) ≡ slice_get rows j

-- the answer is that these rows were put down in place of others
pub record Copied (answer : Option (Unit {0})) (new rows : List Row) : Type 0 where
  pub done : answer ≡ Some tt
  pub held : new ≡ rows
