-- What a sheet owes, as it lies in records: obligation k has its duty, place and number of facts in record k, and its rows in the records 25 k to 25 k + 24, the goal last.
use Rattle.std.specs.Prelude.{◌≡◌, ℕ, suc, ◌+◌, ◌*◌, ◌<◌, ◌≤◌, Bool, ◌&&◌, List, [], ◌∷◌, length, Some, Option, nat_le, slice_index_or}
use Rattle.std.specs.List.{slice_get}
use Rattle.rows.specs.declared.row.Row.{Row}
use Rattle.language.specs.Walking.{Obligation}
use Rattle.records.specs.declared.owed.Owed.{Owed}
use Rattle.records.specs.declared.record.Record.{Record}
use Rattle.records.specs.Columns.{zero_record}

abbrev pub owed_at : List Record → ℕ → Option Owed
owed_at records k = (slice_index_or records k zero_record).owed

abbrev pub row_at : List Record → ℕ → Option Row
row_at records k = (slice_index_or records k zero_record).row

-- so many records hold an obligation's rows
abbrev pub rows_each : ℕ
rows_each = 25

-- obligation k is this one
pub record Owes (records : List Record) (k : ℕ) (o : Obligation) : Type 0 where
  pub number : o.number ≡ k
  pub few : length o.facts ≤ 24
  pub header : owed_at records k ≡ Some (record { duty = o.duty; place = o.place; facts = length o.facts })
  pub facts : (j : ℕ) → j < length o.facts → row_at records (rows_each * k + j) ≡ slice_get o.facts j
  pub goal : row_at records (rows_each * k + 24) ≡ Some o.goal

-- the obligations from number k on are these
abbrev pub OwesFrom : List Record → ℕ → List Obligation → Type 0
OwesFrom records k [] = Unit {0}
OwesFrom records k (o ∷ os) = Owes records k o × OwesFrom records (suc k) os

abbrev pub OwesAll : List Record → List Obligation → Type 0
OwesAll records os = OwesFrom records 0 os

-- there is room for one obligation more, with so many facts
abbrev pub takes_one : ℕ → ℕ → ℕ → Bool
takes_one records count facts = nat_le facts 24 && nat_le (rows_each * (count + 1)) records
