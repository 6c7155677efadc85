-- How tables change when a row, a header or an obligation is put down.
use Rattle.std.specs.Prelude.{◌≡◌, ◌≢◌, ℕ, suc, ◌+◌, ◌<◌, ◌≤◌, List, [], ◌∷◌, ◌++◌, length, Some, Bool, true, false}
use Rattle.std.specs.List.{slice_get}
use Rattle.rows.specs.declared.row.Row.{Row}
use Rattle.language.specs.declared.duty.Duty.{Duty}
use Rattle.language.specs.Walking.{Obligation}
use Rattle.records.specs.declared.laid.Laid.{Laid}
use Rattle.records.specs.declared.owed.Owed.{Owed}
use Rattle.records.specs.Laying.{columns_of}
use Rattle.records.specs.Owing.{owed_at, row_at, OwesAll}

-- the tables, and how many obligations there are, stay
pub record SameTables (t u : Laid) : Type 0 where
  pub columns : columns_of u ≡ columns_of t
  pub length : length u.records.now ≡ length t.records.now
  pub owed : u.owed ≡ t.owed

-- one row is put down
pub record RowPut (t u : Laid) (at : ℕ) (row : Row) : Type 0 where
  pub same : SameTables t u
  pub here : row_at u.records.now at ≡ Some row
  pub rows : (j : ℕ) → j ≢ at → row_at u.records.now j ≡ row_at t.records.now j
  pub headers : (j : ℕ) → owed_at u.records.now j ≡ owed_at t.records.now j

-- the first so many of these rows are, from a position on
pub record RowsPut (t u : Laid) (base : ℕ) (facts : List Row) (k : ℕ) : Type 0 where
  pub same : SameTables t u
  pub here : (j : ℕ) → j < k → row_at u.records.now (base + j) ≡ slice_get facts j
  pub before : (j : ℕ) → j < base → row_at u.records.now j ≡ row_at t.records.now j
  pub after : (j : ℕ) → base + k ≤ j → row_at u.records.now j ≡ row_at t.records.now j
  pub headers : (j : ℕ) → owed_at u.records.now j ≡ owed_at t.records.now j

-- one header is
pub record HeaderPut (t u : Laid) (at : ℕ) (owed : Owed) : Type 0 where
  pub same : SameTables t u
  pub here : owed_at u.records.now at ≡ Some owed
  pub headers : (j : ℕ) → j ≢ at → owed_at u.records.now j ≡ owed_at t.records.now j
  pub rows : (j : ℕ) → row_at u.records.now j ≡ row_at t.records.now j

-- an obligation joins those that are owed
pub record OnePut (t u : Laid) (duty : Duty) (place : ℕ) (facts : List Row) (goal : Row) : Type 0 where
  pub columns : columns_of u ≡ columns_of t
  pub count : u.owed ≡ suc t.owed
  pub owes : (os : List Obligation) → length os ≡ t.owed → OwesAll t.records.now os → OwesAll u.records.now (os ++ (record { number = t.owed; duty = duty; place = place; facts = facts; goal = goal }) ∷ [])

abbrev pub PutIf : Bool → Laid → Laid → Duty → ℕ → List Row → Row → Type 0
PutIf true t u duty place facts goal = OnePut t u duty place facts goal
PutIf false t u duty place facts goal = u ≡ t
