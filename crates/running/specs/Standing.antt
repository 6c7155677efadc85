-- The rules' bodies that stand in records, and what their calls are to keep.
use Rattle.std.specs.Prelude.{◌≡◌, ℕ, ◌*◌, ◌<◌, ◌≤◌, List, length, Some, slice_index_or}
use Rattle.std.specs.List.{slice_get}
use Rattle.language.specs.Tree.{Expr, num, name, calc, read, call, bind, test, put, claim, Args, end, value, lent, shape, no_expr}
use Rattle.records.specs.declared.entry.Entry.{Entry}
use Rattle.records.specs.declared.record.Record.{Record}
use Rattle.records.specs.Columns.{first_slots, no_entry, tables_in}
use Rattle.records.specs.Standing.{Stands, ArgsStand}

-- all slots of the rules' entries
abbrev pub all_entries : List Record → List Entry
all_entries records = first_slots (λ r. r.entries) no_entry records (4 * length records)

-- each call is of one of so many rules, with at most 12 arguments
abbrev mutual
  pub Few : ℕ → Expr → Type 0
  Few n (num p k) = Unit {0}
  Few n (name p i) = Unit {0}
  Few n (calc p o a b) = Few n a × Few n b
  Few n (read s a) = Few n a
  Few n (call p f es) = (f < n) × ((length (shape es) ≤ 12) × FewArgs n es)
  Few n (bind p a b) = Few n a × Few n b
  Few n (test p c a b d e) = Few n a × (Few n b × (Few n d × Few n e))
  Few n (put p s a b e) = Few n a × (Few n b × Few n e)
  Few n (claim p a cs) = Few n a

  pub FewArgs : ℕ → Args → Type 0
  FewArgs n end = Unit {0}
  FewArgs n (value e es) = Few n e × FewArgs n es
  FewArgs n (lent l es) = FewArgs n es

-- a rule's body stands where its entry says
pub record Body (records : List Record) (n f : ℕ) (e : Expr) : Type 0 where
  pub entry : Entry
  pub found : slice_get (all_entries records) f ≡ Some entry
  pub below : entry.body < 16384
  pub lo : ℕ
  pub stands : Stands (tables_in records) lo entry.body e
  pub few : Few n e

-- the bodies of all rules do
pub record Book (records : List Record) : Type 0 where
  pub bodies : List Expr
  pub stand : (f : ℕ) → f < length bodies → Body records (length bodies) f (slice_index_or bodies f no_expr)

-- an expression stands at a position, or arguments do
pub record Placed (records : List Record) (book : Book records) (at : ℕ) : Type 0 where
  pub lo : ℕ
  pub tree : Expr
  pub stands : Stands (tables_in records) lo at tree
  pub few : Few (length book.bodies) tree

pub record ArgsPlaced (records : List Record) (book : Book records) (at : ℕ) : Type 0 where
  pub lo : ℕ
  pub trees : Args
  pub stand : ArgsStand (tables_in records) lo at trees
  pub few : FewArgs (length book.bodies) trees
