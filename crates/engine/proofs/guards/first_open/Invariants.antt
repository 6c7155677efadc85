use Rattle.std.proofs.Common.{◌≡◌, List, length}
use Rattle.language.specs.Walking.{Obligation}
use Rattle.language.specs.Drafts.{first_open, marked}
use Rattle.records.specs.Owing.{OwesAll}
use Rattle.engine.proofs.Opened.{from}
use Rattle.engine.proofs.guards.first_open.Given as goal

abbrev pub invariant-loop-number : goal.invariant-loop-number
invariant-loop-number l = (os : List Obligation) → length os ≡ l.owed → OwesAll l.records os → first_open 0 os (marked l.marks) ≡ from l.number os (marked l.marks)
