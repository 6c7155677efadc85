use Rattle.records.specs.Laying.{columns_of}
use Rattle.records.specs.Leaving.{left_of}
use Rattle.records.specs.Tables.{side_in}
use Rattle.walking.proofs.Siding.{Adding}
use Rattle.walking.proofs.conditions.Conditions.side_total.Given as goal

abbrev pub invariant-loop-item : goal.invariant-loop-item
invariant-loop-item l = Adding l.self.terms.names.now l.self.terms.outcome.now (side_in (columns_of l.self.tables.now).items.entries l.fn.side.from l.fn.side.to) (left_of (λ c. c.items) l.item-iterator) l.total
