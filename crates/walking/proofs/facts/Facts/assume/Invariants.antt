use Rattle.std.proofs.Common.{List, Result}
use Rattle.rows.specs.declared.row.Row.{Row}
use Rattle.language.specs.declared.refusal.Refusal.{Refusal}
use Rattle.language.specs.Walking.{assume}
use Rattle.pile.specs.Entries.{entries}
use Rattle.terms.specs.Listed.{list_of, left_of}
use Rattle.walking.specs.Keeping.{FactsKept}
use Rattle.walking.specs.Knowing.{Took}
use Rattle.walking.proofs.facts.Facts.assume.Given as goal

abbrev pub invariant-loop-row : goal.invariant-loop-row
invariant-loop-row l =
    let before = entries l.initial.self.pile in let now = entries l.self.pile in
    record {
      took : (r : Result (Unit {0}) Refusal) (after : List Row) → Took r (assume l.place now (left_of l.row-iterator)) now after → Took r (assume l.place before (list_of l.fn.rows)) before after;
      kept : FactsKept l.initial.self l.self;
    }
