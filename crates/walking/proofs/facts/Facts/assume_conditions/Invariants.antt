use Rattle.std.proofs.Common.{map}
use Rattle.language.specs.Walking.{assume_all}
use Rattle.pile.specs.Entries.{entries}
use Rattle.records.specs.Laying.{columns_of}
use Rattle.records.specs.Leaving.{left_of}
use Rattle.records.specs.Tables.{condition_in, conditions_in}
use Rattle.walking.specs.Keeping.{FactsKept}
use Rattle.walking.specs.Knowing.{placed}
use Rattle.walking.proofs.Taking.{Taking}
use Rattle.walking.proofs.facts.Facts.assume_conditions.Given as goal

abbrev pub invariant-loop-condition : goal.invariant-loop-condition
invariant-loop-condition l =
    let before = entries l.initial.self.pile in let p = columns_of l.conditions.tables.now in let ts = l.conditions.terms.names.now in let r = l.conditions.terms.outcome.now in let f = placed l.place in
    record {
      taking : Taking f ts r (assume_all f ts r before (conditions_in p.items.entries p.conditions.entries l.fn.listed.from l.fn.listed.to)) (map (condition_in p.items.entries) (left_of (λ c. c.conditions) l.condition-iterator)) before (entries l.self.pile);
      kept : FactsKept l.initial.self l.self;
    }
