use Rattle.language.specs.Walking.{owe_all}
use Rattle.records.specs.Laying.{columns_of, owed_of}
use Rattle.walking.specs.Keeping.{DebtsKept}
use Rattle.walking.specs.Sides.{rows_in}
use Rattle.walking.proofs.Going.{Going}
use Rattle.walking.proofs.debts.Debts.owe_conditions.Given as goal

abbrev pub invariant-loop-at : goal.invariant-loop-at
invariant-loop-at l =
    let t = l.initial.self.tables.now in let fs = l.facts in let p = columns_of t in let ts = l.terms.names.now in let r = l.terms.outcome.now in
    record {
      going : Going l.place fs (owe_all l.place fs (owed_of t) (rows_in p ts r l.fn.listed.from l.fn.listed.to)) (rows_in p ts r l.at l.end) t l.self.tables.now;
      kept : DebtsKept l.initial.self l.self;
    }
