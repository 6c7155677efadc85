use Rattle.std.proofs.Common.{Result}
use Rattle.language.specs.declared.refusal.Refusal.{Refusal}
use Rattle.language.specs.Walking.{owe_all}
use Rattle.records.specs.declared.laid.Laid.{Laid}
use Rattle.records.specs.Laying.{owed_of}
use Rattle.terms.specs.Listed.{list_of, left_of}
use Rattle.walking.specs.Keeping.{DebtsKept}
use Rattle.walking.specs.Owing.{Paid}
use Rattle.walking.proofs.debts.Debts.owe_rows.Given as goal

abbrev pub invariant-loop-row : goal.invariant-loop-row
invariant-loop-row l =
    let t = l.initial.self.tables.now in let u = l.self.tables.now in let fs = l.facts in
    record {
      paid : (r : Result (Unit {0}) Refusal) (v : Laid) → Paid r (owe_all l.place fs (owed_of u) (left_of l.row-iterator)) u v → Paid r (owe_all l.place fs (owed_of t) (list_of l.fn.rows)) t v;
      kept : DebtsKept l.initial.self l.self;
    }
