use Rattle.std.proofs.Common.{List, drop}
use Rattle.language.specs.Tree.{Rule}
use Rattle.records.specs.Laying.{columns_of}
use Rattle.records.specs.Sound.{Sound}
use Rattle.walking.specs.Keeping.{DebtsKept}
use Rattle.walking.specs.Walked.{Ruled}
use Rattle.walking.proofs.Sheets.{Along}
use Rattle.walking.proofs.rules.walk.Given as goal

abbrev pub invariant-loop-rule : goal.invariant-loop-rule
invariant-loop-rule l =
    let t = l.initial.debts.tables.now in let u = l.debts.tables.now in record {
      sound : Sound (columns_of u);
      kept : DebtsKept l.initial.debts l.debts;
      along : (R : List Rule) → Ruled (columns_of t) R → Along R (columns_of t).params.entries (drop l.rule (columns_of t).entries.entries) t u;
    }
