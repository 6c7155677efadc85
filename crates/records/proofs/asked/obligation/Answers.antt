use Rattle.std.proofs.Common.{arith}
use Rattle.records.proofs.Asking.{row_within}
use Rattle.records.proofs.asked.obligation.Goals as goal

pub returns-then-number-records : goal.returns-then-number-records
returns-then-number-records c = λ o w. absurd (let l = row_within c.args.records.now _ o.goal w.goal in omega arith)
