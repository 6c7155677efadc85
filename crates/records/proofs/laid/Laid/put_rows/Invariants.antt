use Rattle.records.specs.Added.{RowsPut}
use Rattle.records.proofs.laid.Laid.put_rows.Given as goal

abbrev pub invariant-loop-j : goal.invariant-loop-j
invariant-loop-j l = RowsPut l.initial.self l.self l.base l.rows l.j
