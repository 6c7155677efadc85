use Rattle.std.proofs.Common.{length, sym, ap, ◌∙◌, arith}
use Rattle.records.specs.Laying.{columns_of}
use Rattle.records.proofs.Stretches.{cut}
use Rattle.records.proofs.entries.methods.EntriesIterator.next.Goals as goal

pub returns-clause-steps : goal.returns-clause-steps
returns-clause-steps g c =
    let s = c.args.self.now in
    cut (g.E.Tabled.table (columns_of s.tables.now)).entries s.left.from s.left.to c.in_ok-entry.entry (omega (arith, c.if-at-self.false)) (sym c.get.ensures ∙ c.in_ok-entry.was)

pub returns-clause-goes : goal.returns-clause-goes
returns-clause-goes g c = omega (arith, ap length (returns-clause-steps g c))
