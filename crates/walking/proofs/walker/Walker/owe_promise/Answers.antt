use Rattle.std.proofs.Common.{take, refl, ap}
use Rattle.pile.specs.Entries.{entries}
use Rattle.walking.specs.Stepping.{facts_of}
use Rattle.walking.proofs.Indebted.{owed, owed-kept, owed_under}
use Rattle.walking.proofs.walker.Walker.owe_promise.Goals as goal

pub returns-clause-stepped : goal.returns-clause-stepped
returns-clause-stepped c =
    let w = c.args.self.now in let o = c.owe_conditions in
    owed w c.requires.sure o.new.self o.ensures.kept o.result _
    (owed_under o.result c.args.place (facts_of w) c.rows.result.now w.debts.now.tables.now o.new.self.tables.now (take c.args.promise.names (entries w.names.now)) (take c.args.promise.names c.as_slice.result.now) c.args.term.now c.args.term.now c.args.promise.conditions c.rows.ensures (ap (take c.args.promise.names) c.as_slice.ensures) refl o.ensures.paid)

pub returns-clause-kept : goal.returns-clause-kept
returns-clause-kept c = let o = c.owe_conditions in owed-kept c.args.self.now c.requires.sure o.new.self o.ensures.kept o.result _ o.ensures.paid
