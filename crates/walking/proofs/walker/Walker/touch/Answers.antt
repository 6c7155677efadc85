use Rattle.std.proofs.Common.{Ok, Err, ap, ◌∙◌}
use Rattle.language.specs.Terms.{term_at}
use Rattle.walking.specs.Keeping.{with_node}
use Rattle.records.specs.Laying.{columns_of}
use Rattle.walking.specs.Stepping.{facts_of, numbered}
use Rattle.walking.proofs.Indebted.{touching, touched-kept, checks_under}
use Rattle.walking.proofs.Refusing.{touched-not}
use Rattle.walking.proofs.walker.Walker.touch.Goals as goal

pub returns-in_err-owe_checks-clause-stepped : goal.returns-in_err-owe_checks-clause-stepped
returns-in_err-owe_checks-clause-stepped c =
    let w = c.args.self.now in let e = c.in_err-owe_checks in let s = c.args.site in
    touched-not e.field-0.0 c.from_residual.result c.args.at _ _ w _ c.from_residual.ensures.1
    (checks_under (Err e.field-0.0) s.place s.work (facts_of w) c.rows.result.now w.debts.now.tables.now c.owe_checks.new.self.tables.now c.args.index.now (term_at w.lengths.now s.list) c.length_of-size.result c.rows.ensures c.length_of-size.ensures.value e.ensures.paid).fault

pub returns-clause-stepped : goal.returns-clause-stepped
returns-clause-stepped c =
    let w = c.args.self.now in let s = c.args.site in let d = c.owe_checks.new.self in let t = c.set_node in
    let node = c.numbered-node.ensures ∙ ap (numbered c.args.node) c.owed.ensures in
    touching w c.requires.sure d t.new.self c.owe_checks.ensures.kept t.ensures.kept c.args.at _ _
    (checks_under (Ok tt) s.place s.work (facts_of w) c.rows.result.now w.debts.now.tables.now d.tables.now c.args.index.now (term_at w.lengths.now s.list) c.length_of-size.result c.rows.ensures c.length_of-size.ensures.value c.in_ok-owe_checks.ensures.paid)
    (t.ensures.held ∙ ap (with_node (columns_of d.tables.now) c.args.at) node) t.ensures.owed t.ensures.owes

pub returns-clause-kept : goal.returns-clause-kept
returns-clause-kept c =
    let w = c.args.self.now in let s = c.args.site in let d = c.owe_checks.new.self in let t = c.set_node in
    touched-kept w c.requires.sure d t.new.self c.owe_checks.ensures.kept t.ensures.kept c.args.at _ _ c.in_ok-owe_checks.ensures.paid t.ensures.held t.ensures.owed t.ensures.owes
