use Rattle.std.proofs.Common.{refl, ap, ◌∙◌}
use Rattle.language.specs.Terms.{zero_term, fits_term}
use Rattle.language.proofs.Fitting.{zero-fits}
use Rattle.walking.specs.Stepping.{facts_of}
use Rattle.walking.proofs.Indebted.{owed, owed-kept, owed_under}
use Rattle.walking.proofs.walker.Walker.owe_needs.Goals as goal

pub invariant_of-terms : goal.invariant_of-terms
invariant_of-terms c = record { names_fit = c.requires.given; outcome_fits = ap fits_term c.constant-none.ensures ∙ zero-fits }

pub returns-clause-stepped : goal.returns-clause-stepped
returns-clause-stepped c =
    let w = c.args.self.now in let o = c.owe_conditions in
    owed w c.requires.sure o.new.self o.ensures.kept o.result _
    (owed_under o.result c.args.place (facts_of w) c.rows.result.now w.debts.now.tables.now o.new.self.tables.now c.args.given.now c.args.given.now zero_term c.constant-none.result c.args.listed c.rows.ensures refl c.constant-none.ensures o.ensures.paid)

pub returns-clause-kept : goal.returns-clause-kept
returns-clause-kept c = let o = c.owe_conditions in owed-kept c.args.self.now c.requires.sure o.new.self o.ensures.kept o.result _ o.ensures.paid
