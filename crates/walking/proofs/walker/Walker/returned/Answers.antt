use Rattle.std.proofs.Common.{Ok, Err, refl, sym, ap, ◌∙◌, subst}
use Rattle.language.specs.Terms.{fits_term}
use Rattle.language.proofs.Fitting.{quantity-fits}
use Rattle.records.specs.declared.laid.Laid.{Laid}
use Rattle.records.specs.Laying.{columns_of}
use Rattle.records.specs.Sound.{Sound}
use Rattle.walking.specs.Inferring.{listed_in}
use Rattle.walking.specs.Stepping.{facts_of}
use Rattle.walking.proofs.Finding.{under, found-with, refused-with, none-with, more-known, kept-next}
use Rattle.walking.proofs.Refusing.{finds-not}
use Rattle.walking.proofs.walker.Walker.returned.Goals as goal

pub returns-in_err-term-clause-finds : goal.returns-in_err-term-clause-finds
returns-in_err-term-clause-finds c =
    let w = c.args.self.now in let e = c.in_err-term in
    finds-not e.field-0.0 c.from_residual.result _ _ _ c.from_residual.ensures.1 (none-with c.args.place w c.requires.sure c.args.given.now (listed_in (columns_of w.debts.now.tables.now) c.args.listed) e.field-0.0 e.ensures.0)

pub invariant_of-terms : goal.invariant_of-terms
invariant_of-terms c = record {
  names_fit = c.requires.given;
  outcome_fits = ap fits_term c.in_ok-term.ensures.0 ∙ quantity-fits c.args.self.now.next;
}

pub invariant_of-conditions : goal.invariant_of-conditions
invariant_of-conditions c = record { sound = subst (λ (t : Laid). Sound (columns_of t)) (sym c.laid.ensures) c.requires.sure.sound }

pub returns-in_err-assume_conditions-clause-finds : goal.returns-in_err-assume_conditions-clause-finds
returns-in_err-assume_conditions-clause-finds c =
    let w = c.args.self.now in let e = c.in_err-assume_conditions in
    finds-not e.field-0.0 c.from_residual-in_err-assume_conditions.result _ _ _ c.from_residual-in_err-assume_conditions.ensures.1
    (refused-with c.args.place w c.requires.sure c.args.given.now (listed_in (columns_of w.debts.now.tables.now) c.args.listed) c.in_ok-term.term c.fresh.new.next c.in_ok-term.ensures w.facts.now e.field-0.0 (under (Err e.field-0.0) c.args.place c.args.given.now c.args.given.now c.in_ok-term.term w.debts.now.tables.now c.laid.result.now c.args.listed (facts_of w) _ refl c.laid.ensures e.ensures.took).0)

pub returns-clause-finds : goal.returns-clause-finds
returns-clause-finds c =
    let w = c.args.self.now in
    found-with c.args.place w c.requires.sure c.args.given.now (listed_in (columns_of w.debts.now.tables.now) c.args.listed) c.in_ok-term.term c.fresh.new.next c.in_ok-term.ensures c.assume_conditions.new.self (under (Ok tt) c.args.place c.args.given.now c.args.given.now c.in_ok-term.term w.debts.now.tables.now c.laid.result.now c.args.listed (facts_of w) _ refl c.laid.ensures c.in_ok-assume_conditions.ensures.took)

pub returns-clause-kept : goal.returns-clause-kept
returns-clause-kept c =
    let w = c.args.self.now in
    kept-next w c.fresh.new.next c.assume_conditions.new.self c.requires.sure (more-known c.args.place w c.requires.sure c.args.given.now (listed_in (columns_of w.debts.now.tables.now) c.args.listed) c.in_ok-term.term c.fresh.new.next c.in_ok-term.ensures c.assume_conditions.new.self (under (Ok tt) c.args.place c.args.given.now c.args.given.now c.in_ok-term.term w.debts.now.tables.now c.laid.result.now c.args.listed (facts_of w) _ refl c.laid.ensures c.in_ok-assume_conditions.ensures.took))

pub returns-clause-fits : goal.returns-clause-fits
returns-clause-fits c = ap fits_term c.in_ok-term.ensures.0 ∙ quantity-fits c.args.self.now.next
