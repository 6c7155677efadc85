use Rattle.std.proofs.Common.{Result, sym, ap, ◌∙◌, subst}
use Rattle.language.specs.declared.refusal.Refusal.{Refusal}
use Rattle.language.specs.Terms.{fits_term}
use Rattle.language.proofs.Fitting.{zero-fits}
use Rattle.pile.specs.Entries.{entries}
use Rattle.records.specs.Laying.{columns_of}
use Rattle.walking.specs.Inferring.{listed_in}
use Rattle.walking.specs.Knowing.{Took}
use Rattle.walking.specs.Starting.{needs_known}
use Rattle.walking.proofs.Knowings.{refused}
use Rattle.walking.proofs.Needing.{needs_first, needs_next}
use Rattle.walking.proofs.rules.start_facts.Goals as goal

pub returns-in_err-assume_lengths : goal.returns-in_err-assume_lengths
returns-in_err-assume_lengths c =
    let a = c.args in let before = entries a.facts.now.pile in let here = entries c.assume_lengths.new.facts.pile in let e = c.in_err-assume_lengths in let cs = listed_in (columns_of a.tables.now) a.entry.needs in record {
      took = subst (λ (r : Result (Unit {0}) Refusal). Took r (needs_known a.entry.place before a.names.now a.lengths.now cs) before here) (sym (refused c.from_residual.result e.field-0.0 c.from_residual.ensures.1))
          (needs_first a.entry.place before a.names.now a.lengths.now cs e.field-0.0 here e.ensures.took);
    }

pub invariant_of-terms : goal.invariant_of-terms
invariant_of-terms c = record { names_fit = c.requires.fits; outcome_fits = ap fits_term c.constant-none.ensures ∙ zero-fits }

pub returns : goal.returns
returns c =
    let a = c.args in let before = entries a.facts.now.pile in let here = entries c.assume_lengths.new.facts.pile in let after = entries c.assume_conditions.new.self.pile in let cs = listed_in (columns_of a.tables.now) a.entry.needs in
    record { took = needs_next a.entry.place before a.names.now a.lengths.now cs c.assume_conditions.result c.constant-none.result here after c.constant-none.ensures c.in_ok-assume_lengths.ensures.took c.assume_conditions.ensures.took }
