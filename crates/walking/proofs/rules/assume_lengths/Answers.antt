use Rattle.std.proofs.Common.{[], Err, Ok, pos, Result, sym, subst}
use Rattle.language.specs.declared.refusal.Refusal.{Refusal}
use Rattle.language.specs.declared.term.Term.{Term}
use Rattle.pile.specs.Entries.{entries}
use Rattle.walking.specs.Knowing.{Took}
use Rattle.walking.specs.Starting.{lengths_known}
use Rattle.walking.proofs.Knowings.{refused}
use Rattle.walking.proofs.Needing.{lengths_turn, lengths_stop, lengths_done}
use Rattle.walking.proofs.rules.assume_lengths.Goals as goal

abbrev none : Term
none = record { constant = pos 0; coefs = [] }

pub loop-length-preserved : goal.loop-length-preserved
loop-length-preserved c =
    let a = c.args in let l = c.loop-length in let here = entries c.assume.new.self.pile in record {
      took = λ r after t. l.invariant.took r after (lengths_turn a.place a.lengths.now l.length-index (entries l.facts.pile) none c.constant-none.result c.at_most.result r here after c.loop-length-test.true c.constant-none.ensures c.at_most.ensures c.in_ok-assume.ensures.took t);
      none = l.invariant.none;
    }

pub returns-in_err-assume : goal.returns-in_err-assume
returns-in_err-assume c =
    let a = c.args in let l = c.loop-length in let here = entries c.assume.new.self.pile in let e = c.in_err-assume in let before = entries a.facts.now.pile in
    record {
      took = subst (λ (r : Result (Unit {0}) Refusal). Took r (lengths_known a.place before a.lengths.now) before here) (sym (refused c.from_residual.result e.field-0.0 c.from_residual.ensures.1))
          (l.invariant.took (Err e.field-0.0) here (lengths_stop a.place a.lengths.now l.length-index (entries l.facts.pile) none c.constant-none.result c.at_most.result e.field-0.0 here c.loop-length-test.true c.constant-none.ensures c.at_most.ensures e.ensures.took));
    }

pub returns : goal.returns
returns c =
    let a = c.args in let l = c.loop-length in let now = entries l.facts.pile in
    record { took = l.invariant.took (Ok tt) now (lengths_done a.place a.lengths.now l.length-index now c.loop-length-test.false) }
