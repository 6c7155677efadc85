use Rattle.std.proofs.Common.{List, Err, Ok, Option, Result, sym, ◌∙◌, subst}
use Rattle.rows.specs.declared.row.Row.{Row}
use Rattle.language.specs.declared.refusal.Refusal.{Refusal}
use Rattle.language.specs.Walking.{assume}
use Rattle.pile.specs.Entries.{entries}
use Rattle.terms.specs.Listed.{list_of, left_of}
use Rattle.walking.specs.Knowing.{Took}
use Rattle.walking.proofs.Knowings.{refused, took-none, took-stop, took-then, one-more}
use Rattle.walking.proofs.facts.Facts.assume.Goals as goal

pub loop-row-preserved : goal.loop-row-preserved
loop-row-preserved c =
    let p = c.args.place in let now = entries c.loop-row.self.pile in let here = entries c.assume_row.new.self.pile in let row = c.in-Some.row in
    let one = c.in_ok-assume_row.ensures.took in let m = one-more p now row in let i = c.loop-row.invariant in record {
      took = λ r after t. i.took r after (subst (λ (rs : List (Option Row)). Took r (assume p now rs) now after) (sym c.in-Some.ensures.steps)
          (took-then p now _ r row (left_of c.next.new.self) here after (m.0, one.1 ∙ m.1) one t));
      kept = record { room = c.assume_row.ensures.kept.room ∙ i.kept.room };
    }

pub returns-in_err-assume_row-clause-took : goal.returns-in_err-assume_row-clause-took
returns-in_err-assume_row-clause-took c =
    let p = c.args.place in let before = entries c.args.self.now.pile in let now = entries c.loop-row.self.pile in let here = entries c.assume_row.new.self.pile in let e = c.in_err-assume_row in
    let is = refused c.from_residual.result e.field-0.0 c.from_residual.ensures.1 in
    subst (λ (r : Result (Unit {0}) Refusal). Took r (assume p before (list_of c.args.rows)) before here) (sym is)
    (c.loop-row.invariant.took (Err e.field-0.0) here (subst (λ (rs : List (Option Row)). Took (Err e.field-0.0) (assume p now rs) now here) (sym c.in-Some.ensures.steps)
    (took-stop p now e.field-0.0 c.in-Some.row (left_of c.next.new.self) here e.ensures.took)))

pub returns-clause-took : goal.returns-clause-took
returns-clause-took c =
    let p = c.args.place in let now = entries c.loop-row.self.pile in
    c.loop-row.invariant.took (Ok tt) now (subst (λ (rs : List (Option Row)). Took (Ok tt) (assume p now rs) now now) (sym c.in-None.ensures.steps.0) (took-none p now))
