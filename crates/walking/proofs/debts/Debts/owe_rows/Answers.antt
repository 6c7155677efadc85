use Rattle.std.proofs.Common.{List, Err, Ok, Option, Result, sym, ◌∙◌, subst}
use Rattle.rows.specs.declared.row.Row.{Row}
use Rattle.language.specs.declared.refusal.Refusal.{Refusal}
use Rattle.language.specs.Walking.{owe_all}
use Rattle.records.specs.Laying.{owed_of}
use Rattle.terms.specs.Listed.{list_of, left_of}
use Rattle.walking.specs.Owing.{Paid}
use Rattle.walking.proofs.Owings.{owed-none, owed-then, owed-stop}
use Rattle.walking.proofs.Knowings.{refused}
use Rattle.walking.proofs.debts.Debts.owe_rows.Goals as goal

pub loop-row-preserved : goal.loop-row-preserved
loop-row-preserved c =
    let a = c.args in let fs = a.facts.now in let u = c.loop-row.self.tables.now in let v = c.owe.new.self.tables.now in let row = c.in-Some.row in let i = c.loop-row.invariant in
    let one = c.in_ok-owe.ensures.paid in record {
      paid = λ r w p. i.paid r w (subst (λ (rs : List (Option Row)). Paid r (owe_all a.place fs (owed_of u) rs) u w) (sym c.in-Some.ensures.steps)
          (owed-then a.place fs r row (left_of c.next.new.self) u v w one p));
      kept = record { lender = c.owe.ensures.kept.lender ∙ i.kept.lender };
    }

pub returns-in_err-owe-clause-paid : goal.returns-in_err-owe-clause-paid
returns-in_err-owe-clause-paid c =
    let a = c.args in let t = a.self.now.tables.now in let fs = a.facts.now in let u = c.loop-row.self.tables.now in let v = c.owe.new.self.tables.now in let row = c.in-Some.row in let i = c.loop-row.invariant in let e = c.in_err-owe in
    let is = refused c.from_residual.result e.field-0.0 c.from_residual.ensures.1 in
    subst (λ (r : Result (Unit {0}) Refusal). Paid r (owe_all a.place fs (owed_of t) (list_of a.rows)) t v) (sym is)
    (i.paid (Err e.field-0.0) v (subst (λ (rs : List (Option Row)). Paid (Err e.field-0.0) (owe_all a.place fs (owed_of u) rs) u v) (sym c.in-Some.ensures.steps)
    (owed-stop a.place fs e.field-0.0 row (left_of c.next.new.self) u v e.ensures.paid)))

pub returns-clause-paid : goal.returns-clause-paid
returns-clause-paid c =
    let a = c.args in let fs = a.facts.now in let u = c.loop-row.self.tables.now in
    c.loop-row.invariant.paid (Ok tt) u (subst (λ (rs : List (Option Row)). Paid (Ok tt) (owe_all a.place fs (owed_of u) rs) u u) (sym c.in-None.ensures.steps.0) (owed-none a.place fs u))
