use Rattle.std.proofs.Common.{◌≡◌, ◌+◌, List, Option, Result, min, sym, refl, ap, ◌∙◌, subst, arith}
use Rattle.std.proofs.Math.Nat.{min-le_right}
use Rattle.rows.specs.declared.row.Row.{Row}
use Rattle.language.specs.declared.refusal.Refusal.{Refusal}
use Rattle.language.specs.Walking.{owe_all}
use Rattle.records.specs.Columns.{Columns}
use Rattle.records.specs.Laying.{columns_of, owed_of}
use Rattle.terms.specs.Listed.{list_of}
use Rattle.walking.specs.Owing.{Paid}
use Rattle.walking.specs.Sides.{RowsAt, rows_in}
use Rattle.walking.proofs.Going.{Going, going_none, going_turn, going_break, going-end, rows-here, rows-none, rows-as-far}
use Rattle.walking.proofs.Knowings.{refused}
use Rattle.walking.proofs.debts.Debts.owe_conditions.Goals as goal

pub loop-at-init : goal.loop-at-init
loop-at-init c =
    let a = c.args in let t = a.self.now.tables.now in let p = columns_of t in let ts = a.terms.names.now in let r = a.terms.outcome.now in
    let rows = rows_in p ts r a.listed.from c.min-end.result in
    let all : rows ≡ rows_in p ts r a.listed.from a.listed.to = ap (λ n. rows_in p ts r a.listed.from n) (c.min-end.ensures ∙ ap (min a.listed.to) c.count.ensures) ∙ sym (rows-as-far p ts r a.listed.from a.listed.to) in
    record { kept = record { lender = refl }; going = subst (λ xs. Going a.place a.facts.now (owe_all a.place a.facts.now (owed_of t) xs) rows t t) all (going_none a.place a.facts.now rows t) }

pub returns-in_err-owe_rows-clause-paid : goal.returns-in_err-owe_rows-clause-paid
returns-in_err-owe_rows-clause-paid c =
    let a = c.args in let t = a.self.now.tables.now in let u = c.loop-at.self.tables.now in let v = c.owe_rows.new.self.tables.now in let fs = a.facts.now in let ts = a.terms.names.now in let r = a.terms.outcome.now in let p = columns_of t in let e = c.in_err-owe_rows in
    let is = refused c.from_residual.result e.field-0.0 c.from_residual.ensures.1 in
    let g = c.loop-at.invariant.going in
    let rows = c.rows_at-rows.result in
    let at : RowsAt rows ts r p.items.entries p.conditions.entries c.loop-at.at = subst (λ (q : Columns). RowsAt rows ts r q.items.entries q.conditions.entries c.loop-at.at) g.paid.columns c.rows_at-rows.ensures in
    let whole = owe_all a.place fs (owed_of t) (rows_in p ts r a.listed.from a.listed.to) in
    let here = rows-here p ts r rows c.loop-at.at c.min-end.result c.loop-at-test.true (omega (arith, c.min-end.ensures, c.count.ensures, min-le_right a.listed.to c.count.result)) at in
    subst (λ (x : Result (Unit {0}) Refusal). Paid x whole t v) (sym is)
    (going_break a.place fs whole e.field-0.0 (list_of rows) (rows_in p ts r (c.loop-at.at + 1) c.min-end.result) t u v (subst (λ (xs : List (Option Row)). Going a.place fs whole xs t u) here g)
    e.ensures.paid)

pub loop-at-preserved : goal.loop-at-preserved
loop-at-preserved c =
    let a = c.args in let t = a.self.now.tables.now in let u = c.loop-at.self.tables.now in let v = c.owe_rows.new.self.tables.now in let fs = a.facts.now in let ts = a.terms.names.now in let r = a.terms.outcome.now in let p = columns_of t in
    let g = c.loop-at.invariant.going in
    let rows = c.rows_at-rows.result in
    let at : RowsAt rows ts r p.items.entries p.conditions.entries c.loop-at.at = subst (λ (q : Columns). RowsAt rows ts r q.items.entries q.conditions.entries c.loop-at.at) g.paid.columns c.rows_at-rows.ensures in
    let whole = owe_all a.place fs (owed_of t) (rows_in p ts r a.listed.from a.listed.to) in
    let here = rows-here p ts r rows c.loop-at.at c.min-end.result c.loop-at-test.true (omega (arith, c.min-end.ensures, c.count.ensures, min-le_right a.listed.to c.count.result)) at in
    record {
      going = going_turn a.place fs whole (list_of rows) (rows_in p ts r (c.loop-at.at + 1) c.min-end.result) t u v (subst (λ (xs : List (Option Row)). Going a.place fs whole xs t u) here g)
          c.in_ok-owe_rows.ensures.paid;
      kept = record { lender = c.owe_rows.ensures.kept.lender ∙ c.loop-at.invariant.kept.lender };
    }

pub returns-clause-paid : goal.returns-clause-paid
returns-clause-paid c =
    let a = c.args in let t = a.self.now.tables.now in let u = c.loop-at.self.tables.now in let fs = a.facts.now in let p = columns_of t in
    let whole = owe_all a.place fs (owed_of t) (rows_in p a.terms.names.now a.terms.outcome.now a.listed.from a.listed.to) in
    going-end a.place fs whole t u (subst (λ (xs : List (Option Row)). Going a.place fs whole xs t u) (rows-none p a.terms.names.now a.terms.outcome.now c.loop-at.at c.min-end.result c.loop-at-test.false) c.loop-at.invariant.going)
