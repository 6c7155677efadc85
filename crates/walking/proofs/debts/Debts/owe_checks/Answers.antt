use Rattle.std.proofs.Common.{Err, Result, Option, pos, sym, ap, ◌∙◌, subst}
use Rattle.rows.specs.declared.row.Row.{Row}
use Rattle.language.specs.declared.check.Check.TheVariants.{Below, Above}
use Rattle.language.specs.declared.duty.Duty.TheVariants.{Check}
use Rattle.language.specs.declared.refusal.Refusal.{Refusal}
use Rattle.language.specs.declared.term.Term.{Term}
use Rattle.language.specs.Terms.{zero_term}
use Rattle.language.specs.Comparing.{at_most}
use Rattle.language.specs.Walking.{Owing, owe}
use Rattle.walking.specs.Owing.{Pays, Paid, checks}
use Rattle.walking.proofs.Owings.{both-checks, paid-then, breaks-first}
use Rattle.walking.proofs.Knowings.{refused}
use Rattle.records.specs.Laying.{owed_of}
use Rattle.walking.proofs.debts.Debts.owe_checks.Goals as goal

pub returns-in_err-owe-clause-paid : goal.returns-in_err-owe-clause-paid
returns-in_err-owe-clause-paid c =
    let a = c.args in let t = a.self.now.tables.now in let u = c.owe.new.self.tables.now in let e = c.in_err-owe in let fs = a.facts.now in
    let is = refused c.from_residual.result e.field-0.0 c.from_residual.ensures.1 in
    let first = c.at_most.ensures ∙ ap (λ (z : Term). at_most (pos 0) z a.index.now) c.constant.ensures in
    subst (λ (r : Result (Unit {0}) Refusal). Paid r (checks a.place a.work fs (owed_of t) a.index.now a.size.now) t u) (sym is)
    (subst (λ (o : Owing). Paid (Err e.field-0.0) o t u) (sym (both-checks a.place a.work fs (owed_of t) a.index.now a.size.now))
    (breaks-first e.field-0.0 _ _ t u (subst (λ (o : Option Row). Paid (Err e.field-0.0) (owe (Check Below) a.place a.work fs (owed_of t) o) t u) first e.ensures.paid)))

pub returns-clause-paid : goal.returns-clause-paid
returns-clause-paid c =
    let a = c.args in let t = a.self.now.tables.now in let u = c.owe.new.self.tables.now in let two = c.owe-2 in let v = two.new.self.tables.now in let fs = a.facts.now in
    let first = c.at_most.ensures ∙ ap (λ (z : Term). at_most (pos 0) z a.index.now) c.constant.ensures in
    let o = owe (Check Below) a.place a.work fs (owed_of t) (at_most (pos 0) zero_term a.index.now) in
    let one : Pays o t u = subst (λ (x : Option Row). Pays (owe (Check Below) a.place a.work fs (owed_of t) x) t u) first c.in_ok-owe.ensures.paid in
    subst (λ (o : Owing). Paid two.result o t v) (sym (both-checks a.place a.work fs (owed_of t) a.index.now a.size.now))
    (paid-then two.result o (owe (Check Above) a.place a.work fs o.count (at_most (pos 1) a.index.now a.size.now)) t u v one
    (subst (λ n. Paid two.result (owe (Check Above) a.place a.work fs n (at_most (pos 1) a.index.now a.size.now)) u v) one.count (subst (λ (x : Option Row). Paid two.result (owe (Check Above) a.place a.work fs (owed_of u) x) u v) c.below.ensures two.ensures.paid)))
