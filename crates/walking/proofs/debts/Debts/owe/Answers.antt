use Rattle.std.proofs.Common.{◌≡◌, ◌<◌, ◌≤◌, true, length, Option, Result, Some, None, is_ok, sym, ◌∙◌, subst, arith}
use Rattle.rows.specs.declared.row.Row.{Row}
use Rattle.language.specs.declared.refusal.Refusal.{Refusal}
use Rattle.language.specs.declared.refusal.Refusal.TheVariants.{Full, Large}
use Rattle.language.specs.Walking.{owe}
use Rattle.records.specs.Added.{PutIf, OnePut}
use Rattle.walking.specs.Owing.{Pays, Paid, Breaks}
use Rattle.walking.proofs.Knowings.{went_well, refused_as}
use Rattle.walking.proofs.Owings.{owe-none, owe-full, before-none, before-full, breaks-here, has_room, pays-one}
use Rattle.records.specs.Laying.{records_of, owed_of}
use Rattle.walking.proofs.debts.Debts.owe.Goals as goal

pub returns-in_err-row-clause-paid : goal.returns-in_err-row-clause-paid
returns-in_err-row-clause-paid c =
    let a = c.args in let t = a.self.now.tables.now in let fs = a.facts.now in
    let is = refused_as a.row (Large a.work) _ _ c.from_residual.ensures.1 c.in_err-row.ensures.value c.in_err-row.ensures.ok_part in
    subst (λ (r : Result (Unit {0}) Refusal). Paid r (owe a.duty a.place a.work fs (owed_of t) a.row) t t) (sym is)
    (subst (λ (o : Option Row). Breaks (Large a.work) (owe a.duty a.place a.work fs (owed_of t) o).notes t t) (sym c.in_err-row.ensures.ok_part)
    (breaks-here (Large a.work) (owe a.duty a.place a.work fs (owed_of t) None).notes t (owe-none a.duty a.place a.work fs (owed_of t)) (before-none a.duty a.place a.work fs (owed_of t))))

pub returns-then-owed-ge-MOST_OBLIGATIONS-clause-paid : goal.returns-then-owed-ge-MOST_OBLIGATIONS-clause-paid
returns-then-owed-ge-MOST_OBLIGATIONS-clause-paid c =
    let a = c.args in let t = a.self.now.tables.now in let fs = a.facts.now in let e = c.owed.ensures in let row = c.in_ok-row.row in
    let full : 128 ≤ owed_of t = omega (arith, c.if-owed-ge-MOST_OBLIGATIONS.true) in
    subst (λ (o : Option Row). Breaks (Full a.work) (owe a.duty a.place a.work fs (owed_of t) o).notes t t) (sym c.in_ok-row.ensures.ok_part)
    (breaks-here (Full a.work) (owe a.duty a.place a.work fs (owed_of t) (Some row)).notes t (owe-full a.duty a.place a.work fs (owed_of t) row full) (before-full a.duty a.place a.work fs (owed_of t) row full))

pub returns-clause-paid : goal.returns-clause-paid
returns-clause-paid c =
    let a = c.args in let t = a.self.now.tables.now in let fs = a.facts.now in let u = c.owe.new.self in let e = c.owed.ensures in let row = c.in_ok-row.row in
    let h : owed_of t < 128 = omega (arith, c.if-owed-ge-MOST_OBLIGATIONS.false) in
    let yes : is_ok c.owe.result ≡ true = c.owe.ensures.value ∙ has_room (length (records_of t)) (owed_of t) (length fs) a.self.now.spacious c.requires h in
    let put : OnePut t u a.duty a.place fs row = subst (λ b. PutIf b t u a.duty a.place fs row) yes c.owe.ensures.put in
    subst (λ (r : Result (Unit {0}) Refusal). Paid r (owe a.duty a.place a.work fs (owed_of t) a.row) t u) (sym (went_well c.map_err.result (c.map_err.ensures.variant ∙ yes)))
    (subst (λ (o : Option Row). Pays (owe a.duty a.place a.work fs (owed_of t) o) t u) (sym c.in_ok-row.ensures.ok_part) (pays-one t u a.duty a.place a.work fs row h put))
