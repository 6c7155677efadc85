use Rattle.std.proofs.Common.{◌≡◌, Err, Ok, map, List, Result, sym, refl, ap, ◌∙◌, subst, ap₂}
use Rattle.language.specs.declared.refusal.Refusal.{Refusal}
use Rattle.language.specs.Comparing.{condition_rows}
use Rattle.language.specs.Walking.{Known, assume, assume_all}
use Rattle.pile.specs.Entries.{entries}
use Rattle.records.specs.declared.condition.Condition.{Condition}
use Rattle.records.specs.Laying.{columns_of}
use Rattle.records.specs.Leaving.{left_of}
use Rattle.records.specs.Tables.{condition_in, conditions_in}
use Rattle.terms.specs.Listed.{list_of}
use Rattle.walking.specs.Knowing.{Took, placed}
use Rattle.walking.proofs.Taking.{Taking, taking_all, taking_turn, taking_break, taking-end, placed-at}
use Rattle.walking.proofs.Knowings.{refused}
use Rattle.walking.proofs.facts.Facts.assume_conditions.Goals as goal

pub loop-condition-init : goal.loop-condition-init
loop-condition-init c =
    let a = c.args in let p = columns_of a.conditions.tables.now in
    let e = ap (left_of (λ c. c.conditions)) c.into_iter-condition-iterator.ensures.into_iter_gives ∙ c.entries_of-condition-items.ensures in
    record { kept = record { room = refl }; taking = taking_all (placed a.place) a.conditions.terms.names.now a.conditions.terms.outcome.now p _ a.listed.from a.listed.to (entries a.self.now.pile) e }

pub loop-condition-preserved : goal.loop-condition-preserved
loop-condition-preserved c =
    let a = c.args in let p = columns_of a.conditions.tables.now in let ts = a.conditions.terms.names.now in let r = a.conditions.terms.outcome.now in let f = placed a.place in
    let d = condition_in p.items.entries c.in-Some.condition in
    let before = entries a.self.now.pile in let now = entries c.loop-condition.self.pile in let after = entries c.assume.new.self.pile in
    let k : assume c.unwrap_or-place.result now (list_of c.rows_of.result) ≡ assume (f d) now (condition_rows ts r d) = ap₂ (λ n xs. assume n now xs) (c.unwrap_or-place.ensures ∙ placed-at a.place d) c.rows_of.ensures in
    let whole = assume_all f ts r before (conditions_in p.items.entries p.conditions.entries a.listed.from a.listed.to) in
    let left = left_of (λ c. c.conditions) c.next.new.self in record {
      taking = taking_turn f ts r whole d (map (condition_in p.items.entries) left) before now after
          (subst (λ (cs : List Condition). Taking f ts r whole (map (condition_in p.items.entries) cs) before now) c.in-Some.ensures.steps c.loop-condition.invariant.taking)
          (subst (λ (x : Known). Took (Ok tt) x now after) k c.in_ok-assume.ensures.took);
      kept = record { room = c.assume.ensures.kept.room ∙ c.loop-condition.invariant.kept.room };
    }

pub returns-in_err-assume-clause-took : goal.returns-in_err-assume-clause-took
returns-in_err-assume-clause-took c =
    let a = c.args in let p = columns_of a.conditions.tables.now in let ts = a.conditions.terms.names.now in let r = a.conditions.terms.outcome.now in let f = placed a.place in let e = c.in_err-assume in
    let is = refused c.from_residual.result e.field-0.0 c.from_residual.ensures.1 in
    let d = condition_in p.items.entries c.in-Some.condition in
    let before = entries a.self.now.pile in let now = entries c.loop-condition.self.pile in let after = entries c.assume.new.self.pile in
    let k : assume c.unwrap_or-place.result now (list_of c.rows_of.result) ≡ assume (f d) now (condition_rows ts r d) = ap₂ (λ n xs. assume n now xs) (c.unwrap_or-place.ensures ∙ placed-at a.place d) c.rows_of.ensures in
    let whole = assume_all f ts r before (conditions_in p.items.entries p.conditions.entries a.listed.from a.listed.to) in
    let left = left_of (λ c. c.conditions) c.next.new.self in
    subst (λ (x : Result (Unit {0}) Refusal). Took x whole before after) (sym is)
    (taking_break f ts r whole e.field-0.0 d (map (condition_in p.items.entries) left) before now after
    (subst (λ (cs : List Condition). Taking f ts r whole (map (condition_in p.items.entries) cs) before now) c.in-Some.ensures.steps c.loop-condition.invariant.taking)
    (subst (λ (x : Known). Took (Err e.field-0.0) x now after) k e.ensures.took))

pub returns-clause-took : goal.returns-clause-took
returns-clause-took c =
    let a = c.args in let p = columns_of a.conditions.tables.now in let ts = a.conditions.terms.names.now in let r = a.conditions.terms.outcome.now in let f = placed a.place in
    let before = entries a.self.now.pile in let now = entries c.loop-condition.self.pile in
    let whole = assume_all f ts r before (conditions_in p.items.entries p.conditions.entries a.listed.from a.listed.to) in
    taking-end f ts r whole before now
    (subst (λ (cs : List Condition). Taking f ts r whole (map (condition_in p.items.entries) cs) before now) c.in-None.ensures.steps.0 c.loop-condition.invariant.taking)
