use Rattle.std.proofs.Common.{◌≡◌, ◌≤◌, List, length, Some, Err, sym, refl, ap, ◌∙◌, subst, arith}
use Rattle.std.proofs.lemmas.Result.{err_from_is_err_and}
use Rattle.naming.specs.Sources.{rules_of}
use Rattle.records.specs.declared.record.Record.{Record}
use Rattle.records.specs.Columns.{Columns}
use Rattle.records.specs.Laying.{columns_of}
use Rattle.counting.proofs.Flat.{flat-fault}
use Rattle.resolving.specs.Resolving as Resolving
use Rattle.walking.specs.Walked.{WalkedWell}
use Rattle.reading.specs.Reading.{walk_fault}
use Rattle.reading.specs.Answers.{walked, Holds, misnamed, too_many, unwalkable}
use Rattle.reading.proofs.Sheets.{light, ample, refusal-checked}
use Rattle.reading.proofs.Walked.{ruled, holds}
use Rattle.reading.proofs.stages.names_to_walk.Goals as goal

pub returns-in-Some : goal.returns-in-Some
returns-in-Some c = misnamed (sym c.in-Some.ensures)

pub resolve-requires-clause-ample : goal.resolve-requires-clause-ample
resolve-requires-clause-ample c = ample _ (length c.args.records.now) _ (columns_of c.over-tables.result) c.over-tables.ensures.columns (light c.args.sheet c.requires.derived) c.requires.ample

pub returns-in-Some-count_fault : goal.returns-in-Some-count_fault
returns-in-Some-count_fault c =
    let w = c.args.sheet in let p = columns_of c.resolve.new.tables in let m = c.resolve.ensures.made in
    too_many (sym c.in_default.ensures) (sym (c.in-Some-count_fault.ensures.value ∙ flat-fault (length w.text.now) (rules_of w) (Resolving.sheet_of w.text.now (rules_of w)) p.nodes.entries p.conditions.entries m.exprs m.claims))

pub walk-requires-clause-sound : goal.walk-requires-clause-sound
walk-requires-clause-sound c =
    let w = c.args.sheet in let m = c.resolve.ensures.made in let l = light w c.requires.derived in
    record { items = record { few = omega (arith, m.items); near = m.fair.factors }; sides = m.fair.sides }

pub walk-requires-clause-few : goal.walk-requires-clause-few
walk-requires-clause-few c =
    let w = c.args.sheet in let m = c.resolve.ensures.made in let l = light w c.requires.derived in
    omega (arith, m.nodes)

pub returns-in_err-walk : goal.returns-in_err-walk
returns-in_err-walk c =
    let w = c.args.sheet in let p = columns_of c.resolve.new.tables in let m = c.resolve.ensures.made in let rules = Resolving.sheet_of w.text.now (rules_of w) in
    let k = c.in_default-count_fault.ensures in let d = c.in_err-walk.field-0.0 in
    let counted = sym (k.value ∙ flat-fault (length w.text.now) (rules_of w) rules p.nodes.entries p.conditions.entries m.exprs m.claims) in
    let fault : walk_fault rules ≡ Some d = c.in_err-walk.ensures.walked rules (ruled w p m (k.within refl)) in
    let given = err_from_is_err_and c.from_residual.result c.from_residual.ensures.1 in
    refusal-checked c.from_residual.result d w.text.now (rules_of w) _ (given.1 ∙ ap Err given.2) (unwalkable (sym c.in_default.ensures) counted fault)

pub returns : goal.returns
returns c =
    let w = c.args.sheet in let p = columns_of c.resolve.new.tables in let m = c.resolve.ensures.made in let rules = Resolving.sheet_of w.text.now (rules_of w) in
    let k = c.in_default-count_fault.ensures in let t = c.resolve.new.tables in let u = c.walk.new.tables in
    let well : WalkedWell rules t u = c.in_ok-walk.ensures.walked rules (ruled w p m (k.within refl)) in
    let few = let l = light w c.requires.derived in let z : length p.nodes.entries ≤ 16384 = omega (arith, m.nodes) in z in
    let lent = sym (well.lender ∙ c.resolve.ensures.rooms.lender ∙ ap (λ (p : Columns). p.lender) c.over-tables.ensures.columns) in record {
      named = sym c.in_default.ensures;
      counted = sym (k.value ∙ flat-fault (length w.text.now) (rules_of w) rules p.nodes.entries p.conditions.entries m.exprs m.claims);
      faultless = well.faultless;
      holds = λ low high. subst (λ (rs : List Record). Holds rs (record { rules = c.count.result; owed = c.owed.result }) (walked low high rules)) (sym (c.records-2-1.given.1.1 lent)) (holds t u rules _ low high well (ruled w p m (k.within refl)) few c.count.ensures c.owed.ensures);
    }
