use Rattle.std.proofs.Common.{rules, ◌≡◌, ◌≤◌, length, map, sym, ap, ◌∙◌, subst, arith}
use Rattle.std.proofs.Props.{props}
use Rattle.std.proofs.Math.Logic.{∥∥₁_elim, ∥∥₁_map}
use Rattle.language.specs.Entering.{gathered, first_broken}
use Rattle.pile.specs.Entries.{entries, room}
use Rattle.records.specs.Columns.{tables_in, params_in}
use Rattle.records.specs.Tables.{stretch, param_of, conditions_in}
use Rattle.running.specs.Ruling.{RuleRuns, Answers}
use Rattle.entering.specs.Gathering.{Gathered}
use Rattle.entering.proofs.Inputs.{params_few, needs_few, parts_short, short_at, unmet, runs, ends}
use Rattle.entering.proofs.entry.enter.Goals as goal

pub gather-requires : goal.gather-requires
gather-requires c =
    let a = c.args in
    let n : room c.over-values.result ≡ 12 = search rules in
    ∥∥₁_elim c.requires (hlevel props) (λ k.
    let few = params_few a.program a.rules k.0 k.1 a.rule c.if-rule-rules.false c.in-Some.entry (sym c.entry_at.ensures ∙ c.in-Some.is) in
    omega (arith, n, few, ap length c.over-values.ensures.empty))

pub first_broken-broken-requires : goal.first_broken-broken-requires
first_broken-broken-requires c =
    let a = c.args in
    ∥∥₁_elim c.requires (hlevel props) (λ k.
    let few = needs_few a.program a.rules k.0 k.1 a.rule c.if-rule-rules.false c.in-Some.entry (sym c.entry_at.ensures ∙ c.in-Some.is) in
    omega (arith, few))

pub returns-in-Some-broken : goal.returns-in-Some-broken
returns-in-Some-broken c sheet k =
    let a = c.args in let e = c.in-Some.entry in let old = c.over-values.result in let new = c.gather.new.into in let t = tables_in a.program.records.now in
    let taken = gathered (map param_of (stretch (params_in a.program.records.now) e.params.from e.params.to)) a.numbers.now a.parts.now in
    let found = sym c.entry_at.ensures ∙ c.in-Some.is in
    let g = subst (λ r. Gathered r taken a.parts.now (entries old) (entries new)) c.in-Some-gather.is c.gather.ensures.gathers in
    unmet a.program a.rules sheet k a.rule a.fuel a.numbers.now a.parts.now a.cells.now c.if-rule-rules.false e found (entries old) (entries new) c.over-values.ensures.empty g (search rules) c.in-Some-broken.named
    (ap (λ vs. first_broken 0 vs (conditions_in t.items t.conditions e.needs.from e.needs.to)) (sym c.as_slice.ensures) ∙ sym c.first_broken-broken.ensures ∙ c.in-Some-broken.is)

pub run_rule-requires-clause-runs : goal.run_rule-requires-clause-runs
run_rule-requires-clause-runs c =
    let a = c.args in let e = c.in-Some.entry in let old = c.over-values.result in let new = c.gather.new.into in let t = tables_in a.program.records.now in
    let taken = gathered (map param_of (stretch (params_in a.program.records.now) e.params.from e.params.to)) a.numbers.now a.parts.now in
    let found = sym c.entry_at.ensures ∙ c.in-Some.is in
    let g = subst (λ r. Gathered r taken a.parts.now (entries old) (entries new)) c.in-Some-gather.is c.gather.ensures.gathers in
    ∥∥₁_map c.requires (λ k. subst (λ vs. RuleRuns a.program a.rule vs a.parts.now a.fuel a.cells.now) (sym c.as_slice-2.ensures)
    (runs a.program a.rules k.0 k.1 a.rule a.fuel a.numbers.now a.parts.now a.cells.now c.if-rule-rules.false e found (entries old) (entries new) c.over-values.ensures.empty g (search rules)
    (ap (λ vs. first_broken 0 vs (conditions_in t.items t.conditions e.needs.from e.needs.to)) (sym c.as_slice.ensures) ∙ sym c.first_broken-broken.ensures ∙ c.in_default-broken.is)))

pub run_rule-requires-clause-short : goal.run_rule-requires-clause-short
run_rule-requires-clause-short c = let a = c.args in short_at a.parts.now (parts_short a.program.low a.program.high a.fuel a.numbers.now a.parts.now a.cells.now (search rules))

pub run_rule-requires-clause-room : goal.run_rule-requires-clause-room
run_rule-requires-clause-room c =
    let n : room c.over-values.result ≡ 12 = search rules in
    let l : length (entries c.gather.new.into) ≤ room c.gather.new.into = search rules in
    omega (arith, n, l, c.gather.ensures.room, ap length c.as_slice-2.ensures)

pub returns : goal.returns
returns c sheet k =
    let a = c.args in let e = c.in-Some.entry in let old = c.over-values.result in let new = c.gather.new.into in let t = tables_in a.program.records.now in
    let taken = gathered (map param_of (stretch (params_in a.program.records.now) e.params.from e.params.to)) a.numbers.now a.parts.now in
    let found = sym c.entry_at.ensures ∙ c.in-Some.is in
    let g = subst (λ r. Gathered r taken a.parts.now (entries old) (entries new)) c.in-Some-gather.is c.gather.ensures.gathers in
    ends a.program a.rules sheet k a.rule a.fuel a.numbers.now a.parts.now a.cells.now c.if-rule-rules.false e found (entries old) (entries new) c.over-values.ensures.empty g (search rules)
    (ap (λ vs. first_broken 0 vs (conditions_in t.items t.conditions e.needs.from e.needs.to)) (sym c.as_slice.ensures) ∙ sym c.first_broken-broken.ensures ∙ c.in_default-broken.is)
    c.run_rule.result c.run_rule.new.cells
    (subst (λ vs. Answers c.run_rule.result c.run_rule.new.cells a.program a.rule vs a.parts.now a.fuel a.cells.now) c.as_slice-2.ensures c.run_rule.ensures)
