use Rattle.std.proofs.Common.{rules, ◌≡◌, ◌∷◌, [], map, sym, ap, ◌∙◌, subst, arith, None, ◌+◌, ◌++◌, w32, to_z, of_z}
use Rattle.language.specs.Entering.{gathered}
use Rattle.language.specs.Tree.{a_number, a_list}
use Rattle.pile.specs.Entries.{entries}
use Rattle.records.specs.Columns.{params_in}
use Rattle.records.specs.Tables.{stretch, param_of}
use Rattle.records.proofs.Stretches.{cut}
use Rattle.entering.specs.Gathering.{Gathered}
use Rattle.entering.proofs.Ends.{ended, past}
use Rattle.entering.proofs.Gathers.{no_number, one_number, no_part, one_part}
use Rattle.entering.proofs.gathering.+gather.Goals as goal

pub returns-then-at-to-clause-gathers : goal.returns-then-at-to-clause-gathers
returns-then-at-to-clause-gathers t c =
    let a = c.args in
    subst (λ ps. Gathered c.none_left.result (gathered (map param_of ps) a.numbers.now a.parts.now) a.parts.now (entries a.into.now) (entries a.into.now)) (sym (ended (params_in a.records.now) a.at a.to (omega (arith, c.if-at-to.true)))) (c.none_left.ensures (entries a.into.now))

pub returns-in_default-clause-gathers : goal.returns-in_default-clause-gathers
returns-in_default-clause-gathers t c =
    let a = c.args in
    subst (λ ps. Gathered c.none_left-in_default.result (gathered (map param_of ps) a.numbers.now a.parts.now) a.parts.now (entries a.into.now) (entries a.into.now)) (sym (past (params_in a.records.now) a.at a.to (sym c.param_at.ensures ∙ c.in_default.is))) (c.none_left-in_default.ensures (entries a.into.now))

pub returns-in_err-number-in-Number-clause-gathers : goal.returns-in_err-number-in-Number-clause-gathers
returns-in_err-number-in-Number-clause-gathers t c =
    let a = c.args in let ps = params_in a.records.now in let rest = map param_of (stretch ps (a.at + 1) a.to) in
    let e : map param_of (stretch ps a.at a.to) ≡ a_number ∷ rest = ap (map param_of) (cut ps a.at a.to c.in-Some.param (omega (arith, c.if-at-to.false)) (sym c.param_at.ensures ∙ c.in-Some.is)) ∙ ap (λ p. param_of p ∷ rest) c.in-Number.is in
    subst (λ r. Gathered r (gathered (map param_of (stretch ps a.at a.to)) a.numbers.now a.parts.now) a.parts.now (entries a.into.now) (entries a.into.now)) (sym c.from_residual.ensures)
    (subst (λ qs. Gathered None (gathered qs a.numbers.now a.parts.now) a.parts.now (entries a.into.now) (entries a.into.now)) (sym e)
    (no_number a.parts.now rest (entries a.into.now) a.numbers.now c.in_err-number-in-Number.ensures.cases (entries a.into.now)))

pub returns-in_err-part-in-List-clause-gathers : goal.returns-in_err-part-in-List-clause-gathers
returns-in_err-part-in-List-clause-gathers t c =
    let a = c.args in let ps = params_in a.records.now in let rest = map param_of (stretch ps (a.at + 1) a.to) in
    let e : map param_of (stretch ps a.at a.to) ≡ a_list ∷ rest = ap (map param_of) (cut ps a.at a.to c.in-Some.param (omega (arith, c.if-at-to.false)) (sym c.param_at.ensures ∙ c.in-Some.is)) ∙ ap (λ p. param_of p ∷ rest) c.in-List.is in
    subst (λ r. Gathered r (gathered (map param_of (stretch ps a.at a.to)) a.numbers.now a.parts.now) a.parts.now (entries a.into.now) (entries a.into.now)) (sym c.from_residual-in_err-part-in-List.ensures)
    (subst (λ qs. Gathered None (gathered qs a.numbers.now a.parts.now) a.parts.now (entries a.into.now) (entries a.into.now)) (sym e)
    (no_part a.numbers.now rest (entries a.into.now) a.parts.now c.in_err-part-in-List.ensures.cases (entries a.into.now)))

pub returns-in_ok-number-in-Number-clause-gathers : goal.returns-in_ok-number-in-Number-clause-gathers
returns-in_ok-number-in-Number-clause-gathers t c =
    let a = c.args in let ps = params_in a.records.now in let rest = map param_of (stretch ps (a.at + 1) a.to) in
    let e : map param_of (stretch ps a.at a.to) ≡ a_number ∷ rest = ap (map param_of) (cut ps a.at a.to c.in-Some.param (omega (arith, c.if-at-to.false)) (sym c.param_at.ensures ∙ c.in-Some.is)) ∙ ap (λ p. param_of p ∷ rest) c.in-Number.is in
    let x = c.in_ok-number-in-Number.number.now in let nx : to_z w32 (of_z w32 x) ≡ x = search rules in
    subst (λ qs. Gathered c.gather.result (gathered qs a.numbers.now a.parts.now) a.parts.now (entries a.into.now) (entries c.gather.new.into)) (sym e)
    (one_number a.parts.now rest (entries a.into.now) a.numbers.now c.in_ok-number-in-Number.rest.now c.in_ok-number-in-Number.number.now c.in_ok-number-in-Number.ensures.cases.0 (entries c.put.new.into) (entries c.gather.new.into) (c.put.ensures.held ∙ ap (λ x. entries a.into.now ++ x ∷ []) nx) c.gather.result c.gather.ensures.gathers)

pub returns-in_ok-part-in-List-clause-gathers : goal.returns-in_ok-part-in-List-clause-gathers
returns-in_ok-part-in-List-clause-gathers t c =
    let a = c.args in let ps = params_in a.records.now in let rest = map param_of (stretch ps (a.at + 1) a.to) in
    let e : map param_of (stretch ps a.at a.to) ≡ a_list ∷ rest = ap (map param_of) (cut ps a.at a.to c.in-Some.param (omega (arith, c.if-at-to.false)) (sym c.param_at.ensures ∙ c.in-Some.is)) ∙ ap (λ p. param_of p ∷ rest) c.in-List.is in
    let x = c.length_of.result in let nx : to_z w32 (of_z w32 x) ≡ x = search rules in
    subst (λ qs. Gathered c.gather-in-List.result (gathered qs a.numbers.now a.parts.now) a.parts.now (entries a.into.now) (entries c.gather-in-List.new.into)) (sym e)
    (one_part a.numbers.now rest (entries a.into.now) a.parts.now c.in_ok-part-in-List.rest.now c.in_ok-part-in-List.part.now c.in_ok-part-in-List.ensures.cases.0 c.length_of.result c.length_of.ensures (entries c.put-in-List.new.into) (entries c.gather-in-List.new.into) (c.put-in-List.ensures.held ∙ ap (λ x. entries a.into.now ++ x ∷ []) nx) c.gather-in-List.result c.gather-in-List.ensures.gathers)
