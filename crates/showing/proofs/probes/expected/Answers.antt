use Rattle.std.proofs.Common.{◌+◌, List, length, take, sym, subst}
use Rattle.std.proofs.lemmas.List.{length-take-le}
use Rattle.letters.specs.declared.token.Token.{Token}
use Rattle.letters.proofs.Running.{run-passes}
use Rattle.grammar.specs.Parsers.{look_in}
use Rattle.showing.specs.Kinds.{among}
use Rattle.showing.specs.Probes.{elsewhere, Apart, probed, Tells}
use Rattle.showing.proofs.probes.expected.Goals as goal

pub invariant_of-probe-clause-apart : goal.invariant_of-probe-clause-apart
invariant_of-probe-clause-apart c =
    subst (λ (ts : List Token). Apart ts c.args.place) (sym c.piled.ensures.held)
    (subst (λ n. Apart (take n c.args.tokens.now) c.args.place) (sym c.number_at-at.ensures.told) (run-passes (elsewhere c.args.place) c.args.tokens.now))

pub returns : goal.returns
returns c k =
    let w = c.args.place in
    let ts = c.args.tokens.now in
    let n = c.number_at-at.result in
    let kinds = c.each_kind.result in
    let tells = subst (λ (xs : List Token). Tells (among kinds k) (look_in (probed xs w k) (w + 1)) (length xs)) c.piled.ensures.held (c.each_kind.ensures k) in
    let tells_at = subst (Tells (among kinds k) (look_in (probed (take n ts) w k) (w + 1))) (length-take-le n ts c.number_at-at.ensures.within) tells in
    subst (λ m. Tells (among kinds k) (look_in (probed (take m ts) w k) (w + 1)) m) c.number_at-at.ensures.told tells_at
