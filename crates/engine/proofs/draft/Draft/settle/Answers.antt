use Rattle.std.proofs.Common.{◌≡◌, Err, rules, sym, subst}
use Rattle.language.specs.Histories.{Lawful, Brief}
use Rattle.engine.specs.Settling.{meant, proposing, Settles}
use Rattle.engine.proofs.Settled.{short_enough, refusal_settles, marking_settles}
use Rattle.engine.proofs.draft.Draft.settle.Goals as goal

pub returns-in_err-prove : goal.returns-in_err-prove
returns-in_err-prove g c =
    let m = meant (g.D.Domain.low c.args.domain.now) (g.D.Domain.high c.args.domain.now) (g.D.Domain.outcome c.args.domain.now) in
    let p = proposing (g.P.Prover.proposal c.args.prover.now) in
    let l : Lawful m = record { range = g.met.D.Domain.range c.args.domain.now; sound = g.met.D.Domain.sound c.args.domain.now } in
    let b : Brief p = record { short = λ facts goal. short_enough _ (g.met.P.Prover.short c.args.prover.now facts goal) } in
    let r = c.in_err-prove.field-0.0 in
    let e : c.from_residual.result ≡ Err r = search rules in
    subst (λ x. Settles x c.args.self.now c.args.self.now c.args.number m p) (sym e) (refusal_settles c.args.number m p l b c.args.self.now r c.in_err-prove.ensures.value)

pub returns : goal.returns
returns g c =
    let m = meant (g.D.Domain.low c.args.domain.now) (g.D.Domain.high c.args.domain.now) (g.D.Domain.outcome c.args.domain.now) in
    let p = proposing (g.P.Prover.proposal c.args.prover.now) in
    let l : Lawful m = record { range = g.met.D.Domain.range c.args.domain.now; sound = g.met.D.Domain.sound c.args.domain.now } in
    let b : Brief p = record { short = λ facts goal. short_enough _ (g.met.P.Prover.short c.args.prover.now facts goal) } in
    marking_settles c.args.number m p l b c.args.self.now c.mark.new.self c.in_ok-prove.ensures.sound.0 c.mark.ensures c.in_ok-prove.ensures.value
