use Rattle.std.proofs.Common.{rules}
use Rattle.language.specs.Walking.{Obligation}
use Rattle.records.specs.Owing.{Owes}
use Rattle.engine.specs.Settling.{meant, proposing}
use Rattle.engine.proofs.Proving.{reasoned_is, same_question, settles_so, proves_so}
use Rattle.engine.proofs.draft.Draft.prove.Goals as goal

pub returns : goal.returns
returns g c =
    let draft = c.args.self.now in let a = c.in_ok-asked.asked in let back = c.in_ok-asked.ensures.read in
    let m = meant (g.D.Domain.low c.args.domain.now) (g.D.Domain.high c.args.domain.now) (g.D.Domain.outcome c.args.domain.now) in
    let p = proposing (g.P.Prover.proposal c.args.prover.now) in
    let same = λ (o : Obligation) (w : Owes draft.records.now c.args.number o). same_question a c.room-facts.result c.question.new.room c.min.result o c.min.ensures w.few (back.1 o w) in
    let is = reasoned_is a.place _ c.ask_then_verify.result c.map_err.result c.map_err.ensures.cases (λ w y h. search rules) in record {
      value = settles_so draft c.args.number m p a _ back.0 same c.is_within.result c.if-not-is_within.false c.is_within.ensures c.ask_then_verify.result c.map_err.result is c.ask_then_verify.ensures.value;
      sound = proves_so draft c.args.number m p a _ back.0 same c.is_within.result c.if-not-is_within.false c.is_within.ensures c.ask_then_verify.result c.map_err.result is c.ask_then_verify.ensures.sound;
    }
