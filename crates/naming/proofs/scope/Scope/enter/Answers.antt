use Rattle.std.proofs.Common.{length, is_some, unwrap_or, ap, arith}
use Rattle.letters.specs.declared.kind.Kind.TheVariants.{Comma}
use Rattle.grammar.specs.Parsers.{is_a}
use Rattle.grammar.specs.Stretches.{param_at}
use Rattle.grammar.specs.Trees.{look_of}
use Rattle.naming.specs.Sources.{source_of}
use Rattle.naming.proofs.Begins.{length-left}
use Rattle.naming.proofs.scope.Scope.enter.Goals as goal

pub declare-requires : goal.declare-requires
declare-requires c =
    let h = c.args.params in let s = c.args.self.now in
    let l = look_of (source_of h.sheet) in
    let n = length-left l (is_a Comma) (λ t i. param_at l i) (param_at l (unwrap_or h.next 0)) h.rest (is_some h.next) in record {
      names = omega (arith, h.within, s.roomy, ap length c.fall_back.ensures.held, c.fall_back.ensures.room);
      lists = omega (arith, h.within, s.roomy, ap length c.fall_back-2.ensures.held, c.fall_back-2.ensures.room);
    }

pub returns-clause-few : goal.returns-clause-few
returns-clause-few c =
    let h = c.args.params in
    let l = look_of (source_of h.sheet) in
    let n = length-left l (is_a Comma) (λ t i. param_at l i) (param_at l (unwrap_or h.next 0)) h.rest (is_some h.next) in
    omega (arith, h.within, ap length c.fall_back.ensures.held, c.declare.ensures.more)
