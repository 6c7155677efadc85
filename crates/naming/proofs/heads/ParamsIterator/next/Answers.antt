use Rattle.std.proofs.Common.{◌∷◌, length, is_some, unwrap_or, sym, refl, ap, ◌∙◌, arith}
use Rattle.letters.specs.declared.kind.Kind.TheVariants.{Comma}
use Rattle.grammar.specs.Parsers.{is_a}
use Rattle.grammar.specs.Stretches.{param_at}
use Rattle.grammar.specs.Trees.{look_of}
use Rattle.naming.specs.Sources.{source_of}
use Rattle.naming.specs.Stretching.{begun, next_after, written}
use Rattle.naming.proofs.Begins.{left-none, left-on, comma-stands}
use Rattle.naming.proofs.heads.ParamsIterator.next.Goals as goal

pub returns-in_err-at-clause-steps : goal.returns-in_err-at-clause-steps
returns-in_err-at-clause-steps c =
    let s = c.args.self.now in let l = look_of (source_of s.sheet) in
    let e = left-none l (is_a Comma) (λ t i. param_at l i) (param_at l (unwrap_or s.next 0)) s.rest (is_some s.next) (ap is_some c.in_err-at.was) in
    rw c.from_residual.ensures ((e, e), refl)

pub past_joint-self-requires : goal.past_joint-self-requires
past_joint-self-requires c e = let w = c.args.self.now.sheet in comma-stands w.tokens.now (length w.text.now) c.param-end.result.1 (sym (c.is-joins.ensures ∙ ap (is_a Comma) c.token.ensures) ∙ e)

pub returns-clause-steps : goal.returns-clause-steps
returns-clause-steps c =
    let s = c.args.self.now in let l = look_of (source_of s.sheet) in let one = param_at l in
    let d = c.param-end in let p = written l d.result.0 in let o = c.past_joint-self.result in
    let j = c.is-joins.ensures ∙ ap (is_a Comma) c.token.ensures in (
      left-on l (is_a Comma) (λ t i. one i) (one (unwrap_or s.next 0)) s.rest d.result.1 (is_some s.next) p o (ap is_some c.in_ok-at.was) (ap (λ m. one (unwrap_or m 0)) c.in_ok-at.was ∙ d.ensures) (c.past_joint-self.ensures.told ∙ ap (λ t. next_after t s.rest d.result.1) j)
          ∙ ap (λ k. p ∷ begun l (is_a Comma) (λ t i. one i) (one (unwrap_or o 0)) k (is_some o)) (sym c.saturating_sub-self.ensures),
      refl,
    )

pub returns-clause-goes : goal.returns-clause-goes
returns-clause-goes c = omega (arith, ap length (returns-clause-steps c).0)
