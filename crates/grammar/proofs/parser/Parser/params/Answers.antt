use Rattle.std.proofs.Common.{sym, refl, arith}
use Rattle.letters.specs.declared.kind.Kind.TheVariants.{Comma}
use Rattle.grammar.specs.Parsers.{is_a}
use Rattle.grammar.specs.Sheets.{param_on}
use Rattle.grammar.proofs.Laws.{nexts, on-yes, on-no, gives, seq-ok, seq-err, broke}
use Rattle.grammar.proofs.Loops.{ran-start, chain-chained, turn_on, turn-err, turn_end}
use Rattle.grammar.proofs.parser.Parser.params.Goals as goal

pub returns-then-sees-clause-went : goal.returns-then-sees-clause-went
returns-then-sees-clause-went c = on-yes _ _ _ (sym c.if-sees.ensures.told) (seq-ok _ (nexts c.bump.ensures.token c.bump.ensures.bumped) (gives tt))

pub returns-in_err-param-clause-went : goal.returns-in_err-param-clause-went
returns-in_err-param-clause-went c = broke c.from_residual.ensures.1 (on-no _ _ _ (sym c.if-sees.ensures.told) (seq-err _ c.in_err-param.ensures.went))

pub loop-self-init : goal.loop-self-init
loop-self-init c = ran-start _ _ _ _ _ refl

pub loop-self-preserved : goal.loop-self-preserved
loop-self-preserved c = turn_on (chain-chained (is_a Comma) param_on) c.loop-self.invariant c.loop-self-test.ensures.told (nexts c.bump-in-loop-self.ensures.token c.bump-in-loop-self.ensures.bumped) (λ x h. seq-ok _ c.in_ok-param-2.ensures.went (gives tt)) (omega arith) (omega arith) (omega arith)

pub returns-in_err-param-2-clause-went : goal.returns-in_err-param-2-clause-went
returns-in_err-param-2-clause-went c = broke c.from_residual-in_err-param-2.ensures.1 (on-no _ _ _ (sym c.if-sees.ensures.told) (seq-ok _ c.in_ok-param.ensures.went (seq-err _ (turn-err (chain-chained (is_a Comma) param_on) c.loop-self.invariant c.loop-self-test.ensures.told (nexts c.bump-in-loop-self.ensures.token c.bump-in-loop-self.ensures.bumped) (λ x h. seq-err _ c.in_err-param-2.ensures.went) _ tt))))

pub returns-in_err-take-clause-went : goal.returns-in_err-take-clause-went
returns-in_err-take-clause-went c = broke c.from_residual-in_err-take.ensures.1 (on-no _ _ _ (sym c.if-sees.ensures.told) (seq-ok _ c.in_ok-param.ensures.went (seq-ok _ (turn_end (chain-chained (is_a Comma) param_on) c.loop-self.invariant c.loop-self-test.ensures.told _ tt) (seq-err _ c.in_err-take.ensures.went))))

pub returns-clause-went : goal.returns-clause-went
returns-clause-went c = on-no _ _ _ (sym c.if-sees.ensures.told) (seq-ok _ c.in_ok-param.ensures.went (seq-ok _ (turn_end (chain-chained (is_a Comma) param_on) c.loop-self.invariant c.loop-self-test.ensures.told _ tt) (seq-ok _ c.in_ok-take.ensures.went (gives tt))))
