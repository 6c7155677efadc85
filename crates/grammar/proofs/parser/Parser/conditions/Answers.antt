use Rattle.std.proofs.Common.{refl, arith}
use Rattle.letters.specs.declared.kind.Kind.TheVariants.{Comma}
use Rattle.grammar.specs.Parsers.{is_a}
use Rattle.grammar.specs.Sheets.{condition_on}
use Rattle.grammar.proofs.Laws.{nexts, gives, seq-ok, seq-err, broke}
use Rattle.grammar.proofs.Loops.{ran-start, chain-chained, turn_on, turn-err, turn_end}
use Rattle.grammar.proofs.parser.Parser.conditions.Goals as goal

pub returns-in_err-condition-clause-went : goal.returns-in_err-condition-clause-went
returns-in_err-condition-clause-went c = broke c.from_residual.ensures.1 (seq-err _ c.in_err-condition.ensures.went)

pub loop-self-init : goal.loop-self-init
loop-self-init c = ran-start _ _ _ _ _ refl

pub loop-self-preserved : goal.loop-self-preserved
loop-self-preserved c = turn_on (chain-chained (is_a Comma) (condition_on c.args.with_result)) c.loop-self.invariant c.loop-self-test.ensures.told (nexts c.bump.ensures.token c.bump.ensures.bumped) (λ x h. seq-ok _ c.in_ok-condition-2.ensures.went (gives tt)) (omega arith) (omega arith) (omega arith)

pub returns-in_err-condition-2-clause-went : goal.returns-in_err-condition-2-clause-went
returns-in_err-condition-2-clause-went c = broke c.from_residual-in_err-condition-2.ensures.1 (seq-ok _ c.in_ok-condition.ensures.went (turn-err (chain-chained (is_a Comma) (condition_on c.args.with_result)) c.loop-self.invariant c.loop-self-test.ensures.told (nexts c.bump.ensures.token c.bump.ensures.bumped) (λ x h. seq-err _ c.in_err-condition-2.ensures.went) _ tt))

pub returns-clause-went : goal.returns-clause-went
returns-clause-went c = seq-ok _ c.in_ok-condition.ensures.went (turn_end (chain-chained (is_a Comma) (condition_on c.args.with_result)) c.loop-self.invariant c.loop-self-test.ensures.told _ tt)
