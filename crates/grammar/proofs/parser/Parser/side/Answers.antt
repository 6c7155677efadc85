use Rattle.std.proofs.Common.{false, refl, arith}
use Rattle.grammar.specs.Sheets.{sum_sign, item_on}
use Rattle.grammar.proofs.Laws.{nexts, gives, seq-ok, seq-err, broke}
use Rattle.grammar.proofs.Loops.{ran-start, chain-chained, turn_on, turn-err, turn_end}
use Rattle.grammar.proofs.parser.Parser.side.Goals as goal

pub returns-in_err-item-clause-went : goal.returns-in_err-item-clause-went
returns-in_err-item-clause-went c = broke c.from_residual.ensures.1 (seq-err _ (c.in_err-item.ensures.went _))

pub loop-self-init : goal.loop-self-init
loop-self-init c = ran-start _ _ _ _ _ refl

pub loop-self-smaller : goal.loop-self-smaller
loop-self-smaller c = let w = c.in_ok-item-2.ensures.went false in omega arith

pub loop-self-preserved : goal.loop-self-preserved
loop-self-preserved c = let w = c.in_ok-item-2.ensures.went false in turn_on (chain-chained sum_sign (item_on c.args.with_result)) c.loop-self.invariant c.loop-self-test.ensures.told (nexts c.bump.ensures.token c.bump.ensures.bumped) (λ x h. seq-ok _ (c.in_ok-item-2.ensures.went _) (gives tt)) (omega arith) (omega arith) (omega arith)

pub returns-in_err-item-2-clause-went : goal.returns-in_err-item-2-clause-went
returns-in_err-item-2-clause-went c = broke c.from_residual-in_err-item-2.ensures.1 (seq-ok _ (c.in_ok-item.ensures.went _) (turn-err (chain-chained sum_sign (item_on c.args.with_result)) c.loop-self.invariant c.loop-self-test.ensures.told (nexts c.bump.ensures.token c.bump.ensures.bumped) (λ x h. seq-err _ (c.in_err-item-2.ensures.went _)) _ tt))

pub returns-clause-went : goal.returns-clause-went
returns-clause-went c = seq-ok _ (c.in_ok-item.ensures.went _) (turn_end (chain-chained sum_sign (item_on c.args.with_result)) c.loop-self.invariant c.loop-self-test.ensures.told _ tt)
