use Rattle.grammar.proofs.Laws.{seq-ok, seq-err, broke, tail}
use Rattle.grammar.proofs.parser.Parser.condition.Goals as goal

pub returns-in_err-side-clause-went : goal.returns-in_err-side-clause-went
returns-in_err-side-clause-went c = broke c.from_residual.ensures.1 (seq-err _ c.in_err-side.ensures.went)

pub returns-in_err-comparison-clause-went : goal.returns-in_err-comparison-clause-went
returns-in_err-comparison-clause-went c = broke c.from_residual-in_err-comparison.ensures.1 (seq-ok _ c.in_ok-side.ensures.went (seq-err _ c.in_err-comparison.ensures.went))

pub returns-clause-went : goal.returns-clause-went
returns-clause-went c = seq-ok _ c.in_ok-side.ensures.went (seq-ok _ c.in_ok-comparison.ensures.went (tail _ _ c.side-2.ensures.went))
