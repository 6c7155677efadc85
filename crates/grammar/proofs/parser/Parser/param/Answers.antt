use Rattle.std.proofs.Common.{sym}
use Rattle.grammar.proofs.Laws.{nexts, on-yes, on-no, gives, seq-ok, seq-err, broke}
use Rattle.grammar.proofs.parser.Parser.param.Goals as goal

pub returns-in_err-take-clause-went : goal.returns-in_err-take-clause-went
returns-in_err-take-clause-went c = broke c.from_residual.ensures.1 (seq-err _ c.in_err-take.ensures.went)

pub returns-in_err-take-2-clause-went : goal.returns-in_err-take-2-clause-went
returns-in_err-take-2-clause-went c = broke c.from_residual-in_err-take-2.ensures.1 (seq-ok _ c.in_ok-take.ensures.went (on-yes _ _ _ (sym c.if-sees.ensures.told) (seq-ok _ (nexts c.bump.ensures.token c.bump.ensures.bumped) (seq-err _ c.in_err-take-2.ensures.went))))

pub returns-in_err-take-3-clause-went : goal.returns-in_err-take-3-clause-went
returns-in_err-take-3-clause-went c = broke c.from_residual-in_err-take-3.ensures.1 (seq-ok _ c.in_ok-take.ensures.went (on-yes _ _ _ (sym c.if-sees.ensures.told) (seq-ok _ (nexts c.bump.ensures.token c.bump.ensures.bumped) (seq-ok _ c.in_ok-take-2.ensures.went (seq-err _ c.in_err-take-3.ensures.went)))))

pub returns-in_ok-take-3-clause-went : goal.returns-in_ok-take-3-clause-went
returns-in_ok-take-3-clause-went c = seq-ok _ c.in_ok-take.ensures.went (on-yes _ _ _ (sym c.if-sees.ensures.told) (seq-ok _ (nexts c.bump.ensures.token c.bump.ensures.bumped) (seq-ok _ c.in_ok-take-2.ensures.went (seq-ok _ c.in_ok-take-3.ensures.went (gives tt)))))

pub returns-else-sees-clause-went : goal.returns-else-sees-clause-went
returns-else-sees-clause-went c = seq-ok _ c.in_ok-take.ensures.went (on-no _ _ _ (sym c.if-sees.ensures.told) (gives tt))
