use Rattle.std.proofs.Common.{sym}
use Rattle.grammar.proofs.Laws.{nexts, on-yes, on-no, gives, seq-ok, seq-err, broke}
use Rattle.grammar.proofs.parser.Parser.item.Goals as goal

pub returns-in_err-quantity-clause-went : goal.returns-in_err-quantity-clause-went
returns-in_err-quantity-clause-went c = λ m. broke c.from_residual.ensures.1 (on-yes _ _ _ (sym c.if-sees.ensures.told) (seq-ok _ (nexts c.bump.ensures.token c.bump.ensures.bumped) (on-yes _ _ _ (sym c.if-sees-2.ensures.told) (seq-ok _ (nexts c.bump-then-sees-2.ensures.token c.bump-then-sees-2.ensures.bumped) (seq-err _ c.in_err-quantity.ensures.went)))))

pub returns-in_ok-quantity-clause-went : goal.returns-in_ok-quantity-clause-went
returns-in_ok-quantity-clause-went c = λ m. on-yes _ _ _ (sym c.if-sees.ensures.told) (seq-ok _ (nexts c.bump.ensures.token c.bump.ensures.bumped) (on-yes _ _ _ (sym c.if-sees-2.ensures.told) (seq-ok _ (nexts c.bump-then-sees-2.ensures.token c.bump-then-sees-2.ensures.bumped) (seq-ok _ c.in_ok-quantity.ensures.went (gives tt)))))

pub returns-else-sees-2-clause-went : goal.returns-else-sees-2-clause-went
returns-else-sees-2-clause-went c = λ m. on-yes _ _ _ (sym c.if-sees.ensures.told) (seq-ok _ (nexts c.bump.ensures.token c.bump.ensures.bumped) (on-no _ _ _ (sym c.if-sees-2.ensures.told) (gives tt)))

pub returns-in_err-quantity-2-clause-went : goal.returns-in_err-quantity-2-clause-went
returns-in_err-quantity-2-clause-went c = λ m. broke c.from_residual-in_err-quantity-2.ensures.1 (on-no _ _ _ (sym c.if-sees.ensures.told) (seq-err _ c.in_err-quantity-2.ensures.went))

pub returns-in_ok-quantity-2-clause-went : goal.returns-in_ok-quantity-2-clause-went
returns-in_ok-quantity-2-clause-went c = λ m. on-no _ _ _ (sym c.if-sees.ensures.told) (seq-ok _ c.in_ok-quantity-2.ensures.went (gives tt))
