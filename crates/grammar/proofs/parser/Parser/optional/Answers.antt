use Rattle.std.proofs.Common.{sym}
use Rattle.grammar.proofs.Laws.{nexts, on-yes, on-no, gives, seq-ok}
use Rattle.grammar.proofs.parser.Parser.optional.Goals as goal

pub returns-then-sees-clause-went : goal.returns-then-sees-clause-went
returns-then-sees-clause-went c = on-yes _ _ _ (sym c.if-sees.ensures.told) (seq-ok _ (nexts c.bump.ensures.token c.bump.ensures.bumped) c.conditions.ensures.went)

pub returns-else-sees-clause-went : goal.returns-else-sees-clause-went
returns-else-sees-clause-went c = on-no _ _ _ (sym c.if-sees.ensures.told) (gives tt)
