use Rattle.std.proofs.Common.{sym, ◌∙◌}
use Rattle.grammar.proofs.Laws.{nexts, on-yes, on-no, stops}
use Rattle.grammar.proofs.parser.Parser.take_if.Goals as goal

pub returns-then-fits-clause-went : goal.returns-then-fits-clause-went
returns-then-fits-clause-went c = λ b e. on-yes b _ _ (sym e ∙ c.if-fits.true) (nexts c.bump.ensures.token c.bump.ensures.bumped)

pub returns-else-fits-clause-went : goal.returns-else-fits-clause-went
returns-else-fits-clause-went c = λ b e. on-no b _ _ (sym e ∙ c.if-fits.false) (stops c.fault.ensures)
