use Rattle.grammar.specs.Sheets.{quantity}
use Rattle.grammar.proofs.parser.Parser.quantity.Goals as goal

pub returns-clause-went : goal.returns-clause-went
returns-clause-went c = c.take_if.ensures.went (quantity c.args.with_result) c.sees_quantity.ensures.told
