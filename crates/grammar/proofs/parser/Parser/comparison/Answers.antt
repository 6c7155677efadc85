use Rattle.grammar.specs.Sheets.{compares}
use Rattle.grammar.proofs.parser.Parser.comparison.Goals as goal

pub returns-clause-went : goal.returns-clause-went
returns-clause-went c = c.take_if.ensures.went (compares c.args.tested) c.sees_comparison.ensures.told
