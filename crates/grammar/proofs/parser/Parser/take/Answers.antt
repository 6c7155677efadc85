use Rattle.grammar.specs.Parsers.{is_a}
use Rattle.grammar.proofs.parser.Parser.take.Goals as goal

pub returns-clause-went : goal.returns-clause-went
returns-clause-went c = c.take_if.ensures.went (is_a c.args.kind) c.sees.ensures.told
