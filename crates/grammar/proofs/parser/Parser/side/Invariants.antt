use Rattle.std.proofs.Common.{◌-◌, length}
use Rattle.grammar.specs.Parsers.{chain}
use Rattle.grammar.specs.Sheets.{sum_sign, item_on}
use Rattle.grammar.specs.Held.{held, Any, SameCount}
use Rattle.grammar.proofs.Loops.{Ran}
use Rattle.grammar.proofs.parser.Parser.side.Given as goal

abbrev pub invariant-loop-self : goal.invariant-loop-self
invariant-loop-self l = Ran SameCount Any (chain sum_sign (item_on l.with_result)) (tt {0}) (tt {0}) (held l.initial.self) (held l.self)

abbrev pub decreases-loop-self : goal.decreases-loop-self
decreases-loop-self l = length l.self.source.tokens.now - l.self.at
