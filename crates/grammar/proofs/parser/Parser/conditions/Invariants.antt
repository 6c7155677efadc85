use Rattle.std.proofs.Common.{◌-◌, length}
use Rattle.grammar.specs.Parsers.{chain, is_a}
use Rattle.grammar.specs.Sheets.{condition_on}
use Rattle.letters.specs.declared.kind.Kind.TheVariants.{Comma}
use Rattle.grammar.specs.Held.{held, Any, SameCount}
use Rattle.grammar.proofs.Loops.{Ran}
use Rattle.grammar.proofs.parser.Parser.conditions.Given as goal

abbrev pub invariant-loop-self : goal.invariant-loop-self
invariant-loop-self l = Ran SameCount Any (chain (is_a Comma) (condition_on l.with_result)) (tt {0}) (tt {0}) (held l.initial.self) (held l.self)

abbrev pub decreases-loop-self : goal.decreases-loop-self
decreases-loop-self l = length l.self.source.tokens.now - l.self.at
