use Rattle.std.proofs.Common.{◌-◌, length}
use Rattle.grammar.specs.Held.{held}
use Rattle.grammar.proofs.Ruling.{Ruling}
use Rattle.grammar.proofs.parser.Parser.rules.Given as goal

abbrev pub invariant-loop-self : goal.invariant-loop-self
invariant-loop-self l = Ruling (held l.initial.self) (held l.self)

abbrev pub decreases-loop-self : goal.decreases-loop-self
decreases-loop-self l = length l.self.source.tokens.now - l.self.at
