use Rattle.std.proofs.Common.{◌+◌, ◌-◌, ◌*◌, length}
use Rattle.grammar.specs.Sheets.{sum_from_s, product_from_s, args_from_s}
use Rattle.grammar.specs.Held.{held, Stands, ArgsStand, Paid}
use Rattle.grammar.proofs.Loops.{Ran}
use Rattle.grammar.proofs.parser.Parser.+args_atom_binding_bracket_choice_expr_named_product_putting_sum.Given as goal

abbrev pub decreases-args : goal.decreases-args
decreases-args l = 8 * (length l.self.now.source.tokens.now - l.self.now.at) + 4

abbrev pub decreases-atom : goal.decreases-atom
decreases-atom l = 8 * (length l.self.now.source.tokens.now - l.self.now.at) + 1

abbrev pub decreases-binding : goal.decreases-binding
decreases-binding l = 8 * (length l.self.now.source.tokens.now - l.self.now.at) + 0

abbrev pub decreases-bracket : goal.decreases-bracket
decreases-bracket l = 8 * (length l.self.now.source.tokens.now - l.self.now.at) + 5

abbrev pub decreases-choice : goal.decreases-choice
decreases-choice l = 8 * (length l.self.now.source.tokens.now - l.self.now.at) + 4

abbrev pub decreases-expr : goal.decreases-expr
decreases-expr l = 8 * (length l.self.now.source.tokens.now - l.self.now.at) + 4

abbrev pub decreases-named : goal.decreases-named
decreases-named l = 8 * (length l.self.now.source.tokens.now - l.self.now.at) + 0

abbrev pub decreases-product : goal.decreases-product
decreases-product l = 8 * (length l.self.now.source.tokens.now - l.self.now.at) + 2

abbrev pub decreases-putting : goal.decreases-putting
decreases-putting l = 8 * (length l.self.now.source.tokens.now - l.self.now.at) + 0

abbrev pub decreases-sum : goal.decreases-sum
decreases-sum l = 8 * (length l.self.now.source.tokens.now - l.self.now.at) + 3

abbrev pub invariant-args-loop-self : goal.invariant-args-loop-self
invariant-args-loop-self l = Ran Paid ArgsStand args_from_s l.initial.args l.args (held l.initial.self) (held l.self)

abbrev pub decreases-args-loop-self : goal.decreases-args-loop-self
decreases-args-loop-self l = length l.self.source.tokens.now - l.self.at

abbrev pub invariant-product-loop-self : goal.invariant-product-loop-self
invariant-product-loop-self l = Ran Paid Stands product_from_s l.initial.left l.left (held l.initial.self) (held l.self)

abbrev pub decreases-product-loop-self : goal.decreases-product-loop-self
decreases-product-loop-self l = length l.self.source.tokens.now - l.self.at

abbrev pub invariant-sum-loop-self : goal.invariant-sum-loop-self
invariant-sum-loop-self l = Ran Paid Stands sum_from_s l.initial.left l.left (held l.initial.self) (held l.self)

abbrev pub decreases-sum-loop-self : goal.decreases-sum-loop-self
decreases-sum-loop-self l = length l.self.source.tokens.now - l.self.at
