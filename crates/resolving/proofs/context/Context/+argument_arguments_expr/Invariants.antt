use Rattle.std.proofs.Common.{◌+◌, ◌*◌}
use Rattle.resolving.proofs.context.Context.+argument_arguments_expr.Given as goal

abbrev pub decreases-argument : goal.decreases-argument
decreases-argument l = 2 * l.top + 1

abbrev pub decreases-arguments : goal.decreases-arguments
decreases-arguments l = 2 * l.top

abbrev pub decreases-expr : goal.decreases-expr
decreases-expr l = 2 * l.top
