use Rattle.std.proofs.Common.{◌+◌, ◌*◌}
use Rattle.running.proofs.runner.Runner.+arguments_call_eval_node.Given as goal

-- parts lie at lower positions than their node, and a body below all that a sheet may have, one level down
abbrev pub decreases-eval : goal.decreases-eval
decreases-eval l = 8 * (16385 * l.left + l.at) + 2

abbrev pub decreases-node : goal.decreases-node
decreases-node l = 8 * (16385 * (l.left + 1) + l.at) + 1

abbrev pub decreases-call : goal.decreases-call
decreases-call l = 8 * (16385 * (l.left + 1) + l.at)

abbrev pub decreases-arguments : goal.decreases-arguments
decreases-arguments l = 8 * (16385 * l.left + l.at) + 3
