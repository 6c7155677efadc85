use Rattle.std.proofs.Common.{◌+◌, ◌*◌}
use Rattle.walking.proofs.walker.Walker.+arguments_check_check_branch_infer_infer_both_infer_branch_infer_call.Given as goal

-- a call at a node goes to positions below it, and a check to the inferring of the same expression
abbrev pub decreases-arguments : goal.decreases-arguments
decreases-arguments l = 8 * l.top

abbrev pub decreases-check : goal.decreases-check
decreases-check l = 8 * l.top + 1

abbrev pub decreases-check_branch : goal.decreases-check_branch
decreases-check_branch l = 8 * l.top + 2

abbrev pub decreases-infer : goal.decreases-infer
decreases-infer l = 8 * l.top

abbrev pub decreases-infer_both : goal.decreases-infer_both
decreases-infer_both l = 8 * l.top + 1

abbrev pub decreases-infer_branch : goal.decreases-infer_branch
decreases-infer_branch l = 8 * l.top + 1

abbrev pub decreases-infer_call : goal.decreases-infer_call
decreases-infer_call l = 8 * l.at + 1
