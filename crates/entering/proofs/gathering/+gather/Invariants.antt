use Rattle.std.proofs.Common.{◌-◌}
use Rattle.entering.proofs.gathering.+gather.Given as goal

abbrev pub decreases-gather : goal.decreases-gather
decreases-gather l = l.to - l.at
