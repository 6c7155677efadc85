use Rattle.std.proofs.Common.{◌-◌}
use Rattle.entering.proofs.conditions.+first_broken.Given as goal

abbrev pub decreases-first_broken : goal.decreases-first_broken
decreases-first_broken l = l.to - l.at
