use Rattle.std.proofs.Common.{rules}
use Rattle.language.proofs.limits.most_depth.Goals as goal
use Rattle.language.proofs.Examples.{by-computing}

pub returns : goal.returns
returns c = record { value = search rules; worked = by-computing }
