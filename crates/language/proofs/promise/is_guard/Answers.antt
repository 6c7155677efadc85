use Rattle.std.proofs.Common.{rules}
use Rattle.language.proofs.promise.is_guard.Goals as goal
use Rattle.language.proofs.Theorem.{theorem}

pub returns-in-Guard : goal.returns-in-Guard
returns-in-Guard c = record { value = search rules; promise = theorem }

pub returns-in_default : goal.returns-in_default
returns-in_default c = record { value = search rules; promise = theorem }
