use Rattle.std.proofs.Common.{rules}
use Rattle.language.proofs.limits.term_limit.Goals as goal
use Rattle.language.proofs.Fitting.{rows_fit, terms-fit}

pub returns : goal.returns
returns c = record { value = search rules; rows = rows_fit; terms = terms-fit }
