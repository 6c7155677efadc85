use Rattle.std.proofs.Common.{ap, ◌∙◌}
use Rattle.naming.specs.Reaches.{tokens_of}
use Rattle.resolving.proofs.rules.resolve.Goals as goal

pub invariant_of-context : goal.invariant_of-context
invariant_of-context c = record { fit = c.requires.fit; named = ap (tokens_of c.args.sheet) c.as_slice.ensures ∙ c.rule_names.ensures }
