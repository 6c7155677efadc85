use Rattle.std.proofs.Common.{length, ap, ◌∙◌}
use Rattle.letters.specs.declared.kind.Kind.TheVariants.{Close}
use Rattle.grammar.specs.Parsers.{is_a}
use Rattle.naming.proofs.Begins.{begun_at}
use Rattle.naming.proofs.written.Written.params.Goals as goal

pub returns-clause-params : goal.returns-clause-params
returns-clause-params c =
    begun_at c.args.self.tokens.now (length c.args.self.text.now) c.args.at c.min-at.result c.is.result c.then_some-next.result c.min-at.ensures (c.is.ensures ∙ ap (is_a Close) c.token.ensures) c.then_some-next.ensures
