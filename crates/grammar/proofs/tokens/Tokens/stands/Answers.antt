use Rattle.std.proofs.Common.{◌≡◌, sym, ap, ◌∙◌}
use Rattle.letters.specs.declared.token.Token.{Token}
use Rattle.grammar.specs.Parsers.{is_a, look_in}
use Rattle.grammar.proofs.Laws.{inside}
use Rattle.grammar.proofs.tokens.Tokens.stands.Goals as goal

pub returns-clause-inside : goal.returns-clause-inside
returns-clause-inside c =
    let told : c.is.result ≡ is_a c.args.kind (look_in c.args.self.tokens.now c.args.self.end c.args.at) = c.is.ensures ∙ ap (λ (t : Token). is_a c.args.kind t) c.token.ensures in
    λ h. inside c.args.self.tokens.now c.args.self.end c.args.at c.args.kind (sym told ∙ h) c.requires
