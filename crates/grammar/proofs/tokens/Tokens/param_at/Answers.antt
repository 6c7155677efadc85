use Rattle.std.proofs.Common.{refl, arith}
use Rattle.letters.specs.declared.kind.Kind.TheVariants.{OpenSquare}
use Rattle.grammar.specs.Parsers.{Look, look_in}
use Rattle.grammar.proofs.Readings.{param-number, not_after}
use Rattle.grammar.proofs.Rereads.{ends-kind}
use Rattle.grammar.proofs.tokens.Tokens.param_at.Goals as goal
use Rattle.grammar.proofs.tokens.Tokens.param_at.Goals.{else-at-self-via-then-at-self+else-stands, else-at-self-via-else-at-self}

pub returns-else-at-self-clause-read : goal.returns-else-at-self-clause-read
returns-else-at-self-clause-read c =
    let l : Look = look_in c.args.self.tokens.now c.args.self.end in
    elim c.else-at-self.branch [
      | else-at-self-via-then-at-self+else-stands w ↦ param-number l c.args.at (not_after l c.args.at w.if-stands.ensures.told) c.token-name.ensures
      | else-at-self-via-else-at-self w ↦ param-number l c.args.at (ends-kind (record { tokens = c.args.self.tokens.now; end = c.args.self.end }) OpenSquare refl _ (omega arith)) c.token-name.ensures
    ]
