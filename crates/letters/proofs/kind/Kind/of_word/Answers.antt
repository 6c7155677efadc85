use Rattle.std.proofs.Common.{sym, ap, ◌∙◌}
use Rattle.std.specs.Option.{unwrap_or}
use Rattle.letters.specs.declared.kind.Kind.TheVariants.{Name}
use Rattle.letters.specs.Kinds.{keywords}
use Rattle.letters.proofs.Writing.{written_found}
use Rattle.letters.proofs.kind.Kind.of_word.Goals as goal

pub returns : goal.returns
returns c = c.unwrap_or.ensures ∙ ap (λ o. unwrap_or o Name) c.written_so.ensures ∙ sym (written_found c.args.letters.now keywords)
