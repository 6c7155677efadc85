use Rattle.std.proofs.Common.{Option, Result, Some, Ok, Err, ◌≡◌, sym, ap, ◌∙◌, slice_index, arith}
use Rattle.std.proofs.lemmas.Grind.{common_steps}
use Rattle.std.specs.Result.{MatchResult, IsOkAnd}
use Rattle.letters.specs.declared.token.Token.{Token}
use Rattle.letters.specs.declared.misspelt.Misspelt.{Misspelt}
use Rattle.letters.specs.Bytes.{lead_of, Sign}
use Rattle.letters.specs.Cuts.{some_token, piece_by, piece_of}
use Rattle.letters.proofs.cutting.Ahead.piece.Goals as goal

mapped : (r : Result Token Misspelt) (s : Result (Option Token) Misspelt) → MatchResult r (λ x. IsOkAnd s (λ y. y ≡ Some x)) (λ e. s ≡ Err e) → s ≡ some_token r
mapped (Ok t) (Ok o) h = ap Ok h
mapped (Ok t) (Err m) h = absurd h
mapped (Err m) s h = h

pub returns-in_default : goal.returns-in_default
unfolding piece_of
returns-in_default c =
    let l : lead_of (slice_index c.args.self.rest.now 0) ≡ Sign = grind (arith, common_steps) in
    mapped c.sign.result c.map-in_default.result c.map-in_default.ensures.cases ∙ ap some_token c.sign.ensures ∙ ap (λ d. piece_by d c.args.self.place c.args.self.rest.now) (sym l)
