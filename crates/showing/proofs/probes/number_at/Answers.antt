use Rattle.std.proofs.Common.{rules, tests, ℕ, Option, length, ap, ◌∙◌}
use Rattle.std.specs.Option.{unwrap_or}
use Rattle.std.proofs.lemmas.Iterator.{YieldsList-from_slice}
use Rattle.std.proofs.lemmas.Iterator.Search.{position_from_yields_List}
use Rattle.showing.proofs.Placing.{here, found_or_end}
use Rattle.showing.proofs.probes.number_at.Goals as goal

pub returns-clause-told : goal.returns-clause-told
returns-clause-told c =
    let ts = c.args.tokens.now in
    c.unwrap_or.ensures
    ∙ ap (λ (o : Option ℕ). unwrap_or o (length ts)) (position_from_yields_List (here c.args.place) _ _ c.position.result c.position.ensures.ran (YieldsList-from_slice ts (cc)) (λ x b q k. search (rules, tests)))
    ∙ found_or_end c.args.place ts
