use Rattle.std.proofs.Common.{◌≡◌, pos, refl, w32, to_z, of_z, ap, sym, ◌∙◌, rules}
use Rattle.std.specs.Option.{option_map}
use Rattle.std.specs.List.{find}
use Rattle.std.proofs.lemmas.Int.{to_z-of_z}
use lib.Signed.{lt_z}
use Rattle.std.proofs.lemmas.Iterator.{YieldsList-from_slice}
use Rattle.std.proofs.lemmas.Iterator.Search.{find_from_yields_List}
use Rattle.provers.proofs.Pushing.{first_is}
use Rattle.provers.proofs.eliminate.first_below.Goals as goal
use Rattle.provers.proofs.eliminate.first_below.Goals.{After-find}

found : (c : After-find) → option_map (λ x. x.now) c.find.result ≡ find (λ r. lt_z r.bound (pos 0)) c.args.rows.now
found c =
    find_from_yields_List {v = λ x. x.now} (λ r. lt_z r.bound (pos 0)) _ _ c.find.result c.find.ensures.ran (YieldsList-from_slice c.args.rows.now cc)
    (λ x b q k.
    let f : b ≡ lt_z (to_z w32 (of_z w32 x.now.bound)) (pos 0) = search rules in
    (refl, f ∙ ap (λ z. lt_z z (pos 0)) (to_z-of_z w32 x.now.bound (search rules))))

pub returns-in_err-row : goal.returns-in_err-row
returns-in_err-row c =
    let w = c.in_err-row.was in
    c.from_residual.ensures ∙ ap (λ o. option_map (λ r. r.times) (option_map (λ x. x.now) o)) (sym c.in_err-row.was) ∙ ap (option_map (λ r. r.times)) (found (goal.at.returns-in_err-row c).After-find) ∙ first_is c.args.rows.now

pub returns : goal.returns
returns c =
    ap (λ o. option_map (λ r. r.times) (option_map (λ x. x.now) o)) (sym c.in_ok-row.was) ∙ ap (option_map (λ r. r.times)) (found (goal.at.returns c).After-find) ∙ first_is c.args.rows.now
