use Rattle.std.proofs.Common.{◌≡◌, eqb, not, sym, ap, ◌∙◌, w32, of_z, rules}
use Rattle.std.proofs.lemmas.Iterator.{YieldsList-from_slice}
use Rattle.std.proofs.lemmas.Iterator.Search.{any_from_yields_List}
use Rattle.std.proofs.lemmas.Int.{ints}
use Rattle.ints.specs.Tests.{is_zero}
use Rattle.ints.proofs.Zeros.{zero_test}
use Rattle.rows.specs.Meaning.{coef}
use Rattle.rows.proofs.Limiting.{coef-near}
use Rattle.domains.proofs.Trying.{occurs_some}
use Rattle.domains.proofs.modes.any_coef.Goals as goal

pub returns : goal.returns
returns c =
    any_from_yields_List (λ r. not (is_zero (coef r c.args.j))) _ _ _ c.any.ensures.ran (YieldsList-from_slice c.args.rows.now cc)
    (λ x b q k.
    let e : b ≡ not (eqb (of_z w32 (coef x.now c.args.j)) 0) = search rules in
    let n = coef-near x.now c.args.j in
    (search rules, e ∙ ap not (zero_test w32 (coef x.now c.args.j) (search (rules, ints)))))
    ∙ sym (occurs_some c.args.j c.args.rows.now)
