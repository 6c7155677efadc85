use Rattle.std.proofs.Common.{rules, ◌≡◌, ℕ, eqb, get_or, pos, refl, ap, ◌∙◌, w32, of_z}
use Rattle.std.specs.List.{list_all, range_with_len}
use Rattle.std.proofs.lemmas.Iterator.{YieldsList-from_slice}
use Rattle.std.proofs.lemmas.Iterator.Search.{all_from_yields_List}
use Rattle.std.proofs.lemmas.List.Folds.{list_all-map}
use Rattle.std.proofs.lemmas.List.FromFn.{fill_by_all}
use Rattle.ints.specs.Tests.{is_zero}
use Rattle.ints.proofs.Belows.{all_range}
use Rattle.ints.proofs.Zeros.{zero_test}
use Rattle.terms.proofs.arrays.all_zero.Goals as goal

pub returns : goal.returns
returns c =
    let xs = c.args.xs.now in
    all_from_yields_List is_zero _ _ _ c.all.ensures.ran (YieldsList-from_slice xs cc)
    (λ x b q k.
    let e : b ≡ eqb (of_z w32 x.now) 0 = search rules in
    (search rules, e ∙ zero_test w32 x.now (search rules)))
    ∙ ap (list_all is_zero) (fill_by_all (λ (j : ℕ). get_or xs j (pos 0)) xs 16 (pos 0) (search rules) (λ k l. refl))
    ∙ list_all-map is_zero (λ (j : ℕ). get_or xs j (pos 0)) (range_with_len 0 16)
    ∙ all_range (λ j. is_zero (get_or xs j (pos 0))) 16
