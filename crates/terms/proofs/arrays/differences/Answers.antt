use Rattle.std.proofs.Common.{rules, ◌≡◌, get_or, pos, ◌-ℤ◌, ◌∙◌, ap₂, w32, to_z, of_z}
use Rattle.std.proofs.lemmas.Int.{to_z-of_z}
use Rattle.ints.proofs.Filling.{made_by}
use Rattle.language.specs.Terms.{each}
use Rattle.terms.proofs.arrays.differences.Goals as goal

pub returns : goal.returns
unfolding each
returns c =
    let xs = c.args.xs.now in let ys = c.args.ys.now in
    made_by _ _ (λ j. get_or xs j (pos 0) -ℤ get_or ys j (pos 0)) 16 (λ i y q l k.
    let e : y ≡ to_z w32 (of_z w32 (get_or xs i (pos 0))) -ℤ to_z w32 (of_z w32 (get_or ys i (pos 0))) = search rules in
    (search rules, e ∙ ap₂ ◌-ℤ◌ (to_z-of_z w32 (get_or xs i (pos 0)) (search rules)) (to_z-of_z w32 (get_or ys i (pos 0)) (search rules)))) c.from_fn.result (pos 0) c.from_fn.ensures.items
