use Rattle.std.proofs.Common.{◌≡◌, ◌/◌, length, get_or, pos, map, Some, None, ap, ◌∙◌, ap₂, arith, w32, w64, to_z, of_z, rules}
use Rattle.std.proofs.lemmas.Int.{to_z-of_z}
use Rattle.rows.specs.Limits.{small, all_small}
use Rattle.provers.specs.Derivations.{kept, quotient, modest, all_modest}
use Rattle.provers.proofs.Limited.{unresulted, all_kept, none_kept, small-none, small-more, modest-none, modest-more}
use Rattle.provers.proofs.Making.{assembled, parts-kept, same_parts}
use Rattle.provers.proofs.combine.reduce.Goals as goal
use Rattle.provers.proofs.combine.reduce.Goals.{In_ok-bound, In_ok-coefs, In_ok-times}

bound_is : (c : In_ok-bound) → Some c.in_ok-bound.bound ≡ kept small (quotient c.args.by.g c.args.bound)
bound_is c = c.in_ok-bound.ensures ∙ ap (λ z. kept small (quotient c.args.by.g z)) (to_z-of_z w64 c.args.bound c.ranges.bound)

coefs_are : (c : In_ok-coefs) → Some c.in_ok-coefs.coefs ≡ kept all_small (map (quotient c.args.by.g) c.args.coefs.now)
coefs_are c =
    let n : length c.args.coefs.now ≡ 16 = search rules in
    let m = c.in_ok-coefs.ensures.made in
    all_kept small all_small small-none small-more (quotient c.args.by.g) (pos 0) (pos 0) c.args.coefs.now c.in_ok-coefs.coefs (omega arith) (λ i l.
    let e = m.1 i (pos 0) (pos 0) (omega arith) in let x = get_or c.args.coefs.now i (pos 0) in
    let r : Some (get_or c.in_ok-coefs.coefs i (pos 0)) ≡ kept small (quotient c.args.by.g (to_z w64 (of_z w64 x))) = search rules in
    r ∙ ap (λ z. kept small (quotient c.args.by.g z)) (to_z-of_z w64 x (search rules)))

times_are : (c : In_ok-times) → Some c.in_ok-times.times ≡ kept all_modest (map (λ n. n / c.args.by.g) c.args.times.now)
times_are c =
    let n : length c.args.times.now ≡ 25 = search rules in
    let m = c.in_ok-times.ensures.made in
    all_kept modest all_modest modest-none modest-more (λ n. n / c.args.by.g) 0 0 c.args.times.now c.in_ok-times.times (omega arith) (λ i l. let e = m.1 i 0 0 (omega arith) in search rules)

pub returns-in_err-coefs : goal.returns-in_err-coefs
returns-in_err-coefs c =
    let g = c.args.by.g in let cs = c.args.coefs.now in let b = c.args.bound in let ts = c.args.times.now in
    let n : length cs ≡ 16 = search rules in
    let r = c.in_err-coefs.ensures.refused in
    let k : None ≡ kept all_small (map (quotient g) cs) = none_kept small all_small small-none small-more (quotient g) r.1 cs r.0 (omega (arith, r.2)) (
    let e = r.3 in let x = get_or cs r.0 r.1 in
    let f : None ≡ kept small (quotient g (to_z w64 (of_z w64 x))) = search rules in
    f ∙ ap (λ z. kept small (quotient g z)) (to_z-of_z w64 x (search rules))) in
    unresulted c.from_residual-in_err-coefs.result c.from_residual-in_err-coefs.ensures.0
    ∙ ap₂ (λ o l. assembled o l (kept all_modest (map (λ n. n / g) ts))) (bound_is (goal.at.returns-in_err-coefs c).In_ok-bound) k
    ∙ parts-kept (quotient g b) (map (quotient g) cs) (map (λ n. n / g) ts)

pub returns-in_err-times : goal.returns-in_err-times
returns-in_err-times c =
    let g = c.args.by.g in let cs = c.args.coefs.now in let b = c.args.bound in let ts = c.args.times.now in
    let n : length ts ≡ 25 = search rules in
    let r = c.in_err-times.ensures.refused in
    let k : None ≡ kept all_modest (map (λ n. n / g) ts) = none_kept modest all_modest modest-none modest-more (λ n. n / g) r.1 ts r.0 (omega (arith, r.2)) (let e = r.3 in search rules) in
    unresulted c.from_residual-in_err-times.result c.from_residual-in_err-times.ensures.0
    ∙ same_parts (Some c.in_ok-bound.bound) _ (Some c.in_ok-coefs.coefs) _ None _
    (bound_is (goal.at.returns-in_err-times c).In_ok-bound) (coefs_are (goal.at.returns-in_err-times c).In_ok-coefs) k
    ∙ parts-kept (quotient g b) (map (quotient g) cs) (map (λ n. n / g) ts)

pub returns : goal.returns
returns c =
    let g = c.args.by.g in let cs = c.args.coefs.now in let b = c.args.bound in let ts = c.args.times.now in
    same_parts (Some _) _ (Some c.in_ok-coefs.coefs) _ (Some c.in_ok-times.times) _
    (ap Some (to_z-of_z w32 c.in_ok-bound.bound (search rules)) ∙ bound_is (goal.at.returns c).In_ok-bound) (coefs_are (goal.at.returns c).In_ok-coefs) (times_are (goal.at.returns c).In_ok-times)
    ∙ parts-kept (quotient g b) (map (quotient g) cs) (map (λ n. n / g) ts)
