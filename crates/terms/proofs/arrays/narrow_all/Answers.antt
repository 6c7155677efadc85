use Rattle.std.proofs.Common.{rules, ◌≡◌, cond, length, get_or, ℤ, pos, Some, None, ◌∙◌, arith, w32, w64, SFits, ap₂, to_z, of_z}
use Rattle.std.proofs.lemmas.Int.{to_z-of_z}
use Rattle.std.proofs.lemmas.Result.{MatchResult-from_both, MatchResult-weaker}
use Rattle.ints.specs.Tests.{within}
use Rattle.terms.proofs.Holding.{held-broken, all-held, held-all}
use Rattle.terms.proofs.arrays.narrow_all.Goals as goal

pub returns : goal.returns
returns c =
    let xs = c.args.xs.now in let r = c.try_each.result in let l = c.args.limit in
    let n : length xs ≡ 16 = search rules in
    let given = λ (x : ℤ) (f : SFits w64 x). ap₂ (λ a b. cond (within a b) (Some b) None) (to_z-of_z w32 l c.ranges.limit) (to_z-of_z w64 x f) in
    c.ok.ensures.value
    ∙ held-all l xs r (MatchResult-weaker r (MatchResult-from_both r _ _ c.try_each.ensures.made c.try_each.ensures.refused)
    (λ ys m. all-held l xs ys (omega (arith, m.0)) (λ i k.
    let e = m.1 i (pos 0) (pos 0) (omega arith) in let x = get_or xs i (pos 0) in
    let f : Some (get_or ys i (pos 0)) ≡ cond (within (to_z w32 (of_z w32 l)) (to_z w64 (of_z w64 x))) (Some (to_z w64 (of_z w64 x))) None = search rules in
    f ∙ given x (search rules)))
    (λ u q. held-broken l q.1 xs q.0 (omega (arith, q.2)) (
    let e = q.3 in let x = get_or xs q.0 q.1 in
    let f : None ≡ cond (within (to_z w32 (of_z w32 l)) (to_z w64 (of_z w64 x))) (Some (to_z w64 (of_z w64 x))) None = search rules in
    f ∙ given x (search rules))))
