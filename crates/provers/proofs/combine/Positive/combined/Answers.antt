use Rattle.std.proofs.Common.{◌≡◌, ◌+◌, ◌*◌, nat_abs, map, pos, ap, ◌∙◌, ap₂, w32, w64, to_z, of_z, rules}
use Rattle.std.specs.List.{range_with_len}
use Rattle.std.proofs.lemmas.Int.{to_z-of_z}
use Rattle.ints.specs.Divisors.{divisor_of}
use Rattle.provers.specs.Derivations.{blend, blended, lowest, kept, within, combine, coef_at, times_at}
use Rattle.ints.proofs.Filling.{made_by}
use Rattle.provers.proofs.Making.{same-quotients}
use Rattle.provers.proofs.combine.Positive.combined.Goals as goal

pub returns : goal.returns
unfolding combine
returns c =
    let p = c.args.self.p.now in let m = c.args.m.now in let q = c.args.self.q in
    let a = c.unsigned_abs.result in
    let b = c.unsigned_abs-2.result in
    let cs : c.from_fn-coefs.result ≡ map (λ j. blend a b (coef_at j p) (coef_at j m)) (range_with_len 0 16) =
    made_by _ _ (λ j. blend a b (coef_at j p) (coef_at j m)) 16 (λ i y q l k.
    let e : y ≡ blend a b (to_z w32 (of_z w32 (coef_at i p))) (to_z w32 (of_z w32 (coef_at i m))) = search rules in
    (search rules, e ∙ ap₂ (blend a b) (to_z-of_z w32 (coef_at i p) (search rules)) (to_z-of_z w32 (coef_at i m) (search rules)))) c.from_fn-coefs.result (pos 0) c.from_fn-coefs.ensures.items in
    let ts : c.from_fn-times.result ≡ map (λ j. a * times_at j p + b * times_at j m) (range_with_len 0 25) =
    made_by _ _ (λ j. a * times_at j p + b * times_at j m) 25 (λ i y q l k. search rules) c.from_fn-times.result 0 c.from_fn-times.ensures.items in
    let ea : a ≡ nat_abs (coef_at q m) = c.unsigned_abs.ensures.value ∙ ap nat_abs (to_z-of_z w32 (coef_at q m) (search rules)) in
    let eb : b ≡ nat_abs (coef_at q p) = c.unsigned_abs-2.ensures.value ∙ ap nat_abs (to_z-of_z w32 (coef_at q p) (search rules)) in
    c.reduce.ensures
    ∙ same-quotients c.of.result.g _ c.from_fn-coefs.result _ _ _ c.from_fn-times.result _
    (c.of.ensures ∙ ap divisor_of ts)
    cs
    (to_z-of_z w64 c.coef-bound.result (search rules) ∙ c.coef-bound.ensures ∙ ap₂ (blend a b) (to_z-of_z w32 p.bound (search rules)) (to_z-of_z w32 m.bound (search rules)))
    ts
    ∙ ap₂ (λ x y. kept within (lowest (blended x y p m))) ea eb
