use Rattle.std.proofs.Common.{rules, ◌≡◌, List, ℤ, ◌+ℤ◌, ◌-ℤ◌, neg_ℤ, ◌∙◌, ap₂, arith, w8, w32, w64, SFits, to_z, of_z}
use Rattle.std.proofs.lemmas.Int.{ints}
use Rattle.rows.specs.Rows.{row_of}
use Rattle.language.specs.Terms.{minus}
use Rattle.terms.proofs.comparing.compared.Goals as goal

pub returns : goal.returns
unfolding minus
returns c =
    let t : SFits w32 c.args.t.now.constant = search rules in
    let u : SFits w32 c.args.u.now.constant = search rules in
    let d : SFits w64 c.difference.result = search rules in
    let f : SFits w64 c.from.result = search rules in
    let k : SFits w8 c.args.more = search rules in
    let e = c.difference.ensures in let g = c.from.ensures in
    let b : neg_ℤ (to_z w64 (of_z w64 (to_z w64 (of_z w64 c.difference.result) +ℤ to_z w64 (of_z w64 c.from.result)))) ≡ (c.args.u.now.constant -ℤ c.args.t.now.constant) -ℤ c.args.more = omega (arith, ints) in
    c.row.ensures ∙ ap₂ (λ (cs : List ℤ) (z : ℤ). row_of cs z c.args.kind) c.differences.ensures b
