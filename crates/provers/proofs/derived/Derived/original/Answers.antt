use Rattle.std.proofs.Common.{cond, eqb, ap, ap₂, ◌∙◌, w32, rules}
use borrow.Author.Tests.{tests}
use Rattle.std.proofs.lemmas.Int.{to_z-of_z}
use Rattle.ints.proofs.Filling.{made_by}
use Rattle.provers.proofs.Starting.{single}
use Rattle.provers.proofs.derived.Derived.original.Goals as goal

pub returns : goal.returns
returns c =
    let e = made_by _ _ (λ k. cond (eqb k c.args.i) 1 0) 25 (λ i y q l k. search (rules, tests)) c.from_fn.result 0 c.from_fn.ensures.items in
    ap₂ (λ cs b. record { coefs = cs; bound = b; times = c.from_fn.result }) c.coefs.ensures (to_z-of_z w32 c.bound.result (search rules) ∙ c.bound.ensures)
    ∙ ap (λ ts. record { coefs = c.args.row.now.coefs; bound = c.args.row.now.bound; times = ts }) (e ∙ single c.args.i)
