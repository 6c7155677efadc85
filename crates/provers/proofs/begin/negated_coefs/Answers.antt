use Rattle.std.proofs.Common.{pos, neg_ℤ, rules}
use Rattle.rows.specs.Meaning.{coef}
use Rattle.ints.proofs.Filling.{made_by}
use Rattle.provers.proofs.begin.negated_coefs.Goals as goal

pub returns : goal.returns
returns c = made_by _ _ (λ k. neg_ℤ (coef c.args.row.now k)) 16 (λ i y q l k. search rules) c.from_fn.result (pos 0) c.from_fn.ensures.items
