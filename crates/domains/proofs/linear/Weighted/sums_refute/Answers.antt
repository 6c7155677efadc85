use Rattle.std.proofs.Common.{◌≡◌, ℕ, Bool, ◌&&◌, pos, refl, sym, ap, ◌∙◌, w64, rules}
use lib.Signed.{lt_z}
use Rattle.std.proofs.lemmas.Int.{to_z-of_z}
use Rattle.std.proofs.lemmas.Iterator.{YieldsList-from_range}
use Rattle.std.proofs.lemmas.Iterator.Search.{all_from_yields_List}
use Rattle.ints.specs.Tests.{all_below, is_zero}
use Rattle.ints.proofs.Belows.{all_range}
use Rattle.domains.specs.declared.linear.Column.TheVariants.{Coef, Bound}
use Rattle.domains.specs.Linear.{total}
use Rattle.domains.proofs.linear.Weighted.sums_refute.Goals as goal
use Rattle.domains.proofs.linear.Weighted.sums_refute.Goals.{After-all}

all_cancel : (c : After-all) → c.all.result ≡ all_below 16 (λ j. is_zero (total c.args.self.question.facts.now c.args.self.question.goal.now c.args.self.certificate.now (Coef j)))
all_cancel c =
    let z : ℕ → Bool = λ j. is_zero (total c.args.self.question.facts.now c.args.self.question.goal.now c.args.self.certificate.now (Coef j)) in
    all_from_yields_List z _ _ _ c.all.ensures.ran (YieldsList-from_range 0 16 16 refl refl) (λ j b q k. search rules) ∙ all_range z 16

pub returns-then-all : goal.returns-then-all
returns-then-all c =
    let all = all_cancel (goal.at.returns-then-all c).After-all in
    let e = ap (λ x. lt_z x (pos 0)) (to_z-of_z w64 c.total.result (search rules) ∙ c.total.ensures) in
    e ∙ ap (λ b. b && lt_z (total c.args.self.question.facts.now c.args.self.question.goal.now c.args.self.certificate.now Bound) (pos 0)) (sym c.if-all.true ∙ all)

pub returns-else-all : goal.returns-else-all
returns-else-all c =
    let all = all_cancel (goal.at.returns-else-all c).After-all in
    c.if-all.false ∙ ap (λ b. b && lt_z (total c.args.self.question.facts.now c.args.self.question.goal.now c.args.self.certificate.now Bound) (pos 0)) (sym c.if-all.false ∙ all)
