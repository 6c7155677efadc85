use Rattle.std.proofs.Common.{◌≡◌, ◌&&◌, sym, ap, ◌∙◌, ap₂, w32, rules}
use lib.Signed.{le_z}
use Rattle.std.proofs.lemmas.Slice.Eq.{slice_eq-Decides}
use Rattle.std.proofs.lemmas.Int.{to_z-of_z}
use Rattle.quoted.specs.Quoting.{same_numbers}
use Rattle.quoted.specs.Quotes.{same_test}
use Rattle.quoted.proofs.quote.is_looser.Goals as goal
use Rattle.quoted.proofs.quote.is_looser.Goals.{After-eq}
use Rattle.std.proofs.lemmas.Bool.Decides.{Decides-int_eq}

same : (c : After-eq) → same_numbers c.args.fact.now.coefs c.args.goal.now.coefs ≡ c.eq.result
same c = ap₂ same_numbers (sym c.coefs.ensures) (sym c.coefs-2.ensures) ∙ same_test c.eq.result c.coefs.result c.coefs-2.result (slice_eq-Decides Decides-int_eq _ _ _ c.eq.ensures)

pub returns-then-eq : goal.returns-then-eq
returns-then-eq c =
    ap₂ le_z (to_z-of_z w32 c.bound.result (search rules) ∙ c.bound.ensures) (to_z-of_z w32 c.bound-then-eq.result (search rules) ∙ c.bound-then-eq.ensures)
    ∙ ap (λ b. b && le_z c.args.fact.now.bound c.args.goal.now.bound) (sym (same (goal.at.returns-then-eq c).After-eq ∙ c.if-eq.true))

pub returns-else-eq : goal.returns-else-eq
returns-else-eq c =
    c.if-eq.false ∙ ap (λ b. b && le_z c.args.fact.now.bound c.args.goal.now.bound) (sym (same (goal.at.returns-else-eq c).After-eq ∙ c.if-eq.false))
