use Rattle.std.proofs.Common.{rules, ℤ, ap, ◌∙◌, w32}
use Rattle.std.proofs.lemmas.Int.{to_z-of_z}
use Rattle.language.specs.Terms.{limited, scaled}
use Rattle.terms.proofs.Limiting.{left-constant, right-constant, none-constant}
use Rattle.terms.proofs.working.multiplied.Goals as goal

pub returns-then-is_constant : goal.returns-then-is_constant
returns-then-is_constant c =
    let t = c.args.t.now in let u = c.args.u.now in
    c.limited.ensures ∙ ap limited (c.scaled.ensures ∙ ap (λ (k : ℤ). scaled k u) (to_z-of_z w32 t.constant (search rules))) ∙ left-constant t u c.if-is_constant.ensures

pub returns-then-is_constant-2 : goal.returns-then-is_constant-2
returns-then-is_constant-2 c =
    let t = c.args.t.now in let u = c.args.u.now in
    c.limited-then-is_constant-2.ensures ∙ ap limited (c.scaled-then-is_constant-2.ensures ∙ ap (λ (k : ℤ). scaled k t) (to_z-of_z w32 u.constant (search rules))) ∙ right-constant t u c.if-is_constant.ensures c.if-is_constant-2.ensures

pub returns-else-is_constant-2 : goal.returns-else-is_constant-2
returns-else-is_constant-2 c = none-constant c.args.t.now c.args.u.now c.if-is_constant.ensures c.if-is_constant-2.ensures
