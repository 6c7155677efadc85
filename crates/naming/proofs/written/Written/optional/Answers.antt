use Rattle.std.proofs.Common.{◌≡◌, suc, min, cond, [], false, length, sym, refl, ap, ◌∙◌, arith}
use Rattle.letters.specs.declared.kind.Kind.TheVariants.{Comma}
use Rattle.grammar.specs.Parsers.{is_a}
use Rattle.grammar.specs.Stretches.{condition_at, conditions_at}
use Rattle.grammar.specs.Trees.{look_of}
use Rattle.naming.specs.Sources.{source_of}
use Rattle.naming.proofs.Begins.{left-none}
use Rattle.naming.proofs.SideLists.{clamped}
use Rattle.naming.proofs.written.Written.optional.Goals as goal

pub returns-clause-conditions : goal.returns-clause-conditions
returns-clause-conditions c =
    let w = c.args.self in let l = look_of (source_of w) in let n = length w.tokens.now in let j = c.saturating_add.result in
    let z : min j n ≡ min (suc c.args.at) n = omega (arith, c.saturating_add.ensures, w.few) in
    c.conditions.ensures.conditions ∙ sym (clamped w.tokens.now (length w.text.now) n j) ∙ ap (λ i. (conditions_at n l i).value) z ∙ clamped w.tokens.now (length w.text.now) n (suc c.args.at)
    ∙ ap (λ b. cond b (conditions_at n l (suc c.args.at)).value []) (c.if-not-is.ensures ∙ ap (is_a c.args.keyword) c.token.ensures)

pub returns-then-not-is-clause-conditions : goal.returns-then-not-is-clause-conditions
returns-then-not-is-clause-conditions c =
    let w = c.args.self in let l = look_of (source_of w) in let n = length w.tokens.now in
    left-none l (is_a Comma) (λ t i. condition_at n l i) (condition_at n l 0) 0 false refl ∙ ap (λ b. cond b (conditions_at n l (suc c.args.at)).value []) (c.if-not-is.ensures ∙ ap (is_a c.args.keyword) c.token.ensures)
