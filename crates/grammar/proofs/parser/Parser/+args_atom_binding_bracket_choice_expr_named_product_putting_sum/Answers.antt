-- Each return is one way through the grammar: what was taken before it, step by step.
use Rattle.std.proofs.Common.{true, sym, refl, arith}
use Rattle.grammar.specs.Raw.{name, calc, read, call, bind, test, put, claim, nest}
use Rattle.grammar.proofs.Laws.{lasts_on, bumped-lasts, nexts, on-yes, on-no, wanted-here, stops, gives, seq-ok, seq-err, then_ok, broke}
use Rattle.grammar.proofs.Loops.{turn_on, turn-err, turn_end}
use Rattle.grammar.proofs.Makes.{same-token, keep-token, keep, keep-args, pushes, pushes-args, c-none, arg-made, arg-fails}
use Rattle.grammar.proofs.Levels.{expr-by, sum_by, product-by, atom-by, args_by-law, sum-chained, product-chained, args-chained, keep-conditions}
use Rattle.grammar.proofs.parser.Parser.+args_atom_binding_bracket_choice_expr_named_product_putting_sum.Goals as goal

pub binding-returns-in_err-name-clause-went : goal.binding-returns-in_err-name-clause-went
binding-returns-in_err-name-clause-went t c = broke c.from_residual.ensures.1 (seq-err _ c.in_err-name.ensures.went)

pub binding-returns-in_err-take-clause-went : goal.binding-returns-in_err-take-clause-went
binding-returns-in_err-take-clause-went t c = broke c.from_residual-in_err-take.ensures.1 (seq-ok _ c.in_ok-name.ensures.went (seq-err _ c.in_err-take.ensures.went))

pub binding-returns-in_err-bound-clause-went : goal.binding-returns-in_err-bound-clause-went
binding-returns-in_err-bound-clause-went t c = broke c.from_residual-in_err-bound.ensures.1 (seq-ok _ c.in_ok-name.ensures.went (seq-ok _ c.in_ok-take.ensures.went (seq-err _ c.in_err-bound.ensures.went)))

pub binding-returns-in_err-take-2-clause-went : goal.binding-returns-in_err-take-2-clause-went
binding-returns-in_err-take-2-clause-went t c = broke c.from_residual-in_err-take-2.ensures.1 (seq-ok _ c.in_ok-name.ensures.went (seq-ok _ c.in_ok-take.ensures.went (seq-ok _ c.in_ok-bound.ensures.went (seq-err _ c.in_err-take-2.ensures.went))))

pub binding-returns-in_err-body-clause-went : goal.binding-returns-in_err-body-clause-went
binding-returns-in_err-body-clause-went t c = broke c.from_residual-in_err-body.ensures.1 (seq-ok _ c.in_ok-name.ensures.went (seq-ok _ c.in_ok-take.ensures.went (seq-ok _ c.in_ok-bound.ensures.went (seq-ok _ c.in_ok-take-2.ensures.went (seq-err _ c.in_err-body.ensures.went)))))

pub binding-returns-clause-went : goal.binding-returns-clause-went
binding-returns-clause-went t c = seq-ok _ c.in_ok-name.ensures.went (seq-ok _ c.in_ok-take.ensures.went (seq-ok _ c.in_ok-bound.ensures.went (seq-ok _ c.in_ok-take-2.ensures.went (seq-ok _ c.in_ok-body.ensures.went (pushes c.push.ensures refl (λ i. bind ((same-token (lasts_on c.in_ok-name.ensures.went.told.lasts (lasts_on c.in_ok-take.ensures.went.told.lasts (lasts_on c.in_ok-bound.ensures.went.told.lasts (lasts_on c.in_ok-take-2.ensures.went.told.lasts c.in_ok-body.ensures.went.told.lasts)))) c.args.token) i) ((keep-token (lasts_on c.in_ok-take.ensures.went.told.lasts (lasts_on c.in_ok-bound.ensures.went.told.lasts (lasts_on c.in_ok-take-2.ensures.went.told.lasts c.in_ok-body.ensures.went.told.lasts))) c.in_ok-name.ensures.went.told.rel).reads i) ((keep (lasts_on c.in_ok-take-2.ensures.went.told.lasts c.in_ok-body.ensures.went.told.lasts) c.in_ok-bound.ensures.went.told.rel).reads i) (c.in_ok-body.ensures.went.told.rel.reads i)))))))

pub choice-returns-in_err-left-clause-went : goal.choice-returns-in_err-left-clause-went
choice-returns-in_err-left-clause-went t c = broke c.from_residual.ensures.1 (seq-err _ c.in_err-left.ensures.went)

pub choice-returns-in_err-sign-clause-went : goal.choice-returns-in_err-sign-clause-went
choice-returns-in_err-sign-clause-went t c = broke c.from_residual-in_err-sign.ensures.1 (seq-ok _ c.in_ok-left.ensures.went (seq-err _ c.in_err-sign.ensures.went))

pub choice-returns-in_err-right-clause-went : goal.choice-returns-in_err-right-clause-went
choice-returns-in_err-right-clause-went t c = broke c.from_residual-in_err-right.ensures.1 (seq-ok _ c.in_ok-left.ensures.went (seq-ok _ c.in_ok-sign.ensures.went (seq-err _ c.in_err-right.ensures.went)))

pub choice-returns-in_err-take-clause-went : goal.choice-returns-in_err-take-clause-went
choice-returns-in_err-take-clause-went t c = broke c.from_residual-in_err-take.ensures.1 (seq-ok _ c.in_ok-left.ensures.went (seq-ok _ c.in_ok-sign.ensures.went (seq-ok _ c.in_ok-right.ensures.went (seq-err _ c.in_err-take.ensures.went))))

pub choice-returns-in_err-met-clause-went : goal.choice-returns-in_err-met-clause-went
choice-returns-in_err-met-clause-went t c = broke c.from_residual-in_err-met.ensures.1 (seq-ok _ c.in_ok-left.ensures.went (seq-ok _ c.in_ok-sign.ensures.went (seq-ok _ c.in_ok-right.ensures.went (seq-ok _ c.in_ok-take.ensures.went (seq-err _ c.in_err-met.ensures.went)))))

pub choice-returns-in_err-take-2-clause-went : goal.choice-returns-in_err-take-2-clause-went
choice-returns-in_err-take-2-clause-went t c = broke c.from_residual-in_err-take-2.ensures.1 (seq-ok _ c.in_ok-left.ensures.went (seq-ok _ c.in_ok-sign.ensures.went (seq-ok _ c.in_ok-right.ensures.went (seq-ok _ c.in_ok-take.ensures.went (seq-ok _ c.in_ok-met.ensures.went (seq-err _ c.in_err-take-2.ensures.went))))))

pub choice-returns-in_err-unmet-clause-went : goal.choice-returns-in_err-unmet-clause-went
choice-returns-in_err-unmet-clause-went t c = broke c.from_residual-in_err-unmet.ensures.1 (seq-ok _ c.in_ok-left.ensures.went (seq-ok _ c.in_ok-sign.ensures.went (seq-ok _ c.in_ok-right.ensures.went (seq-ok _ c.in_ok-take.ensures.went (seq-ok _ c.in_ok-met.ensures.went (seq-ok _ c.in_ok-take-2.ensures.went (seq-err _ c.in_err-unmet.ensures.went)))))))

pub choice-returns-clause-went : goal.choice-returns-clause-went
choice-returns-clause-went t c = seq-ok _ c.in_ok-left.ensures.went (seq-ok _ c.in_ok-sign.ensures.went (seq-ok _ c.in_ok-right.ensures.went (seq-ok _ c.in_ok-take.ensures.went (seq-ok _ c.in_ok-met.ensures.went (seq-ok _ c.in_ok-take-2.ensures.went (seq-ok _ c.in_ok-unmet.ensures.went (pushes c.push.ensures refl (λ i. test ((same-token (lasts_on c.in_ok-left.ensures.went.told.lasts (lasts_on c.in_ok-sign.ensures.went.told.lasts (lasts_on c.in_ok-right.ensures.went.told.lasts (lasts_on c.in_ok-take.ensures.went.told.lasts (lasts_on c.in_ok-met.ensures.went.told.lasts (lasts_on c.in_ok-take-2.ensures.went.told.lasts c.in_ok-unmet.ensures.went.told.lasts)))))) c.args.token) i) ((keep-token (lasts_on c.in_ok-right.ensures.went.told.lasts (lasts_on c.in_ok-take.ensures.went.told.lasts (lasts_on c.in_ok-met.ensures.went.told.lasts (lasts_on c.in_ok-take-2.ensures.went.told.lasts c.in_ok-unmet.ensures.went.told.lasts)))) c.in_ok-sign.ensures.went.told.rel).reads i) ((keep (lasts_on c.in_ok-sign.ensures.went.told.lasts (lasts_on c.in_ok-right.ensures.went.told.lasts (lasts_on c.in_ok-take.ensures.went.told.lasts (lasts_on c.in_ok-met.ensures.went.told.lasts (lasts_on c.in_ok-take-2.ensures.went.told.lasts c.in_ok-unmet.ensures.went.told.lasts))))) c.in_ok-left.ensures.went.told.rel).reads i) ((keep (lasts_on c.in_ok-take.ensures.went.told.lasts (lasts_on c.in_ok-met.ensures.went.told.lasts (lasts_on c.in_ok-take-2.ensures.went.told.lasts c.in_ok-unmet.ensures.went.told.lasts))) c.in_ok-right.ensures.went.told.rel).reads i) ((keep (lasts_on c.in_ok-take-2.ensures.went.told.lasts c.in_ok-unmet.ensures.went.told.lasts) c.in_ok-met.ensures.went.told.rel).reads i) (c.in_ok-unmet.ensures.went.told.rel.reads i)))))))))

pub putting-returns-in_err-name-clause-went : goal.putting-returns-in_err-name-clause-went
putting-returns-in_err-name-clause-went t c = broke c.from_residual.ensures.1 (seq-err _ c.in_err-name.ensures.went)

pub putting-returns-in_err-take-clause-went : goal.putting-returns-in_err-take-clause-went
putting-returns-in_err-take-clause-went t c = broke c.from_residual-in_err-take.ensures.1 (seq-ok _ c.in_ok-name.ensures.went (seq-err _ c.in_err-take.ensures.went))

pub putting-returns-in_err-index-clause-went : goal.putting-returns-in_err-index-clause-went
putting-returns-in_err-index-clause-went t c = broke c.from_residual-in_err-index.ensures.1 (seq-ok _ c.in_ok-name.ensures.went (seq-ok _ c.in_ok-take.ensures.went (seq-err _ c.in_err-index.ensures.went)))

pub putting-returns-in_err-take-2-clause-went : goal.putting-returns-in_err-take-2-clause-went
putting-returns-in_err-take-2-clause-went t c = broke c.from_residual-in_err-take-2.ensures.1 (seq-ok _ c.in_ok-name.ensures.went (seq-ok _ c.in_ok-take.ensures.went (seq-ok _ c.in_ok-index.ensures.went (seq-err _ c.in_err-take-2.ensures.went))))

pub putting-returns-in_err-take-3-clause-went : goal.putting-returns-in_err-take-3-clause-went
putting-returns-in_err-take-3-clause-went t c = broke c.from_residual-in_err-take-3.ensures.1 (seq-ok _ c.in_ok-name.ensures.went (seq-ok _ c.in_ok-take.ensures.went (seq-ok _ c.in_ok-index.ensures.went (seq-ok _ c.in_ok-take-2.ensures.went (seq-err _ c.in_err-take-3.ensures.went)))))

pub putting-returns-in_err-value-clause-went : goal.putting-returns-in_err-value-clause-went
putting-returns-in_err-value-clause-went t c = broke c.from_residual-in_err-value.ensures.1 (seq-ok _ c.in_ok-name.ensures.went (seq-ok _ c.in_ok-take.ensures.went (seq-ok _ c.in_ok-index.ensures.went (seq-ok _ c.in_ok-take-2.ensures.went (seq-ok _ c.in_ok-take-3.ensures.went (seq-err _ c.in_err-value.ensures.went))))))

pub putting-returns-in_err-take-4-clause-went : goal.putting-returns-in_err-take-4-clause-went
putting-returns-in_err-take-4-clause-went t c = broke c.from_residual-in_err-take-4.ensures.1 (seq-ok _ c.in_ok-name.ensures.went (seq-ok _ c.in_ok-take.ensures.went (seq-ok _ c.in_ok-index.ensures.went (seq-ok _ c.in_ok-take-2.ensures.went (seq-ok _ c.in_ok-take-3.ensures.went (seq-ok _ c.in_ok-value.ensures.went (seq-err _ c.in_err-take-4.ensures.went)))))))

pub putting-returns-in_err-rest-clause-went : goal.putting-returns-in_err-rest-clause-went
putting-returns-in_err-rest-clause-went t c = broke c.from_residual-in_err-rest.ensures.1 (seq-ok _ c.in_ok-name.ensures.went (seq-ok _ c.in_ok-take.ensures.went (seq-ok _ c.in_ok-index.ensures.went (seq-ok _ c.in_ok-take-2.ensures.went (seq-ok _ c.in_ok-take-3.ensures.went (seq-ok _ c.in_ok-value.ensures.went (seq-ok _ c.in_ok-take-4.ensures.went (seq-err _ c.in_err-rest.ensures.went))))))))

pub putting-returns-clause-went : goal.putting-returns-clause-went
putting-returns-clause-went t c = seq-ok _ c.in_ok-name.ensures.went (seq-ok _ c.in_ok-take.ensures.went (seq-ok _ c.in_ok-index.ensures.went (seq-ok _ c.in_ok-take-2.ensures.went (seq-ok _ c.in_ok-take-3.ensures.went (seq-ok _ c.in_ok-value.ensures.went (seq-ok _ c.in_ok-take-4.ensures.went (seq-ok _ c.in_ok-rest.ensures.went (pushes c.push.ensures refl (λ i. put ((same-token (lasts_on c.in_ok-name.ensures.went.told.lasts (lasts_on c.in_ok-take.ensures.went.told.lasts (lasts_on c.in_ok-index.ensures.went.told.lasts (lasts_on c.in_ok-take-2.ensures.went.told.lasts (lasts_on c.in_ok-take-3.ensures.went.told.lasts (lasts_on c.in_ok-value.ensures.went.told.lasts (lasts_on c.in_ok-take-4.ensures.went.told.lasts c.in_ok-rest.ensures.went.told.lasts))))))) c.args.token) i) ((keep-token (lasts_on c.in_ok-take.ensures.went.told.lasts (lasts_on c.in_ok-index.ensures.went.told.lasts (lasts_on c.in_ok-take-2.ensures.went.told.lasts (lasts_on c.in_ok-take-3.ensures.went.told.lasts (lasts_on c.in_ok-value.ensures.went.told.lasts (lasts_on c.in_ok-take-4.ensures.went.told.lasts c.in_ok-rest.ensures.went.told.lasts)))))) c.in_ok-name.ensures.went.told.rel).reads i) ((keep (lasts_on c.in_ok-take-2.ensures.went.told.lasts (lasts_on c.in_ok-take-3.ensures.went.told.lasts (lasts_on c.in_ok-value.ensures.went.told.lasts (lasts_on c.in_ok-take-4.ensures.went.told.lasts c.in_ok-rest.ensures.went.told.lasts)))) c.in_ok-index.ensures.went.told.rel).reads i) ((keep (lasts_on c.in_ok-take-4.ensures.went.told.lasts c.in_ok-rest.ensures.went.told.lasts) c.in_ok-value.ensures.went.told.rel).reads i) (c.in_ok-rest.ensures.went.told.rel.reads i))))))))))

pub expr-returns-then-sees-clause-went : goal.expr-returns-then-sees-clause-went
expr-returns-then-sees-clause-went t c = expr-by (on-yes _ _ _ (sym c.if-sees.ensures.told) (seq-ok _ (nexts c.bump-token.ensures.token c.bump-token.ensures.bumped) c.binding.ensures.went))

pub expr-returns-then-sees-2-clause-went : goal.expr-returns-then-sees-2-clause-went
expr-returns-then-sees-2-clause-went t c = expr-by (on-no _ _ _ (sym c.if-sees.ensures.told) (on-yes _ _ _ (sym c.if-sees-2.ensures.told) (seq-ok _ (nexts c.bump-token-then-sees-2.ensures.token c.bump-token-then-sees-2.ensures.bumped) c.choice.ensures.went)))

pub expr-returns-then-sees-3-clause-went : goal.expr-returns-then-sees-3-clause-went
expr-returns-then-sees-3-clause-went t c = expr-by (on-no _ _ _ (sym c.if-sees.ensures.told) (on-no _ _ _ (sym c.if-sees-2.ensures.told) (on-yes _ _ _ (sym c.if-sees-3.ensures.told) (seq-ok _ (nexts c.bump-token-then-sees-3.ensures.token c.bump-token-then-sees-3.ensures.bumped) c.putting.ensures.went))))

pub expr-returns-else-sees-3-clause-went : goal.expr-returns-else-sees-3-clause-went
expr-returns-else-sees-3-clause-went t c = expr-by (on-no _ _ _ (sym c.if-sees.ensures.told) (on-no _ _ _ (sym c.if-sees-2.ensures.told) (on-no _ _ _ (sym c.if-sees-3.ensures.told) c.sum.ensures.went)))

pub atom-returns-then-sees-clause-went : goal.atom-returns-then-sees-clause-went
atom-returns-then-sees-clause-went t c = atom-by (on-yes _ _ _ (sym c.if-sees.ensures.told) (seq-ok _ (nexts c.bump-token.ensures.token c.bump-token.ensures.bumped) (pushes c.push.ensures refl refl)))

pub atom-returns-then-sees-2-clause-went : goal.atom-returns-then-sees-2-clause-went
atom-returns-then-sees-2-clause-went t c = atom-by (on-no _ _ _ (sym c.if-sees.ensures.told) (on-yes _ _ _ (sym c.if-sees-2.ensures.told) (wanted-here _ _ (sym c.if-sees-2.ensures.told) c.named.ensures.went)))

pub atom-returns-then-sees-3-clause-went : goal.atom-returns-then-sees-3-clause-went
atom-returns-then-sees-3-clause-went t c = atom-by (on-no _ _ _ (sym c.if-sees.ensures.told) (on-no _ _ _ (sym c.if-sees-2.ensures.told) (on-yes _ _ _ (sym c.if-sees-3.ensures.told) (seq-ok _ (nexts c.bump-token-then-sees-3.ensures.token c.bump-token-then-sees-3.ensures.bumped) c.bracket.ensures.went))))

pub atom-returns-else-sees-3-clause-went : goal.atom-returns-else-sees-3-clause-went
atom-returns-else-sees-3-clause-went t c = atom-by (on-no _ _ _ (sym c.if-sees.ensures.told) (on-no _ _ _ (sym c.if-sees-2.ensures.told) (on-no _ _ _ (sym c.if-sees-3.ensures.told) (stops c.fault.ensures))))

pub named-returns-in_err-name-clause-went : goal.named-returns-in_err-name-clause-went
named-returns-in_err-name-clause-went t c = broke c.from_residual.ensures.1 (seq-err _ c.in_err-name.ensures.went)

pub named-returns-in_err-index-clause-went : goal.named-returns-in_err-index-clause-went
named-returns-in_err-index-clause-went t c = broke c.from_residual-in_err-index.ensures.1 (seq-ok _ c.in_ok-name.ensures.went (on-yes _ _ _ (sym c.if-sees.ensures.told) (seq-ok _ (nexts c.bump.ensures.token c.bump.ensures.bumped) (seq-err _ c.in_err-index.ensures.went))))

pub named-returns-in_err-take-clause-went : goal.named-returns-in_err-take-clause-went
named-returns-in_err-take-clause-went t c = broke c.from_residual-in_err-take.ensures.1 (seq-ok _ c.in_ok-name.ensures.went (on-yes _ _ _ (sym c.if-sees.ensures.told) (seq-ok _ (nexts c.bump.ensures.token c.bump.ensures.bumped) (seq-ok _ c.in_ok-index.ensures.went (seq-err _ c.in_err-take.ensures.went)))))

pub named-returns-in_ok-take-clause-went : goal.named-returns-in_ok-take-clause-went
named-returns-in_ok-take-clause-went t c = seq-ok _ c.in_ok-name.ensures.went (on-yes _ _ _ (sym c.if-sees.ensures.told) (seq-ok _ (nexts c.bump.ensures.token c.bump.ensures.bumped) (seq-ok _ c.in_ok-index.ensures.went (seq-ok _ c.in_ok-take.ensures.went (pushes c.push.ensures refl (λ i. read ((keep-token (lasts_on (bumped-lasts c.bump.ensures.bumped) (lasts_on c.in_ok-index.ensures.went.told.lasts c.in_ok-take.ensures.went.told.lasts)) c.in_ok-name.ensures.went.told.rel).reads i) ((keep c.in_ok-take.ensures.went.told.lasts c.in_ok-index.ensures.went.told.rel).reads i)))))))

pub named-returns-in_err-args-clause-went : goal.named-returns-in_err-args-clause-went
named-returns-in_err-args-clause-went t c = broke c.from_residual-in_err-args.ensures.1 (seq-ok _ c.in_ok-name.ensures.went (on-no _ _ _ (sym c.if-sees.ensures.told) (on-yes _ _ _ (sym c.if-sees-2.ensures.told) (seq-ok _ (nexts c.bump-then-sees-2.ensures.token c.bump-then-sees-2.ensures.bumped) (seq-err _ c.in_err-args.ensures.went)))))

pub named-returns-in_ok-args-clause-went : goal.named-returns-in_ok-args-clause-went
named-returns-in_ok-args-clause-went t c = seq-ok _ c.in_ok-name.ensures.went (on-no _ _ _ (sym c.if-sees.ensures.told) (on-yes _ _ _ (sym c.if-sees-2.ensures.told) (seq-ok _ (nexts c.bump-then-sees-2.ensures.token c.bump-then-sees-2.ensures.bumped) (seq-ok _ c.in_ok-args.ensures.went (pushes c.push-then-sees-2.ensures refl (λ i. call ((keep-token (lasts_on (bumped-lasts c.bump-then-sees-2.ensures.bumped) c.in_ok-args.ensures.went.told.lasts) c.in_ok-name.ensures.went.told.rel).reads i) (c.in_ok-args.ensures.went.told.rel.reads i)))))))

pub named-returns-else-sees-2-clause-went : goal.named-returns-else-sees-2-clause-went
named-returns-else-sees-2-clause-went t c = seq-ok _ c.in_ok-name.ensures.went (on-no _ _ _ (sym c.if-sees.ensures.told) (on-no _ _ _ (sym c.if-sees-2.ensures.told) (pushes c.push-else-sees-2.ensures refl (λ i. name (c.in_ok-name.ensures.went.told.rel.reads i)))))

pub bracket-returns-in_err-inner-clause-went : goal.bracket-returns-in_err-inner-clause-went
bracket-returns-in_err-inner-clause-went t c = broke c.from_residual.ensures.1 (seq-err _ c.in_err-inner.ensures.went)

pub bracket-returns-in_err-conditions-clause-went : goal.bracket-returns-in_err-conditions-clause-went
bracket-returns-in_err-conditions-clause-went t c = broke c.from_residual-in_err-conditions.ensures.1 (seq-ok _ c.in_ok-inner.ensures.went (on-yes _ _ _ (sym c.if-sees.ensures.told) (seq-ok _ (nexts c.bump-keyword.ensures.token c.bump-keyword.ensures.bumped) (seq-err _ c.in_err-conditions.ensures.went))))

pub bracket-returns-in_err-take-clause-went : goal.bracket-returns-in_err-take-clause-went
bracket-returns-in_err-take-clause-went t c = broke c.from_residual-in_err-take.ensures.1 (seq-ok _ c.in_ok-inner.ensures.went (on-yes _ _ _ (sym c.if-sees.ensures.told) (seq-ok _ (nexts c.bump-keyword.ensures.token c.bump-keyword.ensures.bumped) (seq-ok _ c.in_ok-conditions.ensures.went (seq-err _ c.in_err-take.ensures.went)))))

pub bracket-returns-in_ok-take-clause-went : goal.bracket-returns-in_ok-take-clause-went
bracket-returns-in_ok-take-clause-went t c = seq-ok _ c.in_ok-inner.ensures.went (on-yes _ _ _ (sym c.if-sees.ensures.told) (seq-ok _ (nexts c.bump-keyword.ensures.token c.bump-keyword.ensures.bumped) (seq-ok _ c.in_ok-conditions.ensures.went (seq-ok _ c.in_ok-take.ensures.went (pushes c.push.ensures refl (λ i. claim ((same-token (lasts_on c.in_ok-conditions.ensures.went.told.lasts c.in_ok-take.ensures.went.told.lasts) c.bump-keyword.result) i) ((keep (lasts_on (bumped-lasts c.bump-keyword.ensures.bumped) (lasts_on c.in_ok-conditions.ensures.went.told.lasts c.in_ok-take.ensures.went.told.lasts)) c.in_ok-inner.ensures.went.told.rel).reads i) ((keep-conditions (lasts_on c.in_ok-conditions.ensures.went.told.lasts c.in_ok-take.ensures.went.told.lasts) true _ c.in_ok-conditions.ensures.went.told.came) i)))))))

pub bracket-returns-in_err-take-2-clause-went : goal.bracket-returns-in_err-take-2-clause-went
bracket-returns-in_err-take-2-clause-went t c = broke c.from_residual-in_err-take-2.ensures.1 (seq-ok _ c.in_ok-inner.ensures.went (on-no _ _ _ (sym c.if-sees.ensures.told) (seq-err _ c.in_err-take-2.ensures.went)))

pub bracket-returns-in_ok-take-2-clause-went : goal.bracket-returns-in_ok-take-2-clause-went
bracket-returns-in_ok-take-2-clause-went t c = seq-ok _ c.in_ok-inner.ensures.went (on-no _ _ _ (sym c.if-sees.ensures.told) (seq-ok _ c.in_ok-take-2.ensures.went (pushes c.push-else-sees.ensures refl (λ i. nest ((same-token (lasts_on c.in_ok-inner.ensures.went.told.lasts c.in_ok-take-2.ensures.went.told.lasts) c.args.token) i) ((keep c.in_ok-take-2.ensures.went.told.lasts c.in_ok-inner.ensures.went.told.rel).reads i)))))

pub sum-returns-in_err-left-clause-went : goal.sum-returns-in_err-left-clause-went
sum-returns-in_err-left-clause-went t c = broke c.from_residual.ensures.1 (sum_by (seq-err _ c.in_err-left.ensures.went))

pub sum-loop-self-preserved : goal.sum-loop-self-preserved
sum-loop-self-preserved t c = turn_on sum-chained c.loop-self.invariant c.loop-self-test.ensures.told (nexts c.bump-sign.ensures.token c.bump-sign.ensures.bumped) (λ x h. seq-ok _ c.in_ok-right.ensures.went (pushes c.push-left.ensures refl (λ i. calc ((same-token c.in_ok-right.ensures.went.told.lasts c.bump-sign.result) i) ((keep (lasts_on (bumped-lasts c.bump-sign.ensures.bumped) c.in_ok-right.ensures.went.told.lasts) h).reads i) (c.in_ok-right.ensures.went.told.rel.reads i)))) (omega (arith, c.args.self.now.within.0, c.loop-self.invariant.paid, c.bump-sign.ensures.bumped.count, c.bump-sign.ensures.bumped.at, c.in_ok-right.ensures.paid, c.push-left.ensures.count, c.push-left.ensures.at)) (omega (arith, c.loop-self.invariant.size, c.bump-sign.ensures.bumped.size, c.in_ok-right.ensures.went.size, c.push-left.ensures.size)) (omega (arith, c.loop-self.invariant.ahead, c.bump-sign.ensures.bumped.at, c.in_ok-right.ensures.went.ahead, c.push-left.ensures.at))

pub sum-returns-in_err-right-clause-went : goal.sum-returns-in_err-right-clause-went
sum-returns-in_err-right-clause-went t c = broke c.from_residual-in_err-right.ensures.1 (sum_by (seq-ok _ c.in_ok-left.ensures.went (turn-err sum-chained c.loop-self.invariant c.loop-self-test.ensures.told (nexts c.bump-sign.ensures.token c.bump-sign.ensures.bumped) (λ x h. seq-err _ c.in_err-right.ensures.went) _ c.in_ok-left.ensures.went.told.rel)))

pub sum-returns-clause-went : goal.sum-returns-clause-went
sum-returns-clause-went t c = sum_by (seq-ok _ c.in_ok-left.ensures.went (turn_end sum-chained c.loop-self.invariant c.loop-self-test.ensures.told _ c.in_ok-left.ensures.went.told.rel))

pub product-returns-in_err-left-clause-went : goal.product-returns-in_err-left-clause-went
product-returns-in_err-left-clause-went t c = broke c.from_residual.ensures.1 (product-by (seq-err _ c.in_err-left.ensures.went))

pub product-loop-self-preserved : goal.product-loop-self-preserved
product-loop-self-preserved t c = turn_on product-chained c.loop-self.invariant c.loop-self-test.ensures.told (nexts c.bump-sign.ensures.token c.bump-sign.ensures.bumped) (λ x h. seq-ok _ c.in_ok-right.ensures.went (pushes c.push-left.ensures refl (λ i. calc ((same-token c.in_ok-right.ensures.went.told.lasts c.bump-sign.result) i) ((keep (lasts_on (bumped-lasts c.bump-sign.ensures.bumped) c.in_ok-right.ensures.went.told.lasts) h).reads i) (c.in_ok-right.ensures.went.told.rel.reads i)))) (omega (arith, c.args.self.now.within.0, c.loop-self.invariant.paid, c.bump-sign.ensures.bumped.count, c.bump-sign.ensures.bumped.at, c.in_ok-right.ensures.paid, c.push-left.ensures.count, c.push-left.ensures.at)) (omega (arith, c.loop-self.invariant.size, c.bump-sign.ensures.bumped.size, c.in_ok-right.ensures.went.size, c.push-left.ensures.size)) (omega (arith, c.loop-self.invariant.ahead, c.bump-sign.ensures.bumped.at, c.in_ok-right.ensures.went.ahead, c.push-left.ensures.at))

pub product-returns-in_err-right-clause-went : goal.product-returns-in_err-right-clause-went
product-returns-in_err-right-clause-went t c = broke c.from_residual-in_err-right.ensures.1 (product-by (seq-ok _ c.in_ok-left.ensures.went (turn-err product-chained c.loop-self.invariant c.loop-self-test.ensures.told (nexts c.bump-sign.ensures.token c.bump-sign.ensures.bumped) (λ x h. seq-err _ c.in_err-right.ensures.went) _ c.in_ok-left.ensures.went.told.rel)))

pub product-returns-clause-went : goal.product-returns-clause-went
product-returns-clause-went t c = product-by (seq-ok _ c.in_ok-left.ensures.went (turn_end product-chained c.loop-self.invariant c.loop-self-test.ensures.told _ c.in_ok-left.ensures.went.told.rel))

pub args-returns-then-sees-clause-went : goal.args-returns-then-sees-clause-went
args-returns-then-sees-clause-went t c = args_by-law (then_ok (pushes-args c.push-none.ensures refl refl) (on-yes _ _ _ (sym c.if-sees.ensures.told) (seq-ok _ (nexts c.bump.ensures.token c.bump.ensures.bumped) (gives (keep-args (bumped-lasts c.bump.ensures.bumped) (c-none c.push-none.ensures))))))

pub args-returns-in_err-first-clause-went : goal.args-returns-in_err-first-clause-went
args-returns-in_err-first-clause-went t c = broke c.from_residual.ensures.1 (args_by-law (then_ok (pushes-args c.push-none.ensures refl refl) (on-no _ _ _ (sym c.if-sees.ensures.told) (seq-err _ (arg-fails _ c.in_err-first.ensures.went)))))

pub args-loop-self-preserved : goal.args-loop-self-preserved
args-loop-self-preserved t c = turn_on args-chained c.loop-self.invariant c.loop-self-test.ensures.told (nexts c.bump-in-loop-self.ensures.token c.bump-in-loop-self.ensures.bumped) (λ x h. arg-made (keep-args (bumped-lasts c.bump-in-loop-self.ensures.bumped) h) c.in_ok-next.ensures.went c.push-args-in-loop-self.ensures) (omega (arith, c.args.self.now.within.0, c.loop-self.invariant.paid, c.bump-in-loop-self.ensures.bumped.count, c.bump-in-loop-self.ensures.bumped.at, c.in_ok-next.ensures.paid, c.push-args-in-loop-self.ensures.count, c.push-args-in-loop-self.ensures.at)) (omega (arith, c.loop-self.invariant.size, c.bump-in-loop-self.ensures.bumped.size, c.in_ok-next.ensures.went.size, c.push-args-in-loop-self.ensures.size)) (omega (arith, c.loop-self.invariant.ahead, c.bump-in-loop-self.ensures.bumped.at, c.in_ok-next.ensures.went.ahead, c.push-args-in-loop-self.ensures.at))

pub args-returns-in_err-next-clause-went : goal.args-returns-in_err-next-clause-went
args-returns-in_err-next-clause-went t c =
    let first = arg-made (c-none c.push-none.ensures) c.in_ok-first.ensures.went c.push-args.ensures in
    broke c.from_residual-in_err-next.ensures.1 (args_by-law (then_ok (pushes-args c.push-none.ensures refl refl) (on-no _ _ _ (sym c.if-sees.ensures.told) (seq-ok _ first (seq-err _ (turn-err args-chained c.loop-self.invariant c.loop-self-test.ensures.told (nexts c.bump-in-loop-self.ensures.token c.bump-in-loop-self.ensures.bumped) (λ x h. arg-fails x c.in_err-next.ensures.went) _ first.told.rel))))))

pub args-returns-in_err-take-clause-went : goal.args-returns-in_err-take-clause-went
args-returns-in_err-take-clause-went t c =
    let first = arg-made (c-none c.push-none.ensures) c.in_ok-first.ensures.went c.push-args.ensures in
    broke c.from_residual-in_err-take.ensures.1 (args_by-law (then_ok (pushes-args c.push-none.ensures refl refl) (on-no _ _ _ (sym c.if-sees.ensures.told) (seq-ok _ first (seq-ok _ (turn_end args-chained c.loop-self.invariant c.loop-self-test.ensures.told _ first.told.rel) (seq-err _ c.in_err-take.ensures.went))))))

pub args-returns-clause-went : goal.args-returns-clause-went
args-returns-clause-went t c =
    let first = arg-made (c-none c.push-none.ensures) c.in_ok-first.ensures.went c.push-args.ensures in
    let all = turn_end args-chained c.loop-self.invariant c.loop-self-test.ensures.told _ first.told.rel in
    args_by-law (then_ok (pushes-args c.push-none.ensures refl refl) (on-no _ _ _ (sym c.if-sees.ensures.told) (seq-ok _ first (seq-ok _ all (seq-ok _ c.in_ok-take.ensures.went (gives (keep-args c.in_ok-take.ensures.went.told.lasts all.told.rel)))))))
