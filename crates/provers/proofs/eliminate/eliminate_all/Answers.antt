use Rattle.std.proofs.Common.{◌+◌, ◌*◌, sym, ap, ◌∙◌, arith}
use Rattle.provers.specs.Elimination.{without, without_all, from}
use Rattle.provers.proofs.Pushing.{unanswered, leave-on, leave-off, leave-end}
use Rattle.provers.proofs.eliminate.eliminate_all.Goals as goal

pub returns-in_err-eliminate : goal.returns-in_err-eliminate
returns-in_err-eliminate c =
    let a = c.loop-turn.rows.items in let q = 2 * c.loop-turn.turn in
    unanswered c.from_residual.result a c.from_residual.ensures.0 ∙ sym (c.loop-turn.invariant ∙ leave-off q a (omega arith) (c.in_err-eliminate.ensures ∙ ap (without q) c.as_slice.ensures.value))

pub returns-in_err-eliminate-2 : goal.returns-in_err-eliminate-2
returns-in_err-eliminate-2 c =
    let a = c.loop-turn.rows.items in let b = c.eliminate.new.into.items in let q = 2 * c.loop-turn.turn in
    unanswered c.from_residual-in_err-eliminate-2.result c.eliminate-in-loop-turn.new.into.items c.from_residual-in_err-eliminate-2.ensures.0
    ∙ sym (c.loop-turn.invariant ∙ leave-on q a b (omega arith) (c.in_ok-eliminate.ensures ∙ ap (without q) c.as_slice.ensures.value)
    ∙ leave-off (q + 1) b (omega arith) (c.in_err-eliminate-2.ensures ∙ ap (without (q + 1)) c.as_slice-in-loop-turn.ensures.value))

pub loop-turn-preserved : goal.loop-turn-preserved
loop-turn-preserved c =
    let a = c.loop-turn.rows.items in let b = c.eliminate.new.into.items in let q = 2 * c.loop-turn.turn in
    let d = c.eliminate-in-loop-turn.new.into.items in
    c.loop-turn.invariant ∙ leave-on q a b (omega arith) (c.in_ok-eliminate.ensures ∙ ap (without q) c.as_slice.ensures.value)
    ∙ leave-on (q + 1) b d (omega arith) (c.in_ok-eliminate-2.ensures ∙ ap (without (q + 1)) c.as_slice-in-loop-turn.ensures.value)
    ∙ ap (λ n. without_all (from n) d) (omega arith)

pub returns : goal.returns
returns c = sym (c.loop-turn.invariant ∙ leave-end (2 * c.loop-turn.turn) c.loop-turn.rows.items (omega arith))
