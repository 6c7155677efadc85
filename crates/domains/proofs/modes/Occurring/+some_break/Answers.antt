use Rattle.std.proofs.Common.{◌≡◌, ℕ, ◌-◌, Bool, List, set, sym, refl, ap, ◌∙◌, arith}
use Rattle.ints.specs.Tests.{any_below}
use Rattle.ints.proofs.Belows.{any-more, any_found}
use Rattle.rows.specs.declared.row.Row.{Row}
use Rattle.domains.specs.Modes.{broken}
use Rattle.domains.proofs.Trying.{broken-skip, broken-each, broken-none}
use Rattle.domains.proofs.modes.Occurring.+some_break.Goals as goal

-- some values break the goal where the last quantity below n has the value v
abbrev with_last : List Row → Row → ℕ → List ℕ → ℕ → Bool
with_last facts goal n point v = broken facts goal (n - 1) (set point (n - 1) v)

pub returns-then-n-eq0 : goal.returns-then-n-eq0
returns-then-n-eq0 t c = c.breaks_goal.ensures ∙ sym (broken-none c.args.self.now.question.facts.now c.args.self.now.question.goal.now c.args.n c.args.point c.if-n-eq0.true)

pub returns-then-not-self-j : goal.returns-then-not-self-j
returns-then-not-self-j t c = c.some_break.ensures ∙ sym (broken-skip c.args.self.now.question.facts.now c.args.self.now.question.goal.now c.args.n c.args.point c.if-n-eq0.false (sym (c.args.self.now.flagged _ (omega arith)) ∙ c.if-not-self-j.true))

pub loop-v-init : goal.loop-v-init
unfolding any_below
loop-v-init t c = refl

pub returns-then-some_break : goal.returns-then-some_break
returns-then-some_break t c =
    let f = with_last c.args.self.now.question.facts.now c.args.self.now.question.goal.now c.args.n c.args.point in
    sym (broken-each c.args.self.now.question.facts.now c.args.self.now.question.goal.now c.args.n c.args.point c.if-n-eq0.false (sym (c.args.self.now.flagged _ (omega arith)) ∙ c.if-not-self-j.false) ∙ any_found f 16 c.loop-v.v (omega arith) (sym c.if-some_break.ensures))

pub loop-v-preserved : goal.loop-v-preserved
loop-v-preserved t c =
    let f = with_last c.args.self.now.question.facts.now c.args.self.now.question.goal.now c.args.n c.args.point in
    any-more f c.loop-v.v c.loop-v.invariant (sym c.if-some_break.ensures)

pub returns : goal.returns
returns t c =
    let f = with_last c.args.self.now.question.facts.now c.args.self.now.question.goal.now c.args.n c.args.point in
    let e : c.loop-v.v ≡ 16 = omega arith in
    sym (broken-each c.args.self.now.question.facts.now c.args.self.now.question.goal.now c.args.n c.args.point c.if-n-eq0.false (sym (c.args.self.now.flagged _ (omega arith)) ∙ c.if-not-self-j.false) ∙ ap (λ n. any_below n f) (sym e) ∙ c.loop-v.invariant)
