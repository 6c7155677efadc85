use Rattle.std.proofs.Common.{refl, sym, ap, ◌∙◌, suc, Ok, Err, Some, ◌≡◌, subst, pos, int_le, int_lt}
use Rattle.std.proofs.Math.Facts.{to_z-of_z}
use Rattle.language.specs.declared.check.Check.TheVariants.{Below, Above}
use Rattle.language.specs.declared.part.Part.{Part}
use Rattle.language.specs.Drafts.{marked}
use Rattle.language.specs.Running.{check, cell_of, part_at}
use Rattle.running.specs.Ending.{Ends, HasCell, state_of}
use Rattle.running.proofs.Ending.{ends-as, ends-stop, ends-then, tame-rest, ends-quiet}
use Rattle.running.proofs.Steps.{has_cell, cell_inside, cell_given}
use Rattle.running.proofs.runner.Runner.touch.Goals as goal

pub returns-in_err-check-clause-ends : goal.returns-in_err-check-clause-ends
returns-in_err-check-clause-ends c =
    let w = c.args.self.now in let v = c.check.new.self in let S = marked c.args.frame.program.dropped.now in let e = c.in_err-check.field-0.0 in
    let nb : c.not_below.result ≡ int_le (pos 0) c.args.x = simp (to_z-of_z, c.ranges.x) at c.not_below.ensures in
    ends-as c.from_residual.result e _ w v c.from_residual.ensures.1
    (ends-stop _ _ e w v (subst (λ b. Ends (Err e) (check S Below c.args.site.place c.args.site.number b (state_of w)) w v) nb (c.in_err-check.ensures.ends S c.args.site.number c.drops-below.ensures)))

pub returns-in_err-check-2-clause-ends : goal.returns-in_err-check-2-clause-ends
returns-in_err-check-2-clause-ends c =
    let w = c.args.self.now in let v = c.check.new.self in let z = c.check-2.new.self in let S = marked c.args.frame.program.dropped.now in let e = c.in_err-check-2.field-0.0 in
    let na : c.not_above.result ≡ int_lt c.args.x (pos (part_at c.args.frame.parts.now c.args.site.list).length) = (simp (to_z-of_z, c.ranges.x) at c.not_above.ensures) ∙ ap (λ (p : Part). int_lt c.args.x (pos p.length)) c.part_at-part.ensures in
    let nb : c.not_below.result ≡ int_le (pos 0) c.args.x = simp (to_z-of_z, c.ranges.x) at c.not_below.ensures in
    let b = subst (λ b. Ends (Ok tt) (check S Below c.args.site.place c.args.site.number b (state_of w)) w v) nb (c.in_ok-check.ensures.ends S c.args.site.number c.drops-below.ensures) in
    ends-as c.from_residual-in_err-check-2.result e _ w z c.from_residual-in_err-check-2.ensures.1
    (ends-then _ _ tt (Err e) w v z b (ends-stop _ _ e v z (subst (λ b. Ends (Err e) (check S Above c.args.site.place (suc c.args.site.number) b (state_of v)) v z) na (c.in_err-check-2.ensures.ends S (suc c.args.site.number) c.drops_next-above.ensures))))

pub cell_of-requires : goal.cell_of-requires
cell_of-requires c =
    let w = c.args.self.now in let v = c.check.new.self in let z = c.check-2.new.self in let S = marked c.args.frame.program.dropped.now in
    let na : c.not_above.result ≡ int_lt c.args.x (pos (part_at c.args.frame.parts.now c.args.site.list).length) = (simp (to_z-of_z, c.ranges.x) at c.not_above.ensures) ∙ ap (λ (p : Part). int_lt c.args.x (pos p.length)) c.part_at-part.ensures in
    let nb : c.not_below.result ≡ int_le (pos 0) c.args.x = simp (to_z-of_z, c.ranges.x) at c.not_below.ensures in
    let b = subst (λ b. Ends (Ok tt) (check S Below c.args.site.place c.args.site.number b (state_of w)) w v) nb (c.in_ok-check.ensures.ends S c.args.site.number c.drops-below.ensures) in
    let a = subst (λ b. Ends (Ok tt) (check S Above c.args.site.place (suc c.args.site.number) b (state_of v)) v z) na (c.in_ok-check-2.ensures.ends S (suc c.args.site.number) c.drops_next-above.ensures) in
    let t = tame-rest _ _ tt v z (tame-rest _ _ tt w v c.requires.tame b) a in
    subst (λ x. HasCell (cell_of c.part_at-part.result x)) (sym (simp (to_z-of_z, c.ranges.x))) (subst (λ (p : Part). HasCell (cell_of p c.args.x)) (sym c.part_at-part.ensures) (has_cell _ (state_of z) t))

pub returns-clause-ends : goal.returns-clause-ends
returns-clause-ends c =
    let w = c.args.self.now in let v = c.check.new.self in let z = c.check-2.new.self in let S = marked c.args.frame.program.dropped.now in
    let na : c.not_above.result ≡ int_lt c.args.x (pos (part_at c.args.frame.parts.now c.args.site.list).length) = (simp (to_z-of_z, c.ranges.x) at c.not_above.ensures) ∙ ap (λ (p : Part). int_lt c.args.x (pos p.length)) c.part_at-part.ensures in
    let nb : c.not_below.result ≡ int_le (pos 0) c.args.x = simp (to_z-of_z, c.ranges.x) at c.not_below.ensures in
    let b = subst (λ b. Ends (Ok tt) (check S Below c.args.site.place c.args.site.number b (state_of w)) w v) nb (c.in_ok-check.ensures.ends S c.args.site.number c.drops-below.ensures) in
    let a = subst (λ b. Ends (Ok tt) (check S Above c.args.site.place (suc c.args.site.number) b (state_of v)) v z) na (c.in_ok-check-2.ensures.ends S (suc c.args.site.number) c.drops_next-above.ensures) in
    let t = tame-rest _ _ tt v z (tame-rest _ _ tt w v c.requires.tame b) a in
    let o : Some c.cell_of.result ≡ cell_of (part_at c.args.frame.parts.now c.args.site.list) c.args.x = (simp (to_z-of_z, c.ranges.x) at c.cell_of.ensures) ∙ ap (λ (p : Part). cell_of p c.args.x) c.part_at-part.ensures in
    ends-then _ _ tt _ w v z b (ends-then _ _ tt _ v z z a (ends-quiet _ _ z z (cell_given _ c.cell_of.result (state_of z) o t) refl))

pub returns-clause-inside : goal.returns-clause-inside
returns-clause-inside c =
    let w = c.args.self.now in let v = c.check.new.self in let z = c.check-2.new.self in let S = marked c.args.frame.program.dropped.now in
    let na : c.not_above.result ≡ int_lt c.args.x (pos (part_at c.args.frame.parts.now c.args.site.list).length) = (simp (to_z-of_z, c.ranges.x) at c.not_above.ensures) ∙ ap (λ (p : Part). int_lt c.args.x (pos p.length)) c.part_at-part.ensures in
    let nb : c.not_below.result ≡ int_le (pos 0) c.args.x = simp (to_z-of_z, c.ranges.x) at c.not_below.ensures in
    let b = subst (λ b. Ends (Ok tt) (check S Below c.args.site.place c.args.site.number b (state_of w)) w v) nb (c.in_ok-check.ensures.ends S c.args.site.number c.drops-below.ensures) in
    let a = subst (λ b. Ends (Ok tt) (check S Above c.args.site.place (suc c.args.site.number) b (state_of v)) v z) na (c.in_ok-check-2.ensures.ends S (suc c.args.site.number) c.drops_next-above.ensures) in
    let t = tame-rest _ _ tt v z (tame-rest _ _ tt w v c.requires.tame b) a in
    let o : Some c.cell_of.result ≡ cell_of (part_at c.args.frame.parts.now c.args.site.list) c.args.x = (simp (to_z-of_z, c.ranges.x) at c.cell_of.ensures) ∙ ap (λ (p : Part). cell_of p c.args.x) c.part_at-part.ensures in
    cell_inside _ c.cell_of.result (state_of z) o t
