use Rattle.std.proofs.Common.{◌≡◌, ◌+◌, ◌-◌, map, take, drop, sym, refl, ap, ◌∙◌, subst, arith}
use Rattle.std.proofs.lemmas.Result.{IfOk-weaker}
use Rattle.showing.specs.Lines.{line_of}
use Rattle.showing.specs.Marks.{blank, blanks_to, Under}
use Rattle.showing.proofs.Lining.{stands-so}
use Rattle.showing.proofs.Marking.{under}
use Rattle.showing.proofs.marks.marked.Goals as goal

pub returns : goal.returns
returns c =
    let text = c.args.text.now in
    let line = line_of text c.args.place in
    let s = stands-so text c.args.place line refl in
    let n : c.line_at-line.result.start + c.line_at-line.result.column - 1 - c.line_at-line.result.start ≡ c.line_at-line.result.column - 1 = omega arith in
    let e = ap (λ k. map blank (take k (drop c.line_at-line.result.start text))) n ∙ ap (blanks_to text) c.line_at-line.ensures.told in
    record {
      told = IfOk-weaker c.blanks.result _ _ (λ t h. h ∙ e) c.blanks.ensures;
      law = IfOk-weaker c.blanks.result _ _ (λ t h. subst (Under text line) (sym (h ∙ e)) (under text line (omega arith) (omega arith))) c.blanks.ensures;
    }
