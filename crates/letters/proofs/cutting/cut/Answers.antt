use Rattle.std.proofs.Common.{◌+◌, ◌<◌, ◌≤◌, List, length, take, drop, Some, None, Ok, Err, Result, sym, ap, ◌∙◌, subst, arith, length-set}
use Rattle.std.proofs.lemmas.List.{take_more_set, drop-set-lt, drop-drop}
use Rattle.std.proofs.lemmas.Result.{err_from_is_err_and, IfOk-from_err}
use Rattle.letters.specs.declared.misspelt.Misspelt.{Misspelt}
use Rattle.letters.specs.declared.token.Token.{Token}
use Rattle.letters.specs.Cuts.{cut_from}
use Rattle.letters.proofs.Good.{part-fits}
use Rattle.letters.proofs.Steps.{at-rest, before, before-push, cut-blank, cut-bad, cut-full, cut-part, cut-end}
use Rattle.letters.proofs.Finishing.{finish, finish-long, Finished}
use Rattle.letters.proofs.cutting.cut.Goals as goal

pub returns-then-text-gt-MOST_BYTES : goal.returns-then-text-gt-MOST_BYTES
returns-then-text-gt-MOST_BYTES c = let f = finish-long c.args.text.now c.args.tokens.now c.if-text-gt-MOST_BYTES.true in record { value = f.value; written = f.written; few = tt; brackets = f.brackets; law = f.law }

pub loop-at-preserved-in-None : goal.loop-at-preserved-in-None
loop-at-preserved-in-None c = (omega arith, omega arith, c.loop-at.invariant.2, c.loop-at.invariant.3, c.loop-at.invariant.4 ∙ ap (before (take c.loop-at.count c.loop-at.tokens)) (cut-blank c.args.text.now c.loop-at.at c.loop-at.depth c.loop-at-test.true (at-rest c.args.text.now c.loop-at.at (Ok None) c.piece.result (c.in_ok-piece.was ∙ ap Ok c.in-None.is) c.piece.ensures)))

pub returns-in_err-depth-in-Some : goal.returns-in_err-depth-in-Some
returns-in_err-depth-in-Some c =
    let p = err_from_is_err_and c.from_residual-in_err-depth-in-Some.result c.from_residual-in_err-depth-in-Some.ensures.1 in
    let m = c.in_err-depth-in-Some.field-0.0 in
    let f = finish c.args.text.now c.loop-at.count c.loop-at.tokens c.args.tokens.now (Some m) _ (omega arith) (omega arith) c.loop-at.invariant.3 c.loop-at.invariant.4
    (cut-full c.args.text.now c.loop-at.at c.loop-at.depth c.loop-at-test.true c.in-Some.token m (at-rest c.args.text.now c.loop-at.at (Ok (Some c.in-Some.token)) c.piece.result (c.in_ok-piece.was ∙ ap Ok c.in-Some.is) c.piece.ensures) c.in_err-depth-in-Some.ensures) in
    let g = subst (λ (r : Result _ Misspelt). Finished c.args.text.now r c.loop-at.tokens c.args.tokens.now) (sym (p.1 ∙ ap Err p.2)) f in
    record { value = g.value; written = g.written; few = IfOk-from_err c.from_residual-in_err-depth-in-Some.result (λ n. n ≤ 16384) c.from_residual-in_err-depth-in-Some.ensures.0; brackets = g.brackets; law = g.law }

pub overflow_add-at-in-Some : goal.overflow_add-at-in-Some
overflow_add-at-in-Some c = let f = part-fits c.args.text.now c.loop-at.at c.in-Some.token c.loop-at-test.true (at-rest c.args.text.now c.loop-at.at (Ok (Some c.in-Some.token)) c.piece.result (c.in_ok-piece.was ∙ ap Ok c.in-Some.is) c.piece.ensures) in omega arith

pub loop-at-smaller : goal.loop-at-smaller
loop-at-smaller c = let f = part-fits c.args.text.now c.loop-at.at c.in-Some.token c.loop-at-test.true (at-rest c.args.text.now c.loop-at.at (Ok (Some c.in-Some.token)) c.piece.result (c.in_ok-piece.was ∙ ap Ok c.in-Some.is) c.piece.ensures) in omega arith

pub loop-at-preserved : goal.loop-at-preserved
loop-at-preserved c =
    let e = at-rest c.args.text.now c.loop-at.at (Ok (Some c.in-Some.token)) c.piece.result (c.in_ok-piece.was ∙ ap Ok c.in-Some.is) c.piece.ensures in
    let t = c.in-Some.token in let n = c.loop-at.count in let ts = c.loop-at.tokens in let old = c.args.tokens.now in
    let f = part-fits c.args.text.now c.loop-at.at t c.loop-at-test.true e in
    let room : n < length ts = omega arith in
    let rest = cut_from 0 c.in_ok-depth-in-Some.depth (c.loop-at.at + t.size) (drop (c.loop-at.at + t.size) c.args.text.now) in (
      f.1,
      omega arith,
      simp length-set c.loop-at.invariant.2,
      drop-set-lt (n + 1) ts n t (omega arith) ∙ sym (drop-drop 1 n ts) ∙ ap (λ (l : List Token). drop 1 l) c.loop-at.invariant.3 ∙ drop-drop 1 n old,
      c.loop-at.invariant.4 ∙ ap (before (take n ts)) (cut-part c.args.text.now c.loop-at.at c.loop-at.depth c.loop-at-test.true t c.in_ok-depth-in-Some.depth e f.0 c.in_ok-depth-in-Some.ensures)
          ∙ before-push (take n ts) t rest ∙ ap (λ (l : List Token). before l rest) (sym (take_more_set ts n t room)),
    )

pub returns-in_err-piece : goal.returns-in_err-piece
returns-in_err-piece c =
    let p = err_from_is_err_and c.from_residual.result c.from_residual.ensures.1 in
    let m = c.in_err-piece.field-0.0 in
    let f = finish c.args.text.now c.loop-at.count c.loop-at.tokens c.args.tokens.now (Some m) _ (omega arith) (omega arith) c.loop-at.invariant.3 c.loop-at.invariant.4
    (cut-bad c.args.text.now c.loop-at.at c.loop-at.depth c.loop-at-test.true m (at-rest c.args.text.now c.loop-at.at (Err m) c.piece.result c.in_err-piece.was c.piece.ensures)) in
    let g = subst (λ (r : Result _ Misspelt). Finished c.args.text.now r c.loop-at.tokens c.args.tokens.now) (sym (p.1 ∙ ap Err p.2)) f in
    record { value = g.value; written = g.written; few = IfOk-from_err c.from_residual.result (λ n. n ≤ 16384) c.from_residual.ensures.0; brackets = g.brackets; law = g.law }

pub returns : goal.returns
returns c =
    let f = finish c.args.text.now c.loop-at.count c.loop-at.tokens c.args.tokens.now None _ (omega arith) (omega arith) c.loop-at.invariant.3 c.loop-at.invariant.4
    (cut-end c.args.text.now c.loop-at.at c.loop-at.depth c.loop-at-test.false) in
    record { value = f.value; written = f.written; few = omega arith; brackets = f.brackets; law = f.law }
