use Rattle.std.proofs.Common.{ℕ, Err, sym, refl, ap, ◌∙◌}
use Rattle.std.proofs.lemmas.Result.{err_from_is_err_and}
use Rattle.pile.specs.Entries.{entries, lender}
use Rattle.grammar.proofs.Lawfully.{only-sheet, refused}
use Rattle.grammar.proofs.Wholes.{sheeted, faulted}
use Rattle.grammar.proofs.rules.parse.Goals as goal

pub returns : goal.returns
returns c =
    let ruled = c.in_ok-rules.ensures in
    let pile = c.made-2-1.given in
    let made = pile.1 (sym (ap (λ (l : ℕ × ℕ). l.0) ruled.lender)) in
    let lent = sym (ap lender made ∙ ap (λ (l : ℕ × ℕ). l.1) ruled.lender ∙ c.over-made.ensures.lender) in
    let h = sheeted _ _ pile.0 _ _ (sym (ap entries made)) (sym (c.nodes-2-1.given.1.1 lent)) c.mark.ensures refl ruled.so in
    record { parsed = record { said = (c.if-nodes-source.false, h) }; law = only-sheet _ _ _ _ h }

pub returns-in_err-rules : goal.returns-in_err-rules
returns-in_err-rules c =
    let b = err_from_is_err_and c.from_residual.result c.from_residual.ensures.1 in
    let p = refused c.from_residual.result c.args.source.tokens.now c.args.source.end c.in_err-rules.field-0.0.place _ _ (b.1 ∙ ap Err b.2) c.if-nodes-source.false (faulted _ _ refl c.in_err-rules.ensures.so) in
    record { parsed = p.0; law = p.1 }
