use Rattle.std.proofs.Common.{◌≡◌, None, sym, ap, ◌∙◌}
use Rattle.std.proofs.Math.Logic.{∥∥₁_map}
use Rattle.language.specs.Drafts.{marked, first_open}
use Rattle.language.proofs.Theorem.{theorem}
use Rattle.engine.proofs.Runnable.{book_in, runnable, runnable_in}
use Rattle.engine.proofs.Entered.{same_marks, book_ready, open_answers}
use Rattle.engine.proofs.book.Book.run.Goals as goal

pub enter-requires : goal.enter-requires
enter-requires c =
    let book = c.args.self.now in let p = c.program-program in
    ∥∥₁_map book.sheeted (λ s.
    let b = book_in book s in let k = runnable_in book s in
    let none : first_open 0 b.sheet.obligations (marked b.marks) ≡ None = sym (c.closed.ensures b k.is) ∙ c.in_default.is in
    (b.sheet, book_ready book b k book.kept none p.result p.ensures.records p.ensures.low p.ensures.high p.ensures.dropped))

pub returns-clause-answers : goal.returns-clause-answers
returns-clause-answers c b of =
    let a = c.args in let book = c.args.self.now in let p = c.program-program in let ds = p.ensures.dropped in let k = runnable book b of in
    let none : first_open 0 b.sheet.obligations (marked b.marks) ≡ None = sym (c.closed.ensures b k.is) ∙ c.in_default.is in
    open_answers (marked b.marks) b a.rule a.fuel a.numbers.now a.parts.now a.cells.now c.enter.result c.enter.new.cells (marked p.result.dropped.now) (ap marked ds ∙ same_marks book b k) none
    (c.enter.ensures b.sheet (book_ready book b k book.kept none p.result p.ensures.records p.ensures.low p.ensures.high ds))

pub returns-clause-promise : goal.returns-clause-promise
returns-clause-promise c = theorem

pub returns-in-Some-clause-promise : goal.returns-in-Some-clause-promise
returns-in-Some-clause-promise c = theorem
