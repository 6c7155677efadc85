use Rattle.std.proofs.Common.{sym, ◌∙◌, length, ◌-◌}
use Rattle.language.specs.Drafts.{marked}
use Rattle.engine.proofs.Marks.{marked_front}
use Rattle.engine.proofs.Opened.{same_open}
use Rattle.engine.proofs.book.Book.closed.Goals as goal

pub returns : goal.returns
returns c b is =
    let marks = c.args.self.now.marks in
    c.first_open.ensures b.sheet.obligations (sym is.holds.owed) is.holds.owes
    ∙ same_open 0 b.sheet.obligations (marked marks) (marked b.marks) (λ n. marked_front marks b.marks (128 - length b.marks) n is.marks)
