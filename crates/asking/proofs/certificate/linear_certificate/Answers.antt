use Rattle.std.proofs.Common.{◌≡◌, ℕ, List, Some, None, Option, sym}
use Rattle.rows.specs.declared.row.Row.{Row}
use Rattle.provers.specs.Elimination.{fourier_motzkin}
use Rattle.provers.specs.Proposals.{answer, filled}
use Rattle.asking.specs.Certificates.{GoodFront}
use Rattle.asking.proofs.Asked.{asked_is}
use Rattle.asking.proofs.Certified.{proposals-good}
use Rattle.asking.proofs.certificate.linear_certificate.Goals as goal

front-good : (facts : List Row) (goal : Row) (before after : List ℕ) (r : Option ℕ) → answer (fourier_motzkin facts goal) before ≡ r → after ≡ filled (fourier_motzkin facts goal) before → GoodFront r facts goal after
front-good facts goal before after None h e = tt
front-good facts goal before after (Some n) h e = proposals-good facts goal _ (asked_is (fourier_motzkin facts goal) before after n h e)

pub returns : goal.returns
returns c =
    record {
      count = c.ask.ensures.count;
      after = c.ask.ensures.after;
      good = front-good c.args.question.facts.now c.args.question.goal.now c.args.buffer.now c.ask.new.buffer c.ask.result (sym c.ask.ensures.count) c.ask.ensures.after;
      every = proposals-good;
    }
