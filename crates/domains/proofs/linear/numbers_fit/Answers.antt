use Rattle.std.proofs.Common.{leb, sym, ◌∙◌, rules}
use borrow.Author.Tests.{tests}
use Rattle.std.proofs.lemmas.Iterator.{YieldsList-from_slice}
use Rattle.std.proofs.lemmas.Iterator.Search.{all_from_yields_List}
use Rattle.domains.proofs.Weighing.{numbers_is}
use Rattle.domains.proofs.linear.numbers_fit.Goals as goal

pub returns : goal.returns
returns c =
    all_from_yields_List (λ m. leb m 1000000) _ _ _ c.all.ensures.ran (YieldsList-from_slice c.args.certificate.now cc) (λ x b q k. search (rules, tests))
    ∙ sym (numbers_is c.args.certificate.now)
