use Rattle.std.proofs.Common.{◌≡◌, eqb, length, sym, ap, ◌∙◌, w32, of_z, rules}
use Rattle.std.specs.List.{list_all}
use Rattle.std.proofs.Output.{has_written_of_eq}
use Rattle.std.proofs.lemmas.Iterator.{YieldsList-from_slice}
use Rattle.std.proofs.lemmas.Iterator.Search.{all_from_yields_List}
use Rattle.ints.specs.Tests.{is_zero}
use Rattle.ints.proofs.Zeros.{zero_test}
use Rattle.notation.proofs.Showing.{zero_written, terms_written}
use Rattle.notation.proofs.writing.SumDisplay.fmt.Given as given
use Rattle.notation.proofs.writing.SumDisplay.fmt.Goals as goal
use Rattle.notation.proofs.writing.SumDisplay.fmt.Goals.{After-all}

all_zero : (g : given.Over) (c : After-all g) → c.all.result ≡ list_all is_zero c.args.self.now.0.now.coefs
all_zero g c =
    all_from_yields_List is_zero _ _ _ c.all.ensures.ran (YieldsList-from_slice c.coefs.result cc)
    (λ x b q k.
    let e : b ≡ eqb (of_z w32 x.now) 0 = search rules in
    (search rules, e ∙ zero_test w32 x.now (search rules)))
    ∙ ap (list_all is_zero) c.coefs.ensures

pub returns-then-all-clause-writes : goal.returns-then-all-clause-writes
returns-then-all-clause-writes g c =
    let z = sym (all_zero g (goal.at.returns-then-all-clause-writes g c).After-all) ∙ c.if-all.true in
    λ p e. has_written_of_eq _ _ _ _ _ (zero_written c.args.self.now.0.now z) (search rules)

pub returns-clause-writes : goal.returns-clause-writes
returns-clause-writes g c =
    let z = sym (all_zero g (goal.at.returns-clause-writes g c).After-all) ∙ c.if-all.false in
    let l : length c.args.self.now.0.now.coefs ≡ 16 = search rules in
    λ p e. has_written_of_eq _ _ _ _ _ (terms_written c.args.self.now.0.now l z) (search rules)
