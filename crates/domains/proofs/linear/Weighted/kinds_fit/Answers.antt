use Rattle.std.proofs.Common.{sym, ◌∙◌, rules}
use Rattle.std.proofs.lemmas.Iterator.{YieldsList-from_slice, YieldsList-from_zip}
use Rattle.std.proofs.lemmas.Iterator.Search.{all_from_yields_List}
use Rattle.domains.specs.Linear.{kind_ok}
use Rattle.domains.proofs.Weighing.{kinds_is}
use Rattle.domains.proofs.linear.Weighted.kinds_fit.Goals as goal

pub returns : goal.returns
returns c =
    all_from_yields_List (λ p. kind_ok p.1 p.0.kind) c.all.new.self _ _ c.all.ensures.ran
    (YieldsList-from_zip {s = c.zip.result} (YieldsList-from_slice c.args.self.question.facts.now cc) (YieldsList-from_slice c.args.self.certificate.now cc))
    (λ x b q k. search rules)
    ∙ sym (kinds_is c.args.self.certificate.now c.args.self.question.facts.now)
