use Rattle.std.proofs.Common.{◌≡◌, false, length, get_or, sym, ap, ◌∙◌, rules}
use Rattle.std.specs.List.{count_by}
use Rattle.std.proofs.lemmas.List.Sums.{length-filter}
use Rattle.ints.specs.Tests.{count_below}
use Rattle.ints.proofs.Belows.{count_flags}
use Rattle.domains.proofs.Trying.{count_same}
use Rattle.domains.proofs.modes.Occurring.count.Goals as goal

pub returns : goal.returns
returns c =
    let flags = c.args.self.now.flags in
    let e : c.count.result ≡ count_by (λ b. b) flags = search rules in
    let l : length flags ≡ 16 = search rules in
    e ∙ sym (length-filter (λ b. b) flags) ∙ count_flags flags ∙ ap (λ n. count_below n (λ j. get_or flags j false)) l ∙ count_same _ _ 16 c.args.self.now.flagged
