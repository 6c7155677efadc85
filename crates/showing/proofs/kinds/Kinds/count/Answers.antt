use Rattle.std.proofs.Common.{◌≡◌, ◌∙◌, rules}
use Rattle.letters.specs.Every.{kinds}
use Rattle.showing.proofs.Listing.{every}
use Rattle.showing.proofs.kinds.Kinds.count.Goals as goal

pub returns : goal.returns
returns c =
    let e : c.iter.result.rest.now ≡ kinds = c.iter.ensures.rest ∙ every in search (rules, e)
