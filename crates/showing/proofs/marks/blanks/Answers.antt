use Rattle.std.proofs.Common.{rules, ◌≡◌, ℕ, List, map, string_bytes, subst}
use Rattle.std.specs.Result.{IfOk}
use Rattle.std.proofs.lemmas.Iterator.{YieldsList-from_slice, YieldsList-from_map, text_from_collect}
use Rattle.std.proofs.lemmas.Str.{encodes-IsAscii}
use Rattle.showing.specs.Marks.{blank}
use Rattle.showing.proofs.Placing.{blank-ascii}
use Rattle.showing.proofs.marks.blanks.Goals as goal

pub returns : goal.returns
returns c =
    let bs = c.args.bytes.now in
    subst (λ (all : List ℕ). IfOk c.collect.result (λ s. string_bytes s ≡ all)) (encodes-IsAscii (map blank bs) (blank-ascii bs))
    (text_from_collect _ c.collect.ensures.ran (YieldsList-from_map _ blank (YieldsList-from_slice bs cc) c.map.ensures.closure (λ x r q k. search rules)))
