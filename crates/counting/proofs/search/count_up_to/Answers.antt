use Rattle.std.proofs.Common.{rules, ◌≡◌, ap, ◌∙◌, arith}
use Rattle.std.proofs.lemmas.Iterator.Consumers.{YieldsList-from_first, YieldsList-from_filter, count_from_yields_List}
use Rattle.std.proofs.lemmas.List.{take_all}
use Rattle.std.proofs.lemmas.List.Sums.{length-filter}
use Rattle.records.specs.Laying.{columns_of}
use Rattle.records.specs.Leaving.{left_of}
use Rattle.counting.specs.Counts.{is_up_to}
use Rattle.counting.proofs.search.count_up_to.Goals as goal

pub returns : goal.returns
returns g c =
    let xs = (g.E.Tabled.table (columns_of c.args.tables.now)).entries in
    let whole : left_of g.E.Tabled.table c.entries_of.result ≡ xs = c.entries_of.ensures ∙ take_all _ xs (omega (arith, c.count.ensures)) in
    count_from_yields_List _ c.count-2.result c.count-2.ensures.ran (YieldsList-from_filter _ (λ x. is_up_to c.args.place (g.E.Placed.place x)) (YieldsList-from_first (λ x. x) (left_of g.E.Tabled.table) xs (ap (left_of g.E.Tabled.table) c.filter.ensures.source ∙ whole)) c.filter.ensures.closure (λ x b q k. search rules))
    ∙ length-filter _ xs
