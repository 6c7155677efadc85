use Rattle.std.proofs.Common.{◌≡◌, [], is_some, Some, None, Option, false, sym, ◌∙◌}
use Rattle.grammar.specs.Sheets.{sum_sign}
use Rattle.grammar.specs.Trees.{look_of}
use Rattle.naming.specs.Sides.{next_item, Reads, side_left, GivesItem}
use Rattle.naming.specs.Sources.{source_of}
use Rattle.naming.specs.declared.side.Items.{Items}
use Rattle.naming.specs.declared.side.Signed.{Signed}
use Rattle.naming.proofs.Begins.{ended-none}
use Rattle.naming.proofs.side.Items.end.Goals as goal

none-left : (s t : Items) (r : Option Signed) → GivesItem s r t → false ≡ is_some r → side_left t ≡ []
none-left s t None g e = g.items.1
none-left s t (Some i) g e = search

pub returns-clause-end : goal.returns-clause-end
returns-clause-end c =
    let t = c.next.new.self in let g = c.next.ensures.steps in
    sym (ended-none (look_of (source_of t.sheet)) sum_sign (Reads (look_of (source_of t.sheet))) (next_item t) t.rest t.end (is_some t.next) (none-left c.loop.items t c.next.result g c.loop-test.ensures)) ∙ g.end ∙ c.loop.invariant.0
