use Rattle.std.proofs.Common.{ℕ, Option, is_some, unwrap_or, sym, ap, ◌∙◌}
use Rattle.letters.specs.declared.token.Token.{Token}
use Rattle.grammar.specs.Sheets.{sum_sign}
use Rattle.grammar.specs.Stretches.{item_at}
use Rattle.grammar.specs.Trees.{look_of}
use Rattle.naming.specs.Resolving.{side_place}
use Rattle.naming.specs.Sides.{Reads}
use Rattle.naming.specs.Sources.{source_of}
use Rattle.naming.specs.Stretching.{begun}
use Rattle.naming.specs.declared.side.Items.{Items}
use Rattle.naming.proofs.SideLists.{item-place}
use Rattle.naming.proofs.side.Items.place.Goals as goal

first-place : Items → Option ℕ → ℕ
first-place s o = let l = look_of (source_of s.sheet) in side_place (begun l sum_sign (Reads l) (item_at l s.minus (unwrap_or o 0)) s.rest (is_some o))

pub returns-in-Some : goal.returns-in-Some
unfolding begun first-place
returns-in-Some c =
    let s = c.args.self in
    ap (λ (t : Token). t.place) c.token.ensures ∙ sym (item-place (look_of (source_of s.sheet)) s.minus c.in-Some.at) ∙ sym (ap (first-place s) c.in-Some.is)

pub returns-in-None : goal.returns-in-None
unfolding begun first-place
returns-in-None c = sym (ap (first-place c.args.self) c.in-None.is)
