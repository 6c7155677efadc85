use Rattle.std.proofs.Common.{rules, length, None, ap, ◌∙◌}
use Rattle.std.proofs.lemmas.Iterator.Consumers.{YieldsList-from_shown, fold_from_yields_List}
use Rattle.grammar.specs.Raw as Raw
use Rattle.naming.specs.Faults.{atom_faults}
use Rattle.naming.specs.Least.{merged, least}
use Rattle.naming.specs.Reaches.{tokens_of}
use Rattle.naming.specs.Sides.{raw_item, side_left, GivesItem}
use Rattle.naming.proofs.Turns.{each-side, folded}
use Rattle.naming.proofs.written.Written.side_fault.Goals as goal

pub returns : goal.returns
returns c =
    let w = c.args.self in let ns = tokens_of w c.args.names.now in
    fold_from_yields_List _ (λ a (i : Raw.Item). merged a (least (atom_faults w.text.now ns i.atom))) None c.fold.result c.fold.ensures.ran
    (YieldsList-from_shown GivesItem raw_item side_left (λ s t d. ap length d.items.0) (λ s x t d. d.items) c.args.side) (λ a x b q k. search rules)
    ∙ folded _ _ (each-side w.text.now ns) (side_left c.args.side)
