use Rattle.std.proofs.Common.{rules, ◌++◌, length, None, ap, ◌∙◌}
use Rattle.std.proofs.lemmas.Iterator.Consumers.{YieldsList-from_shown, fold_from_yields_List}
use Rattle.grammar.specs.Raw as Raw
use Rattle.naming.specs.Faults.{side_faults}
use Rattle.naming.specs.Least.{merged, least}
use Rattle.naming.specs.Reaches.{tokens_of}
use Rattle.naming.specs.Sides.{raw_condition, conditions_left, GivesCondition}
use Rattle.naming.proofs.Turns.{each-condition, folded}
use Rattle.naming.proofs.written.Written.conditions_fault.Goals as goal

pub returns : goal.returns
returns c =
    let w = c.args.self in let ns = tokens_of w c.args.names.now in
    fold_from_yields_List _ (λ a (d : Raw.Condition). merged a (least (side_faults w.text.now ns d.left ++ side_faults w.text.now ns d.right))) None c.fold.result c.fold.ensures.ran
    (YieldsList-from_shown GivesCondition raw_condition conditions_left (λ s t d. ap length d.conditions.0) (λ s x t d. d.conditions) c.args.conditions) (λ a x b q k. search rules)
    ∙ folded _ _ (each-condition w.text.now ns) (conditions_left c.args.conditions)
