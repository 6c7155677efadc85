use Rattle.std.proofs.Common.{◌≡◌, suc, ◌++◌, length, sym, ap, ◌∙◌}
use Rattle.naming.specs.Sources.{rules_of}
use Rattle.naming.proofs.Smallest.{least-both}
use Rattle.records.specs.Laying.{columns_of}
use Rattle.counting.specs.Counts.{rules_over, heads_over, first_over, flat_fault}
use Rattle.counting.proofs.Rules.{least-listed}
use Rattle.counting.proofs.Flat.{exprs_placed, conditions_placed, nodes-rise, conditions-rise}
use Rattle.counting.proofs.Limits.{none_within, within_none}
use Rattle.counting.proofs.fault.count_fault.Goals as goal

pub returns : goal.returns
returns c =
    let w = c.args.sheet in let bytes = length w.text.now in let rules = rules_of w in
    let cols = columns_of c.args.tables.now in let nodes = cols.nodes.entries in let conditions = cols.conditions.entries in
    let a = c.first_over-exprs.ensures.value ∙ ap (λ f. first_over 1024 f 0 (suc bytes)) (exprs_placed nodes) ∙ least-listed _ in
    let b = c.first_over-listed.ensures.value ∙ ap (λ f. first_over 128 f 0 (suc bytes)) (conditions_placed conditions) ∙ least-listed _ in
    let v : c.earlier-2.result ≡ flat_fault bytes rules nodes conditions = least-both (rules_over rules ++ heads_over rules) _ c.earlier-2.ensures (least-both (rules_over rules) (heads_over rules) c.earlier-heads.ensures c.rules_over.ensures c.heads_over.ensures) (least-both _ _ c.earlier.ensures a b) in
    record {
      value = v;
      within = λ e. none_within bytes rules _ _ (sym v ∙ e);
      none = λ w. v ∙ within_none bytes rules _ _ (nodes-rise nodes) (conditions-rise conditions) w;
    }
