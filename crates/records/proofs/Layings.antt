-- Rules that stand in tables that are being laid stand in their records.
use Rattle.std.proofs.Common.{ℕ, ◌*◌, List, length}
use Rattle.records.specs.declared.node.Node.TheVariants.{Blank}
use Rattle.records.specs.declared.entry.Param.TheVariants.{Number}
use Rattle.records.specs.declared.laid.Laid.{Laid}
use Rattle.language.specs.Tree.{Rule}
use Rattle.records.specs.Columns.{tables_by, tables_in, params_in, entries_in, no_item, no_condition}
use Rattle.records.specs.Laying.{columns_of}
use Rattle.records.specs.Rules.{RulesStand}
use Rattle.records.specs.Slots.{slots_more}
use Rattle.records.proofs.Rules.{rules-on}

pub stand_in : (t : Laid) (lo : ℕ) (rs : List Rule) → RulesStand (tables_by (columns_of t)) (columns_of t).params.entries lo (columns_of t).entries.entries rs → RulesStand (tables_in t.records.now) (params_in t.records.now) lo (entries_in t.records.now t.counts.entries) rs
stand_in t lo rs s =
    let r = t.records.now in
    rules-on (tables_by (columns_of t)) (tables_in r) (columns_of t).params.entries (params_in r) lo (columns_of t).entries.entries rs
    (record {
      nodes = slots_more (λ r. r.nodes) Blank r t.counts.nodes (4 * length r) t.within.nodes;
      conditions = slots_more (λ r. r.conditions) no_condition r t.counts.conditions (4 * length r) t.within.conditions;
      items = slots_more (λ r. r.items) no_item r t.counts.items (4 * length r) t.within.items;
    })
    (slots_more (λ r. r.params) Number r t.counts.params (4 * length r) t.within.params) s
