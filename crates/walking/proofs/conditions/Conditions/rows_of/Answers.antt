use Rattle.std.proofs.Common.{◌∙◌, ap₂}
use Rattle.records.specs.Laying.{columns_of}
use Rattle.records.specs.Tables.{condition_in}
use Rattle.terms.specs.Totals.{side_rows}
use Rattle.terms.proofs.Order.{in-turn}
use Rattle.walking.proofs.conditions.Conditions.rows_of.Goals as goal

pub returns : goal.returns
returns c =
    let self = c.args.self in let here = c.args.condition in
    c.condition_rows.ensures ∙ ap₂ (side_rows here.comparison) c.side_total.ensures c.side_total-2.ensures
    ∙ in-turn.condition self.terms.names.now self.terms.outcome.now (condition_in (columns_of self.tables.now).items.entries here)
