use Rattle.std.proofs.Common.{◌≡◌, ◌%◌, Some, rules, arith, subst}
use Rattle.std.specs.List.{slice_get}
use Rattle.records.specs.declared.record.Record.{Record}
use Rattle.records.proofs.Lawful.{lies, held, past}
use Rattle.records.proofs.laid.Laid.get.Goals as goal

pub offset_bounds-records-at : goal.offset_bounds-records-at
offset_bounds-records-at g c =
    let l = lies g.met.E.Tabled.laws c.args.self.now c.args.at (omega (arith, c.count.ensures, c.if-at-count.true)) in
    search rules

pub bounds-records-at : goal.bounds-records-at
bounds-records-at g c = lies g.met.E.Tabled.laws c.args.self.now c.args.at (omega (arith, c.count.ensures, c.if-at-count.true))

pub returns-then-at-count : goal.returns-then-at-count
returns-then-at-count g c =
    held g.met.E.Tabled.laws c.args.self.now c.args.at c.at.result c.index-records-at.result (omega (arith, c.count.ensures, c.if-at-count.true))
    (subst (λ (r : Record). slice_get (g.E.Tabled.slots r) (c.args.at % 4) ≡ Some c.at.result) c.index-records-at.is c.at.ensures)

pub returns-else-at-count : goal.returns-else-at-count
returns-else-at-count g c = past g.met.E.Tabled.laws c.args.self.now c.args.at (omega (arith, c.count.ensures, c.if-at-count.false))
