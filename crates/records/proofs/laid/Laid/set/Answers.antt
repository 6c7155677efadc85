use Rattle.std.proofs.Common.{rules, arith}
use Rattle.records.proofs.Lawful.{lies, unreplaced, rewritten, rewritten_owes}
use Rattle.records.proofs.laid.Laid.set.Goals as goal

pub returns-then-at-count-clause-held : goal.returns-then-at-count-clause-held
returns-then-at-count-clause-held g c = unreplaced g.met.E.Tabled.laws c.args.self.now c.args.at c.args.entry (omega (arith, c.count.ensures, c.if-at-count.true))

pub offset_bounds-lent-at : goal.offset_bounds-lent-at
offset_bounds-lent-at g c =
    let l = lies g.met.E.Tabled.laws c.args.self.now c.args.at (omega (arith, c.count.ensures, c.if-at-count.false)) in
    search rules

pub bounds-lent-at : goal.bounds-lent-at
bounds-lent-at g c = lies g.met.E.Tabled.laws c.args.self.now c.args.at (omega (arith, c.count.ensures, c.if-at-count.false))

pub returns-clause-held : goal.returns-clause-held
returns-clause-held g c =
    rewritten g.met.E.Tabled.laws c.args.self.now c.args.at c.args.entry c.index-lent-at.result c.put.new.into (omega (arith, c.count.ensures, c.if-at-count.false)) c.put.ensures.held c.put.ensures.within

pub returns-clause-owes : goal.returns-clause-owes
returns-clause-owes g c =
    rewritten_owes g.met.E.Tabled.laws c.args.self.now c.args.at c.args.entry c.index-lent-at.result c.put.new.into (omega (arith, c.count.ensures, c.if-at-count.false)) c.put.ensures.held
