use Rattle.std.proofs.Common.{◌/◌, sym, ◌∙◌, arith}
use Rattle.std.proofs.lemmas.List.{length-set}
use Rattle.records.proofs.Lawful.{counted, full, free, fits_more}
use Rattle.records.proofs.laid.Laid.push.Goals as goal

pub returns-then-at-self-clause-value : goal.returns-then-at-self-clause-value
returns-then-at-self-clause-value g c = sym (full g.met.E.Tabled.laws c.args.self.now (omega (arith, c.count-at.ensures, c.if-at-self.true)))

pub invariant_of-self-clause-within : goal.invariant_of-self-clause-within
invariant_of-self-clause-within g c =
    rw (c.set_count.ensures, c.count-at.ensures) (fits_more g.met.E.Tabled.laws c.args.self.now c.put.new.into (omega (arith, c.count-at.ensures, c.if-at-self.false)))

pub returns-clause-value : goal.returns-clause-value
returns-clause-value g c = sym (free g.met.E.Tabled.laws c.args.self.now (omega (arith, c.count-at.ensures, c.if-at-self.false)))

pub returns-clause-position : goal.returns-clause-position
returns-clause-position g c = c.count-at.ensures ∙ sym (counted g.met.E.Tabled.laws c.args.self.now)

pub invariant_of-self-clause-owed_within : goal.invariant_of-self-clause-owed_within
invariant_of-self-clause-owed_within g c = omega (arith, c.args.self.now.owed_within, length-set c.args.self.now.records.now (c.count-at.result / 4) c.put.new.into)
