use Rattle.std.proofs.Common.{◌≡◌, ℕ, ◌+◌, ◌-◌, ◌/◌, Some, None, ap, arith}
use Rattle.records.specs.Laying.{columns_of}
use Rattle.counting.specs.Counts.{First, placed_up_to}
use Rattle.counting.proofs.Firsts.{first-is, placed-rises}
use Rattle.counting.proofs.search.first_over.Goals as goal

pub returns-then-count_up_to-limit : goal.returns-then-count_up_to-limit
returns-then-count_up_to-limit g c =
    let xs = (g.E.Tabled.table (columns_of c.args.tables.now)).entries in let count = placed_up_to g.E.Placed.place xs in let bytes = c.args.bytes in
    let f : First c.args.limit count bytes None = λ q h. omega (arith, placed-rises g.E.Placed.place xs q bytes h, c.count_up_to.ensures) in
    record { value = first-is c.args.limit count bytes None f; first = f }

pub loop-low-preserved : goal.loop-low-preserved
loop-low-preserved g c =
    let xs = (g.E.Tabled.table (columns_of c.args.tables.now)).entries in let i = c.loop-low.invariant in
    let middle : ℕ = c.loop-low.low + (c.loop-low.high - c.loop-low.low) / 2 in
    (omega arith, i.1, i.2, λ q h. omega (arith, placed-rises g.E.Placed.place xs q middle (omega arith), c.count_up_to-in-loop-low.ensures))

pub returns : goal.returns
returns g c =
    let count = placed_up_to g.E.Placed.place (g.E.Tabled.table (columns_of c.args.tables.now)).entries in let bytes = c.args.bytes in let i = c.loop-low.invariant in
    let e : c.loop-low.low ≡ c.loop-low.high = omega arith in
    let f : First c.args.limit count bytes (Some c.loop-low.low) = (omega arith, omega (arith, i.2, ap count e), i.3) in
    record { value = first-is c.args.limit count bytes (Some c.loop-low.low) f; first = f }
