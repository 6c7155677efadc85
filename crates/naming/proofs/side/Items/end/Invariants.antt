use Rattle.std.proofs.Common.{◌≡◌, ◌+◌, ◌≤◌, max, unwrap_or}
use Rattle.naming.specs.Sides.{side_end}
use Rattle.naming.proofs.side.Items.end.Given as goal

abbrev pub invariant-loop : goal.invariant-loop
invariant-loop l = (side_end l.items ≡ side_end l.self) × (unwrap_or l.items.next 0 ≤ max (unwrap_or l.self.next 0) 16384) × (l.items.end ≤ max l.self.end (max (unwrap_or l.self.next 0) 16384 + 3))
