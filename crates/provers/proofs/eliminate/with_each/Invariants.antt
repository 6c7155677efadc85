use Rattle.std.proofs.Common.{◌≡◌, List, Option, drop}
use Rattle.std.specs.List.{flat_map}
use Rattle.provers.specs.declared.derived.Derived.{Derived}
use Rattle.provers.specs.Elimination.{push_all}
use Rattle.provers.specs.WorkLists.{answered}
use Rattle.provers.proofs.eliminate.with_each.Given as goal

abbrev pub invariant-loop-row : goal.invariant-loop-row
invariant-loop-row g l =
    (gives : Derived → List (Option Derived)) → ((row : _) (before : _) (r : _) (after : _) → goal.F-post g l.step row before r after → answered r after.now.items ≡ push_all before.now.items (gives row.now))
    → push_all l.initial.into.items (flat_map gives l.rows) ≡ push_all l.into.items (flat_map gives (drop l.row-index l.rows))
