use Rattle.std.proofs.Common.{◌≡◌, ◌+◌, ◌≤◌, length}
use Rattle.pile.specs.Entries.{entries, room}
use Rattle.naming.specs.Faults.{head_faults}
use Rattle.naming.specs.Least.{merged, least}
use Rattle.naming.specs.Reaches.{scope_of}
use Rattle.naming.specs.Scopes.{head_scope}
use Rattle.naming.specs.Stretching.{left}
use Rattle.naming.proofs.head.Params.declare.Given as goal

abbrev pub invariant-loop-param : goal.invariant-loop-param
invariant-loop-param l = record {
  fault : least (head_faults l.self.sheet.text.now (scope_of l.self.sheet (entries l.initial.names) (entries l.initial.lists)) (left l.self)) ≡ merged l.fault (least (head_faults l.self.sheet.text.now (scope_of l.self.sheet (entries l.names) (entries l.lists)) (left l.param-iterator)));
  scope : head_scope (scope_of l.self.sheet (entries l.initial.names) (entries l.initial.lists)) (left l.self) ≡ head_scope (scope_of l.self.sheet (entries l.names) (entries l.lists)) (left l.param-iterator);
  more : length (entries l.names) + length (left l.param-iterator) ≡ length (entries l.initial.names) + length (left l.self);
  few : length (entries l.lists) + length (left l.param-iterator) ≤ room l.initial.lists;
  names : room l.names ≡ room l.initial.names;
  lists : room l.lists ≡ room l.initial.lists;
  sheet : l.param-iterator.sheet ≡ l.self.sheet;
}
