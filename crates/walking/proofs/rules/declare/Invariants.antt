use Rattle.std.proofs.Common.{◌≡◌, map}
use Rattle.pile.specs.Entries.{entries, room}
use Rattle.records.specs.Laying.{columns_of}
use Rattle.records.specs.Leaving.{left_of}
use Rattle.records.specs.Tables.{param_of}
use Rattle.walking.specs.Starting.{params_at}
use Rattle.walking.proofs.Starting.{Started}
use Rattle.walking.proofs.rules.declare.Given as goal

abbrev pub invariant-loop-param : goal.invariant-loop-param
invariant-loop-param l = record {
  started : Started (params_at (columns_of l.tables) l.fn.entry) (map param_of (left_of (λ c. c.params) l.param-iterator)) l.next (entries l.names) (entries l.lengths);
  names_room : room l.names ≡ room l.initial.names;
  lengths_room : room l.lengths ≡ room l.initial.lengths;
}
