use Rattle.std.proofs.Common.{◌≡◌, ◌++◌, length, take}
use Rattle.pile.specs.Entries.{entries}
use Rattle.running.specs.Ending.{Apart}
use Rattle.running.proofs.runner.Runner.enter.Given as goal

abbrev pub invariant-loop-value : goal.invariant-loop-value
invariant-loop-value l = record {
  mark : l.mark ≡ length (entries l.initial.self.values.now);
  held : entries l.self.values.now ≡ entries l.initial.self.values.now ++ take l.value-index l.values;
  beside : Apart l.initial.self l.self;
}
