use Rattle.std.proofs.Common.{◌≡◌, ◌+◌, ◌≤◌, map, length}
use Rattle.grammar.specs.Stretches.{params_at}
use Rattle.grammar.specs.Trees.{look_of}
use Rattle.records.specs.Laying.{columns_of, owed_of}
use Rattle.naming.specs.Sources.{source_of}
use Rattle.naming.specs.Stretching.{left}
use Rattle.records.specs.Tables as lists
use Rattle.naming.specs.Resolving.{param_of}
use Rattle.resolving.proofs.Adding.{Adding}
use Rattle.resolving.specs.Making.{ParamsAlone}
use Rattle.resolving.proofs.heads.params_at.Given as goal

abbrev pub invariant-loop-param : goal.invariant-loop-param
invariant-loop-param l = record {
  adding : Adding lists.param_of (map param_of (params_at (length l.sheet.tokens.now) (look_of (source_of l.sheet)) l.at)) (columns_of l.initial.tables).params.entries (columns_of l.tables).params.entries (map param_of (left l.param-iterator));
  room : length (columns_of l.tables).params.entries + length (left l.param-iterator) ≤ (columns_of l.tables).params.room;
  others : ParamsAlone (columns_of l.initial.tables) (columns_of l.tables);
  owed : owed_of l.tables ≡ owed_of l.initial.tables;
  sheet : l.param-iterator.sheet ≡ l.sheet;
}
