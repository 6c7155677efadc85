use Rattle.std.proofs.Common.{◌≡◌, List, Result, drop, pos}
use Rattle.rows.specs.declared.row.Row.{Row}
use Rattle.language.specs.declared.refusal.Refusal.{Refusal}
use Rattle.language.specs.Terms.{constant}
use Rattle.pile.specs.Entries.{entries}
use Rattle.walking.specs.Knowing.{Took}
use Rattle.walking.specs.Starting.{lengths_known}
use Rattle.walking.proofs.rules.assume_lengths.Given as goal

abbrev pub invariant-loop-length : goal.invariant-loop-length
invariant-loop-length l =
    let before = entries l.initial.facts.pile in let now = entries l.facts.pile in record {
      took : (r : Result (Unit {0}) Refusal) (after : List Row) → Took r (lengths_known l.place now (drop l.length-index l.lengths)) now after → Took r (lengths_known l.place before l.lengths) before after;
      none : l.none ≡ constant (pos 0);
    }
