-- The table, by computing.
use Rattle.std.proofs.Common.{refl}
use Rattle.ints.specs.Divisors.{gcd_in, gcd_of}
use Rattle.ints.specs.Sums.{sum_to}
use Rattle.ints.specs.Tests.{all_below, any_below, count_below}
use Rattle.rows.specs.Limits.{all_small}
use Rattle.rows.specs.Rows.{row_of}
use Rattle.rows.specs.Testing.{meets_all}
use Rattle.domains.specs.Linear.{weigh, numbers, kinds}
use Rattle.domains.specs.Modes.{occurs_in, broken}
use Rattle.provers.specs.Derivations.{all_modest, combine}
use Rattle.provers.specs.Elimination.{push_all, originals, without, without_all, from, first_below, refutation}
use Rattle.language.proofs.Examples.{by-computing}
use Rattle.examples.specs.Table.{Table}

pub table : Table
unfolding gcd_in gcd_of all_small row_of all_modest combine push_all originals without without_all from first_below refutation sum_to all_below any_below count_below meets_all weigh numbers kinds occurs_in broken
table = record {
  linear-same = refl;
  linear-uneven = refl;
  linear-short = refl;
  linear-most = refl;
  linear-over = refl;
  modes-half = refl;
  modes-top = refl;
  modes-case = refl;
  half-unproposed = refl;
  sheets = by-computing;
}
