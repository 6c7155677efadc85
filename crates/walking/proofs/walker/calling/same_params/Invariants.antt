use Rattle.std.proofs.Common.{ℕ, map}
use Rattle.language.specs.Tree.{Args, shape}
use Rattle.language.specs.Walking.{same_params}
use Rattle.records.specs.Columns.{tables_by}
use Rattle.records.specs.Laying.{columns_of}
use Rattle.records.specs.Leaving.{left_of}
use Rattle.records.specs.Standing.{ArgsStand}
use Rattle.records.specs.Tables.{stretch, param_of}
use Rattle.walking.proofs.Shapes.{Shaping}
use Rattle.walking.proofs.walker.calling.same_params.Given as goal

abbrev pub invariant-loop-param : goal.invariant-loop-param
invariant-loop-param l =
    let c = columns_of l.tables in record {
      shaping : (lo : ℕ) (es : Args) → ArgsStand (tables_by c) lo l.fn.args es → Shaping (tables_by c) (same_params (shape es) (map param_of (stretch c.params.entries l.fn.params.from l.fn.params.to))) l.at (map param_of (left_of (λ c. c.params) l.param-iterator));
    }
