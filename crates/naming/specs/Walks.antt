-- The faults at a position of the nodes, by the names in force.
use Rattle.std.specs.Prelude.{ℕ, List, length}
use Rattle.grammar.specs.Raw as Raw
use Rattle.grammar.specs.Stretches.{params_at}
use Rattle.grammar.specs.Trees.{look_of, raw_at, args_at}
use Rattle.naming.specs.declared.written.Written.{Written}
use Rattle.naming.specs.Faults.{expr_faults, args_faults}
use Rattle.naming.specs.Reaches.{scope_of, sheet_of}
use Rattle.naming.specs.Sources.{source_of}

abbrev pub head_params : Written → ℕ → List Raw.Param
head_params w ps = params_at (length w.tokens.now) (look_of (source_of w)) ps

abbrev pub expr_at : Written → List ℕ → ℕ → ℕ → List ℕ → List ℕ
expr_at w lists top at names = expr_faults (sheet_of w) (scope_of w names lists) (raw_at (source_of w) top w.nodes.now at)

-- for the parameters that are given
abbrev pub arguments_at : Written → List ℕ → List Raw.Param → ℕ → ℕ → List ℕ → List ℕ
arguments_at w lists ps top at names = args_faults (sheet_of w) (scope_of w names lists) ps (args_at (source_of w) top w.nodes.now at)
