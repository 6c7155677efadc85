-- An expression that is run where a frame is the same, and one part after another.
use Rattle.std.proofs.Common.{◌≡◌, ℕ, ℤ, drop, Ok, Err, Result, sym, ap, ◌∙◌, subst}
use Rattle.language.specs.Drafts.{marked}
use Rattle.language.specs.Tree.{Expr}
use Rattle.language.specs.Running as Running
use Rattle.language.specs.Running.{Ran, Run, ◌>>=◌, run}
use Rattle.running.specs.declared.program.Stop.{Stop}
use Rattle.running.specs.declared.runner.Frame.{Frame}
use Rattle.running.specs.declared.runner.Runner.{Runner}
use Rattle.running.specs.Ending.{Ends, Tame, Beside, state_of, program_of}
use Rattle.running.specs.Evaluating.{Library, frame_of, Runs, Evals}
use Rattle.running.specs.Standing.{Placed}
use Rattle.running.proofs.Ending.{ends-stop, ends-then, tame-first, tame-rest}

-- the run of an expression in any frame
abbrev pub run_at : (f : Frame) → Library f → ℕ → Running.Frame → Expr → Run ℤ
run_at f book left E e = run (program_of f.program book.bodies) (marked f.program.dropped.now) left E e

pub same_frame : (f : Frame) (w v : Runner) → Beside w v → frame_of f w ≡ frame_of f v
same_frame f w v b = ap (λ xs. record { values = drop f.base xs; parts = f.parts.now }) (sym b.values)

-- an expression that stands, run where the frame is this one
module _ (f : Frame) (left at : ℕ) (v : Runner) (book : Library f) (placed : Placed f.program.records.now book at) (E : Running.Frame) (e : E ≡ frame_of f v) (t : Tame (run_at f book left E placed.tree (state_of v))) where
  pub runs_here : Runs f left at v
  runs_here = record { book = book; placed = placed; tame = subst (λ (F : Running.Frame). Tame (run_at f book left F placed.tree (state_of v))) e t }

  pub ends_here : (r : Result ℤ Stop) (z : Runner) → Evals r f left at v z → Ends r (run_at f book left E placed.tree (state_of v)) v z
  unfolding runs_here
  ends_here r z x = subst (λ (F : Running.Frame). Ends r (run_at f book left F placed.tree (state_of v)) v z) (sym e) (x runs_here)

-- an expression and then something else
module _ {A : Type 0} (f : Frame) (left at : ℕ) (v : Runner) (book : Library f) (placed : Placed f.program.records.now book at) (E : Running.Frame) (e : E ≡ frame_of f v) (k : ℤ → Run A) (t : Tame ((run_at f book left E placed.tree >>= k) (state_of v))) where
  first : Tame (run_at f book left E placed.tree (state_of v))
  first = tame-first (run_at f book left E placed.tree) k (state_of v) t

  pub first_runs : Runs f left at v
  first_runs = runs_here f left at v book placed E e first

  pub first_stop : (s : Stop) (z : Runner) → Evals (Err s) f left at v z → Ends (Err s) ((run_at f book left E placed.tree >>= k) (state_of v)) v z
  first_stop s z x = ends-stop (run_at f book left E placed.tree) k s v z (ends_here f left at v book placed E e first (Err s) z x)

  pub first_then : (x : ℤ) (z : Runner) → Evals (Ok x) f left at v z → (r : Result A Stop) (u : Runner) → Ends r (k x (state_of z)) z u → Ends r ((run_at f book left E placed.tree >>= k) (state_of v)) v u
  first_then x z y r u h = ends-then (run_at f book left E placed.tree) k x r v z u (ends_here f left at v book placed E e first (Ok x) z y) h

  pub first_tame : (x : ℤ) (z : Runner) → Evals (Ok x) f left at v z → Tame (k x (state_of z))
  first_tame x z y = tame-rest (run_at f book left E placed.tree) k x v z t (ends_here f left at v book placed E e first (Ok x) z y)

pub beside_then : (w v z : Runner) → Beside w v → Beside v z → Beside w z
beside_then w v z a b = record {
  lent = record { cells = b.lent.cells ∙ a.lent.cells; values = b.lent.values ∙ a.lent.values; room = b.lent.room ∙ a.lent.room };
  values = b.values ∙ a.values;
}
