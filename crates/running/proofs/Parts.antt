-- A node with one part, or two, that are run before the rest of it.
use Rattle.std.proofs.Common.{ℕ, ◌<◌, ℤ, Ok, Err, Result, refl}
use Rattle.language.specs.Running.{Run, ◌>>=◌}
use Rattle.running.specs.declared.program.Stop.{Stop}
use Rattle.running.specs.declared.runner.Frame.{Frame}
use Rattle.running.specs.declared.runner.Runner.{Runner}
use Rattle.running.specs.Ending.{Ends, Tame, Beside, state_of}
use Rattle.running.specs.Evaluating.{Library, frame_of, eval_in, Runs, Evals}
use Rattle.running.specs.Standing.{Placed}
use Rattle.running.proofs.Here.{same_frame, first_runs, first_stop, first_then, first_tame}

-- the part at a position, below that of the node, then the rest
pub record One (f : Frame) (left at : ℕ) (w : Runner) (book : Library f) (a : ℕ) (k : ℤ → Run ℤ) : Type 0 where
  pub placed : Placed f.program.records.now book a
  pub below : a < at
  pub tame : Tame ((eval_in f book left w placed.tree >>= k) (state_of w))

-- two parts, one after the other, then the rest
pub record Two (f : Frame) (left at : ℕ) (w : Runner) (book : Library f) (a b : ℕ) (k : ℤ → ℤ → Run ℤ) : Type 0 where
  pub first : Placed f.program.records.now book a
  pub second : Placed f.program.records.now book b
  pub first_below : a < at
  pub second_below : b < at
  pub tame : Tame ((eval_in f book left w first.tree >>= (λ x. eval_in f book left w second.tree >>= k x)) (state_of w))

module _ (f : Frame) (left at : ℕ) (w : Runner) (book : Library f) (a : ℕ) (k : ℤ → Run ℤ) (o : One f left at w book a k) where
  pub one_runs : Runs f left a w
  one_runs = first_runs f left a w book o.placed (frame_of f w) refl k o.tame

  pub one_stop : (s : Stop) (z : Runner) → Evals (Err s) f left a w z → Ends (Err s) ((eval_in f book left w o.placed.tree >>= k) (state_of w)) w z
  one_stop = first_stop f left a w book o.placed (frame_of f w) refl k o.tame

  pub one_then : (x : ℤ) (z : Runner) → Evals (Ok x) f left a w z → (r : Result ℤ Stop) (u : Runner) → Ends r (k x (state_of z)) z u → Ends r ((eval_in f book left w o.placed.tree >>= k) (state_of w)) w u
  one_then = first_then f left a w book o.placed (frame_of f w) refl k o.tame

  pub one_tame : (x : ℤ) (z : Runner) → Evals (Ok x) f left a w z → Tame (k x (state_of z))
  one_tame = first_tame f left a w book o.placed (frame_of f w) refl k o.tame

module _ (f : Frame) (left at : ℕ) (w : Runner) (book : Library f) (a b : ℕ) (k : ℤ → ℤ → Run ℤ) (o : Two f left at w book a b k) where
  abbrev rest : ℤ → Run ℤ
  rest x = eval_in f book left w o.second.tree >>= k x

  pub two_runs : Runs f left a w
  two_runs = first_runs f left a w book o.first (frame_of f w) refl rest o.tame

  pub two_stop : (s : Stop) (z : Runner) → Evals (Err s) f left a w z → Ends (Err s) ((eval_in f book left w o.first.tree >>= (λ x. eval_in f book left w o.second.tree >>= k x)) (state_of w)) w z
  two_stop = first_stop f left a w book o.first (frame_of f w) refl rest o.tame

  module _ (x : ℤ) (v : Runner) (ex : Evals (Ok x) f left a w v) (bv : Beside w v) where
    later : Tame (rest x (state_of v))
    later = first_tame f left a w book o.first (frame_of f w) refl rest o.tame x v ex

    pub two_next : Runs f left b v
    two_next = first_runs f left b v book o.second (frame_of f w) (same_frame f w v bv) (k x) later

    pub two_stop_next : (s : Stop) (z : Runner) → Evals (Err s) f left b v z → Ends (Err s) ((eval_in f book left w o.first.tree >>= (λ x. eval_in f book left w o.second.tree >>= k x)) (state_of w)) w z
    two_stop_next s z y = first_then f left a w book o.first (frame_of f w) refl rest o.tame x v ex (Err s) z (first_stop f left b v book o.second (frame_of f w) (same_frame f w v bv) (k x) later s z y)

    module _ (y : ℤ) (z : Runner) (ey : Evals (Ok y) f left b v z) where
      pub two_tame : Tame (k x y (state_of z))
      two_tame = first_tame f left b v book o.second (frame_of f w) (same_frame f w v bv) (k x) later y z ey

      pub two_then : (r : Result ℤ Stop) (u : Runner) → Ends r (k x y (state_of z)) z u → Ends r ((eval_in f book left w o.first.tree >>= (λ x. eval_in f book left w o.second.tree >>= k x)) (state_of w)) w u
      two_then r u h = first_then f left a w book o.first (frame_of f w) refl rest o.tame x v ex r u (first_then f left b v book o.second (frame_of f w) (same_frame f w v bv) (k x) later y z ey r u h)
