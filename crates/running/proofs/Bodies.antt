-- A rule's body is run: that is noted, and so is the value that it returns.
use Rattle.std.proofs.Common.{◌≡◌, ℕ, ◌<◌, List, [], ◌∷◌, ℤ, length, slice_index_or, Some, Ok, Err, Result, sym, refl, ap, ◌∙◌, subst, arith}
use Rattle.std.proofs.lemmas.Option.{same_Some}
use Rattle.std.specs.List.{slice_get}
use Rattle.language.specs.declared.part.Part.{Part}
use Rattle.language.specs.Drafts.{marked}
use Rattle.language.specs.Tree.{Expr, no_expr}
use Rattle.language.specs.Running as Running
use Rattle.language.specs.Running.{Event, called, returned, Run, ◌>>=◌, give, emit, enter, run, made_in}
use Rattle.records.specs.declared.entry.Entry.{Entry}
use Rattle.records.specs.Columns.{tables_in}
use Rattle.records.specs.Standing.{Stands}
use Rattle.running.specs.declared.program.Stop.{Stop}
use Rattle.running.specs.declared.runner.Frame.{Frame}
use Rattle.running.specs.declared.runner.Runner.{Runner}
use Rattle.running.specs.Ending.{Ends, Tame, state_of, program_of}
use Rattle.running.specs.Evaluating.{Library, frame_of, Runs, Evals}
use Rattle.running.specs.Standing.{Body, Placed, all_entries}
use Rattle.running.proofs.Ending.{ends-quiet, ends-then, tame-rest}
use Rattle.running.proofs.Here.{run_at, first_runs, first_stop, first_then}

-- what happens on the way, and is no check
happens : (e : Event) (w v : Runner) → made_in (e ∷ []) ≡ [] → state_of v ≡ state_of w → v.checks ≡ w.checks → Ends (Ok tt) (emit e (state_of w)) w v
unfolding emit
happens e w v m s c = record { outcome = ap (Running.done tt) (sym s); checks = (let l = ap length m in omega (arith, l, c)) }

module _ (F : Frame) (left : ℕ) (book : Library F) (rule : ℕ) (there : rule < length book.bodies) where
  pub rule_body : Body F.program.records.now (length book.bodies) rule (slice_index_or book.bodies rule no_expr)
  rule_body = book.stand rule there

  -- the entry that was found is that of the rule
  entry_is : (e : Entry) → slice_get (all_entries F.program.records.now) rule ≡ Some e → rule_body.entry ≡ e
  entry_is e h = same_Some rule_body.entry e (sym rule_body.found ∙ h)

  -- the values of its names are in force
  module _ (e : Entry) (found : slice_get (all_entries F.program.records.now) rule ≡ Some e) (xs : List ℤ) (lists : List Part) (v h : Runner) where
    abbrev E : Running.Frame
    E = record { values = xs; parts = lists }

    abbrev body : Expr
    body = slice_index_or book.bodies rule no_expr

    abbrev entered : Run ℤ
    entered = enter (program_of F.program book.bodies) (run (program_of F.program book.bodies) (marked F.program.dropped.now) left) rule xs lists

    module _ (frame_is : E ≡ frame_of F h) (state_is : state_of h ≡ state_of v) (checks_are : h.checks ≡ v.checks) (tame : Tame (entered (state_of v))) where
      abbrev back : ℤ → Run ℤ
      back y = emit (returned rule xs y) >>= (λ u. give y)

      called_ends : Ends (Ok tt) (emit (called rule xs) (state_of v)) v h
      unfolding made_in
      called_ends = happens (called rule xs) v h refl state_is checks_are

      body_tame : Tame ((run_at F book left E body >>= back) (state_of h))
      body_tame = tame-rest (emit (called rule xs)) (λ u. run_at F book left E body >>= back) tt v h tame called_ends

      body_placed : Placed F.program.records.now book e.body
      body_placed = record { lo = rule_body.lo; tree = body; stands = subst (λ (e : Entry). Stands (tables_in F.program.records.now) rule_body.lo e.body body) (entry_is e found) rule_body.stands; few = rule_body.few }

      pub body_below : e.body < 16384
      body_below = subst (λ (e : Entry). e.body < 16384) (entry_is e found) rule_body.below

      abbrev body_run : Run ℤ
      body_run = run_at F book left E body_placed.tree >>= back

      tame_here : Tame (body_run (state_of h))
      unfolding body_placed
      tame_here = body_tame

      pub body_runs : Runs F left e.body h
      body_runs = first_runs F left e.body h book body_placed E frame_is back tame_here

      through : (r : Result ℤ Stop) (z : Runner) → Ends r (body_run (state_of h)) h z → Ends r (entered (state_of v)) v z
      unfolding body_placed
      through r z y = ends-then (emit (called rule xs)) (λ u. run_at F book left E body >>= back) tt r v h z called_ends y

      pub body_stop : (s : Stop) (z : Runner) → Evals (Err s) F left e.body h z → Ends (Err s) (entered (state_of v)) v z
      body_stop s z y = through (Err s) z (first_stop F left e.body h book body_placed E frame_is back tame_here s z y)

      pub body_ends : (y : ℤ) (z u : Runner) → Evals (Ok y) F left e.body h z → state_of u ≡ state_of z → u.checks ≡ z.checks → Ends (Ok y) (entered (state_of v)) v u
      unfolding made_in give
      body_ends y z u ez s c =
          through (Ok y) u (first_then F left e.body h book body_placed E frame_is back tame_here y z ez (Ok y) u
          (ends-then (emit (returned rule xs y)) (λ k. give y) tt (Ok y) z u u (happens (returned rule xs y) z u refl s c) (ends-quiet (Ok y) _ u u refl refl)))

      pub body_any : (r : Result ℤ Stop) (z : Runner) → Evals r F left e.body h z → Ends r (entered (state_of v)) v z
      body_any (Ok y) z x = body_ends y z z x refl refl
      body_any (Err s) z x = body_stop s z x
