-- The steps that call nothing: fuel, a value in the range, a check, a cell.
use Rattle.std.proofs.Common.{◌≡◌, ℕ, zero, suc, ◌+◌, ◌-◌, ◌<◌, Bool, true, false, cond, ◌||◌, not, List, ℤ, length, ltb, Some, None, Ok, Err, Option, sym, refl, ap, ◌∙◌, subst, arith}
use Rattle.std.proofs.lemmas.Bool.{ltb-true}
use Rattle.language.specs.declared.check.Check.{Check}
use Rattle.language.specs.declared.ending.Ending.TheVariants.{Spent, Range}
use Rattle.language.specs.Vocabulary.{check_ending}
use Rattle.language.specs.Running.{State, came, done, stop, wild, Run, quiet, Dropped, Program, in_range, give, halt, emit, ◌>>=◌, spend, fit, check, inside, made_in}
use Rattle.running.specs.declared.program.Stop.{Stop}
use Rattle.running.specs.declared.runner.Runner.{Runner}
use Rattle.running.specs.Ending.{Ends, Tame, HasCell, state_of}

pub fit-not : (P : Program) (p : ℕ) (v : ℤ) (s : State) → in_range P.low P.high v ≡ false → fit P p v s ≡ quiet (stop Range p s)
unfolding fit give halt
fit-not P p v s e = ap (λ b. cond b (give v) (halt Range p) s) e

pub fit-in : (P : Program) (p : ℕ) (v : ℤ) (s : State) → in_range P.low P.high v ≡ true → fit P p v s ≡ quiet (done v s)
unfolding fit give halt
fit-in P p v s e = ap (λ b. cond b (give v) (halt Range p) s) e

pub spend-not : (p f : ℕ) (cells : List ℤ) → f ≡ 0 → spend p (record { fuel = f; cells = cells }) ≡ quiet (stop Spent p (record { fuel = f; cells = cells }))
unfolding spend
spend-not p zero cells e = refl
spend-not p (suc f) cells e = let no : ⊥ = omega (arith, e) in absurd no

pub spend-one : (p f : ℕ) (cells : List ℤ) → (f ≡ 0 → ⊥) → spend p (record { fuel = f; cells = cells }) ≡ quiet (done tt (record { fuel = f - 1; cells = cells }))
unfolding spend
spend-one p zero cells e = absurd (e refl)
spend-one p (suc f) cells e = let g : f ≡ suc f - 1 = omega arith in ap (λ n. quiet (done tt (record { fuel = n; cells = cells }))) g

-- a check: dropped, passed or failed
module _ (S : Dropped) (kind : Check) (p n : ℕ) where
  check_as : Bool → Bool → Run (Unit {0})
  check_as d c = emit (came n (not d) c) >>= (λ u. cond (d || c) (give tt) (halt (check_ending kind) p))

  pub dropped_ends : (c : Bool) (w : Runner) → true ≡ S n → Ends (Ok tt) (check S kind p n c (state_of w)) w w
  unfolding check emit give halt ◌>>=◌ made_in check_as
  dropped_ends c w e = subst (λ d. Ends (Ok tt) (check_as d c (state_of w)) w w) e (record { outcome = refl; checks = (let z : w.checks ≡ w.checks + 0 = omega arith in z) })

  pub passed_ends : (c : Bool) (w v : Runner) → false ≡ S n → c ≡ true → state_of w ≡ state_of v → v.checks ≡ w.checks + 1 → Ends (Ok tt) (check S kind p n c (state_of w)) w v
  unfolding check emit give halt ◌>>=◌ made_in check_as
  passed_ends c w v e f g h = subst (λ c. Ends (Ok tt) (check S kind p n c (state_of w)) w v) (sym f) (subst (λ d. Ends (Ok tt) (check_as d true (state_of w)) w v) e (record { outcome = ap (done tt) g; checks = h }))

  pub failed_ends : (c : Bool) (r : Stop) (w v : Runner) → false ≡ S n → c ≡ false → r ≡ record { kind = check_ending kind; place = p } → state_of w ≡ state_of v → v.checks ≡ w.checks + 1 → Ends (Err r) (check S kind p n c (state_of w)) w v
  unfolding check emit give halt ◌>>=◌ made_in check_as
  failed_ends c r w v e f q g h =
      subst (λ c. Ends (Err r) (check S kind p n c (state_of w)) w v) (sym f) (subst (λ (r : Stop). Ends (Err r) (check S kind p n false (state_of w)) w v) (sym q)
      (subst (λ d. Ends (Err (record { kind = check_ending kind; place = p })) (check_as d false (state_of w)) w v) e (record { outcome = ap (stop (check_ending kind) p) g; checks = h })))

-- a cell that is there lies inside
tame_cond : (b : Bool) (a : ℕ) (s : State) → Tame (cond b (quiet (done a s)) (quiet wild)) → b ≡ true
tame_cond true a s t = refl
tame_cond false a s t = absurd (t.tame refl)

pub has_cell : (o : Option ℕ) (s : State) → Tame (inside o s) → HasCell o
unfolding inside
has_cell None s t = t.tame refl
has_cell (Some a) s t = tt

pub cell_inside : (o : Option ℕ) (a : ℕ) (s : State) → Some a ≡ o → Tame (inside o s) → a < length s.cells
unfolding inside
cell_inside o a s e t = ltb-true a (length s.cells) (tame_cond (ltb a (length s.cells)) a s (subst (λ o. Tame (inside o s)) (sym e) t))

pub cell_given : (o : Option ℕ) (a : ℕ) (s : State) → Some a ≡ o → Tame (inside o s) → inside o s ≡ quiet (done a s)
unfolding inside
cell_given o a s e t =
    ap (λ o. inside o s) (sym e) ∙ ap (λ b. cond b (quiet (done a s)) (quiet wild)) (tame_cond (ltb a (length s.cells)) a s (subst (λ o. Tame (inside o s)) (sym e) t))
