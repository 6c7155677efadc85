-- Runs one after another: how they end, what they count, and what touches nothing outside.
use Rattle.std.proofs.Common.{◌≡◌, ◌+◌, ℤ, List, length, Ok, Err, Result, IsErrAnd, sym, ap, ◌∙◌, subst, arith}
use Rattle.std.proofs.Props.{props}
use Rattle.std.proofs.lemmas.List.{length-append}
use Rattle.language.specs.declared.part.Part.{Part}
use Rattle.language.specs.Running.{State, Ran, Run, quiet, ◌>>=◌, made_in}
use Rattle.language.proofs.Laws.{bind_done, bind-stop, bind-wild, made-append}
use Rattle.running.specs.declared.program.Stop.{Stop}
use Rattle.running.specs.declared.runner.Runner.{Runner}
use Rattle.running.specs.Evaluating.{Gives, Short}
use Rattle.running.specs.Ending.{Ends, Tame, state_of, outcome_of}

pub tame_prop : {A : Type 0} (m : Ran A) → IsProp (Tame m)
tame_prop m = hlevel

pub short_prop : (ps : List Part) → IsProp (Short ps)
short_prop ps = hlevel props

-- what a `?` passes on
pub refused : {A : Type 0} → (r : Result A Stop) (e : Stop) → IsErrAnd r (λ x. x ≡ e) → r ≡ Err e
refused (Ok x) e i = absurd i
refused (Err d) e i = ap Err i

pub ends-as : {A : Type 0} → (r : Result A Stop) (e : Stop) (m : Ran A) (w v : Runner) → IsErrAnd r (λ x. x ≡ e) → Ends (Err e) m w v → Ends r m w v
ends-as r e m w v i x = subst (λ (r : Result _ Stop). Ends r m w v) (sym (refused r e i)) x

-- what ends where it began, without a check
pub ends-quiet : {A : Type 0} → (r : Result A Stop) (m : Ran A) (w v : Runner) → m ≡ quiet (outcome_of r (state_of v)) → v.checks ≡ w.checks → Ends r m w v
unfolding made_in
ends-quiet r m w v e c = record { outcome = ap (λ (m : Ran _). m.outcome) e; checks = (let f = ap (λ (m : Ran _). length (made_in m.log)) e in omega (arith, f, c)) }

module _ {A B : Type 0} (m : Run A) (k : A → Run B) where
  pub ends-stop : (e : Stop) (w v : Runner) → Ends (Err e) (m (state_of w)) w v → Ends (Err e) ((m >>= k) (state_of w)) w v
  ends-stop e w v x =
      let b = bind-stop m k (state_of w) e.kind e.place (state_of v) x.outcome in
      record { outcome = ap (λ (m : Ran B). m.outcome) b; checks = x.checks ∙ ap (λ (m : Ran B). w.checks + length (made_in m.log)) (sym b) }

  pub ends-then : (x : A) (r : Result B Stop) (w v z : Runner) → Ends (Ok x) (m (state_of w)) w v → Ends r (k x (state_of v)) v z → Ends r ((m >>= k) (state_of w)) w z
  ends-then x r w v z a b =
      let e = bind_done m k (state_of w) x (state_of v) a.outcome in
      let l = ap (λ (m : Ran B). length (made_in m.log)) e ∙ ap length (made-append (m (state_of w)).log (k x (state_of v)).log) ∙ length-append (made_in (m (state_of w)).log) (made_in (k x (state_of v)).log) in
      record { outcome = ap (λ (m : Ran B). m.outcome) e ∙ b.outcome; checks = omega (arith, l, a.checks, b.checks) }

  pub tame-first : (s : State) → Tame ((m >>= k) s) → Tame (m s)
  tame-first s t = record { tame = λ e. t.tame (ap (λ (m : Ran B). m.outcome) (bind-wild m k s e)) }

  pub tame-rest : (x : A) (w v : Runner) → Tame ((m >>= k) (state_of w)) → Ends (Ok x) (m (state_of w)) w v → Tame (k x (state_of v))
  tame-rest x w v t a = record { tame = λ e. t.tame (ap (λ (m : Ran B). m.outcome) (bind_done m k (state_of w) x (state_of v) a.outcome) ∙ e) }

-- what lies beside the state makes no difference
pub ends-at : {A : Type 0} → (r : Result A Stop) (m : Ran A) (w v z : Runner) → state_of z ≡ state_of v → z.checks ≡ v.checks → Ends r m w v → Ends r m w z
ends-at r m w v z s c x = record { outcome = x.outcome ∙ ap (outcome_of r) (sym s); checks = c ∙ x.checks }

pub ends-from : {A : Type 0} → (r : Result A Stop) (m : Run A) (w v z : Runner) → state_of v ≡ state_of w → v.checks ≡ w.checks → Ends r (m (state_of v)) v z → Ends r (m (state_of w)) w z
ends-from r m w v z s c x =
    let e = ap (λ t. length (made_in (m t).log)) s in
    record { outcome = ap (λ t. (m t).outcome) (sym s) ∙ x.outcome; checks = omega (arith, e, c, x.checks) }

pub given-not : (e : Stop) (r : Result (Unit {0}) Stop) (m : Ran (List ℤ)) (parts : List Part) (given given2 : List ℤ) (lent lent2 : List Part) (w v : Runner) → IsErrAnd r (λ x. x ≡ e) → Ends {A = List ℤ} (Err e) m w v → Gives r m parts given given2 lent lent2 w v
given-not e r m parts given given2 lent lent2 w v i x = subst (λ (r : Result (Unit {0}) Stop). Gives r m parts given given2 lent lent2 w v) (sym (refused r e i)) x
