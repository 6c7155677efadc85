-- How notes and runs are put together, step by step.
use Rattle.std.proofs.Common.{◌≡◌, ℕ, Bool, true, false, cond, ltb, List, [], ◌∷◌, ◌++◌, Some, None, sym, refl, ap}
use Rattle.std.proofs.lemmas.Option.{none-some}
use Rattle.language.specs.declared.ending.Ending.{Ending}
use Rattle.language.specs.declared.refusal.Refusal.{Refusal}
use Rattle.language.specs.declared.refusal.Refusal.TheVariants.{Full}
use Rattle.language.specs.Limits.{most_obligations}
use Rattle.language.specs.Walking.{Note, owes, fault, first_fault}
use Rattle.language.specs.Running.{Event, came, called, returned, State, Outcome, done, stop, wild, Ran, Run, after, ◌>>=◌, made_in}

-- the first fault of notes is that of the first part, or else of the rest
pub fault-first : (ns bs : List Note) (r : Refusal) → first_fault ns ≡ Some r → first_fault (ns ++ bs) ≡ Some r
unfolding first_fault
fault-first [] bs r e = absurd (none-some r e)
fault-first (fault q ∷ ns) bs r e = e
fault-first (owes o work ∷ ns) bs r e = go (ltb o.number most_obligations) (fault-first ns bs r) e
  where
    go : (b : Bool) → (first_fault ns ≡ Some r → first_fault (ns ++ bs) ≡ Some r) → cond b (first_fault ns) (Some (Full work)) ≡ Some r → cond b (first_fault (ns ++ bs)) (Some (Full work)) ≡ Some r
    go true f e = f e
    go false f e = e

pub fault-next : (ns bs : List Note) → first_fault ns ≡ None → first_fault (ns ++ bs) ≡ first_fault bs
unfolding first_fault
fault-next [] bs e = refl
fault-next (fault q ∷ ns) bs e = absurd (none-some q (sym e))
fault-next (owes o work ∷ ns) bs e = go (ltb o.number most_obligations) (fault-next ns bs) e
  where
    go : (b : Bool) → (first_fault ns ≡ None → first_fault (ns ++ bs) ≡ first_fault bs) → cond b (first_fault ns) (Some (Full work)) ≡ None → cond b (first_fault (ns ++ bs)) (Some (Full work)) ≡ first_fault bs
    go true f e = f e
    go false f e = absurd (none-some (Full work) (sym e))

-- a run that goes on after another
module _ {A B : Type 0} (m : Run A) (k : A → Run B) (s : State) where
  on : Outcome A → Ran B
  on o = elim o [ done a t ↦ after (m s).log (k a t) | stop kind place t ↦ record { log = (m s).log; outcome = stop kind place t } | wild ↦ record { log = (m s).log; outcome = wild } ]

  pub bind_done : (a : A) (t : State) → (m s).outcome ≡ done a t → (m >>= k) s ≡ after (m s).log (k a t)
  unfolding ◌>>=◌ on
  bind_done a t e = ap on e

  pub bind-stop : (kind : Ending) (place : ℕ) (t : State) → (m s).outcome ≡ stop kind place t → (m >>= k) s ≡ record { log = (m s).log; outcome = stop kind place t }
  unfolding ◌>>=◌ on
  bind-stop kind place t e = ap on e

  pub bind-wild : (m s).outcome ≡ wild → (m >>= k) s ≡ record { log = (m s).log; outcome = wild }
  unfolding ◌>>=◌ on
  bind-wild e = ap on e

-- the checks made, one run after another
pub made-append : (es ds : List Event) → made_in (es ++ ds) ≡ made_in es ++ made_in ds
unfolding made_in
made-append [] ds = refl
made-append (came n true passes ∷ es) ds = ap (λ (l : List ℕ). n ∷ l) (made-append es ds)
made-append (came n false passes ∷ es) ds = made-append es ds
made-append (called f xs ∷ es) ds = made-append es ds
made-append (returned f xs v ∷ es) ds = made-append es ds
