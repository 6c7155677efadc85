-- The run alone: a book's run and its full run from one state, which come to the same and differ in the checks made alone.
use Rattle.std.proofs.Common.{◌≡◌, ℕ, zero, suc, ◌+◌, ◌<◌, ◌≤◌, Bool, true, false, cond, not, ◌||◌, T, List, [], ◌∷◌, ◌++◌, map, length, ℤ, pos, negsuc, Some, None, sym, refl, ap, ◌∙◌, subst, ap₂, arith, ltb→lt}
use lib.Signed.{le_z, lt_z}
use Rattle.std.specs.List.{AllByRecursion}
use Rattle.std.proofs.ByRecursion.{All-append}
use Rattle.std.proofs.lemmas.List.{map-append, length-set}
use Rattle.std.proofs.lemmas.Bool.{lt-ltb}
use Rattle.language.specs.declared.part.Part.{Part}
use Rattle.language.specs.declared.ending.Ending.{Ending}
use Rattle.language.specs.declared.ending.Ending.TheVariants.{Spent, Range}
use Rattle.language.specs.declared.check.Check.{Check}
use Rattle.language.specs.declared.check.Check.TheVariants.{Below, Above}
use Rattle.language.specs.Vocabulary.{check_ending}
use Rattle.language.specs.Tree.{Site}
use Rattle.language.specs.Running.{Event, came, called, returned, State, Outcome, done, stop, wild, Ran, Run, quiet, give, halt, emit, after, ◌>>=◌, spend, in_range, Dropped, check, cell_of, inside, load, store, touch, Program, fit}

-- an event of the full run, as it is in a book's run that drops S
abbrev pub as_book : Dropped → Event → Event
as_book S (came n made passes) = came n (not (S n)) passes
as_book S (called f xs) = called f xs
as_book S (returned f xs v) = returned f xs v

abbrev pub full : Dropped
full n = false

-- P holds of the value, there are N cells still, and nothing outside was touched
abbrev pub Ends : {A : Type 0} → ℕ → (A → Type 0) → Outcome A → Type 0
Ends N P (done a s) = P a × (length s.cells ≡ N)
Ends N P (stop kind place s) = Unit {0}
Ends N P wild = ⊥

-- S is dropped, there are N cells, and G holds of each event
module _ (S : Dropped) (N : ℕ) (G : Event → Type 0) where
  pub record Both {A : Type 0} (P : A → Type 0) (o p : Ran A) : Type 0 where
    pub same : o.outcome ≡ p.outcome
    pub log : o.log ≡ map (as_book S) p.log
    pub good : AllByRecursion G p.log
    pub post : Ends N P p.outcome

  pub record Same {A : Type 0} (P : A → Type 0) (m n : Run A) : Type 0 where
    pub from : (s : State) → length s.cells ≡ N → Both P (m s) (n s)

  pub same-give : {A : Type 0} (P : A → Type 0) (a : A) → P a → Same P (give a) (give a)
  unfolding give
  same-give P a h = record { from = λ s l. record { same = refl; log = refl; good = tt; post = (h, l) } }

  pub same-halt : {A : Type 0} (P : A → Type 0) (kind : Ending) (place : ℕ) → Same P (halt kind place) (halt kind place)
  unfolding halt
  same-halt P kind place = record { from = λ s l. record { same = refl; log = refl; good = tt; post = tt } }

  pub same-emit : (e d : Event) → d ≡ as_book S e → G e → Same (λ x. Unit {0}) (emit d) (emit e)
  unfolding emit
  same-emit e d h g = record { from = λ s l. record { same = refl; log = ap (λ (x : Event). x ∷ []) h; good = (g, tt); post = (tt, l) } }

  pub same_load : (a : ℕ) → Same (λ x. Unit {0}) (load a) (load a)
  unfolding load
  same_load a = record { from = λ s l. record { same = refl; log = refl; good = tt; post = (tt, l) } }

  pub same_store : (a : ℕ) (v : ℤ) → Same (λ x. Unit {0}) (store a v) (store a v)
  unfolding store
  same_store a v = record { from = λ s l. record { same = refl; log = refl; good = tt; post = (tt, length-set s.cells a v ∙ l) } }

  pub same-spend : (place : ℕ) → Same (λ x. Unit {0}) (spend place) (spend place)
  unfolding spend
  same-spend place = record { from = λ s l. go s l s.fuel }
    where
      on : State → ℕ → Ran (Unit {0})
      on s f = elim f [ zero ↦ quiet (stop Spent place s) | suc f ↦ quiet (done tt (record { fuel = f; cells = s.cells })) ]

      go : (s : State) → length s.cells ≡ N → (f : ℕ) → Both (λ x. Unit {0}) (on s f) (on s f)
      go s l zero = record { same = refl; log = refl; good = tt; post = tt }
      go s l (suc f) = record { same = refl; log = refl; good = tt; post = (tt, l) }

  pub same-bind : {A B : Type 0} (P : A → Type 0) (Q : B → Type 0) (m n : Run A) (k l : A → Run B)
      → Same P m n → ((a : A) → P a → Same Q (k a) (l a)) → Same Q (m >>= k) (n >>= l)
  unfolding ◌>>=◌
  same-bind {A} {B} P Q m n k l h f = record { from = λ s e. go (m s) (n s) (h.from s e) }
    where
      on : Ran A → (A → Run B) → Ran B
      on o k = elim o.outcome [
        | done a t ↦ after o.log (k a t)
        | stop kind place t ↦ record { log = o.log; outcome = stop kind place t }
        | wild ↦ record { log = o.log; outcome = wild }
      ]

      at-end : (d c : List Event) (e : Outcome A) → d ≡ map (as_book S) c → AllByRecursion G c → Ends N P e → Both Q (on (record { log = d; outcome = e }) k) (on (record { log = c; outcome = e }) l)
      at-end d c (done a t) e g h =
          let r = (f a h.0).from t h.1 in
          record { same = r.same; log = ap₂ ◌++◌ e r.log ∙ sym (map-append (as_book S) c (l a t).log); good = All-append G c (l a t).log g r.good; post = r.post }
      at-end d c (stop kind place t) e g h = record { same = refl; log = e; good = g; post = tt }
      at-end d c wild e g h = absurd h

      go : (o p : Ran A) → Both P o p → Both Q (on o k) (on p l)
      go o p h = subst (λ (x : Outcome A). Both Q (on (record { log = o.log; outcome = x }) k) (on p l)) (sym h.same) (at-end o.log p.log p.outcome h.log h.good h.post)

  pub same_cond : {A : Type 0} (P : A → Type 0) (b : Bool) (m m' n n' : Run A)
      → (T b → Same P m n) → (T (not b) → Same P m' n') → Same P (cond b m m') (cond b n n')
  same_cond P true m m' n n' f g = f tt
  same_cond P false m m' n n' f g = g tt

  pub same-fit : (program : Program) (place : ℕ) (P : ℤ → Type 0) (v : ℤ) → (T (in_range program.low program.high v) → P v) → Same P (fit program place v) (fit program place v)
  unfolding fit
  same-fit program place P v f = same_cond P (in_range program.low program.high v) _ _ _ _ (λ t. same-give P v (f t)) (λ t. same-halt P Range place)

  -- a check that passes where it is dropped
  pub same_check : (kind : Check) (place n : ℕ) (b : Bool) → G (came n true b) → (T (S n) → T b) → Same (λ x. T b) (check S kind place n b) (check full kind place n b)
  unfolding check
  same_check kind place n b g h = same-bind _ _ _ _ _ _ (same-emit (came n true b) (came n (not (S n)) b) refl g) (λ x y. go (S n) b h)
    where
      go : (d b : Bool) → (T d → T b) → Same (λ x. T b) (cond (d || b) (give {A = Unit {0}} tt) (halt (check_ending kind) place)) (cond b (give tt) (halt (check_ending kind) place))
      go true true h = same-give _ tt tt
      go false true h = same-give _ tt tt
      go true false h = absurd (h tt)
      go false false h = same-halt _ (check_ending kind) place

  same-found : (a : ℕ) → a < N → Same (λ c. Unit {0}) (inside (Some a)) (inside (Some a))
  unfolding inside
  same-found a h = record { from = λ s e. subst (λ (t : Bool). Both (λ c. Unit {0}) (cond t (quiet (done a s)) (quiet wild)) (cond t (quiet (done a s)) (quiet wild))) (sym (lt-ltb a (length s.cells) (omega (arith, e)))) (record { same = refl; log = refl; good = tt; post = (tt, e) }) }

  same-inside : (part : Part) (x : ℤ) → part.start + part.length ≤ N → T (le_z (pos 0) x) → T (lt_z x (pos part.length)) → Same (λ a. Unit {0}) (inside (cell_of part x)) (inside (cell_of part x))
  same-inside part (negsuc n) h a b = absurd a
  same-inside part (pos n) h a b =
      let l = ltb→lt n part.length b in
      subst (λ (t : Bool). Same (λ a. Unit {0}) (inside (cond t (Some (part.start + n)) None)) (inside (cond t (Some (part.start + n)) None))) (sym (lt-ltb n part.length l)) (same-found (part.start + n) (omega arith))

  -- an element of a part that lies in the cells
  pub same-touch : (site : Site) (part : Part) (x : ℤ) → part.start + part.length ≤ N
      → (G (came site.number true (le_z (pos 0) x))) → (T (S site.number) → T (le_z (pos 0) x))
      → (G (came (suc site.number) true (lt_z x (pos part.length)))) → (T (S (suc site.number)) → T (lt_z x (pos part.length)))
      → Same (λ a. Unit {0}) (touch S site part x) (touch full site part x)
  same-touch site part x h g a g' b =
      same-bind _ _ _ _ _ _ (same_check Below site.place site.number (le_z (pos 0) x) g a) (λ _ t.
      same-bind _ _ _ _ _ _ (same_check Above site.place (suc site.number) (lt_z x (pos part.length)) g' b) (λ _ u.
      same-inside part x h t u))

  pub same_post : {A : Type 0} (P Q : A → Type 0) (m n : Run A) → ((a : A) → P a → Q a) → Same P m n → Same Q m n
  same_post {A} P Q m n f h = record { from = λ s l. let r = h.from s l in record { same = r.same; log = r.log; good = r.good; post = go (n s).outcome r.post } }
    where
      go : (e : Outcome A) → Ends N P e → Ends N Q e
      go (done a s) t = (f a t.0, t.1)
      go (stop kind place s) t = tt
      go wild t = t
