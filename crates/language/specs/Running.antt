-- The run of a sheet: fuel, depth, range, cells and calls, with checks made or dropped; what happened on the way is an output.
use Rattle.std.specs.Prelude.{ℕ, zero, suc, ◌+◌, Bool, true, false, cond, not, ◌&&◌, ◌||◌, List, [], ◌∷◌, ◌++◌, map, length, ℤ, pos, negsuc, Some, None, Option, int_le, int_lt, nat_lt, slice_index_or, slice_set}
use Rattle.language.specs.declared.part.Part.{Part}
use Rattle.language.specs.declared.ending.Ending.{Ending}
use Rattle.language.specs.declared.ending.Ending.TheVariants.{Spent, Deep, Range}
use Rattle.language.specs.declared.check.Check.{Check}
use Rattle.language.specs.declared.check.Check.TheVariants.{Below, Above}
use Rattle.language.specs.Vocabulary.{check_ending, reckoned, holds}
use Rattle.language.specs.Tree.{Site, Expr, num, name, calc, read, call, bind, test, put, claim, Args, end, value, lent, place_of, no_expr, lent_of}

-- a check that was come to, with its number, whether it was made, and whether it passes;
-- a call of a rule with the values of its names; its return with a value
pub data Event : Type 0 where
  came : ℕ → Bool → Bool → Event
  called : ℕ → List ℤ → Event
  returned : ℕ → List ℤ → ℤ → Event

pub record State : Type 0 where
  pub fuel : ℕ
  pub cells : List ℤ

-- how a run goes: it is done, it stops at a place, or it touches what lies outside, which no sound book does
pub data Outcome (A : Type 0) : Type 0 where
  done : A → State → Outcome A
  stop : Ending → ℕ → State → Outcome A
  wild : Outcome A

pub record Ran (A : Type 0) : Type 0 where
  pub log : List Event
  pub outcome : Outcome A

abbrev pub Run : Type 0 → Type 0
Run A = State → Ran A

abbrev pub quiet : {A : Type 0} → Outcome A → Ran A
quiet o = record { log = []; outcome = o }

unfoldable pub give : {A : Type 0} → A → Run A
give a s = quiet (done a s)

unfoldable pub halt : {A : Type 0} → Ending → ℕ → Run A
halt kind place s = quiet (stop kind place s)

unfoldable pub emit : Event → Run (Unit {0})
emit e s = record { log = e ∷ []; outcome = done tt s }

abbrev pub after : {A : Type 0} → List Event → Ran A → Ran A
after log r = record { log = log ++ r.log; outcome = r.outcome }

infixl 1 ◌>>=◌ ◌>>◌
unfoldable pub ◌>>=◌ : {A B : Type 0} → Run A → (A → Run B) → Run B
◌>>=◌ m k s = elim (m s).outcome [
  | done a t ↦ after (m s).log (k a t)
  | stop kind place t ↦ record { log = (m s).log; outcome = stop kind place t }
  | wild ↦ record { log = (m s).log; outcome = wild }
]

abbrev pub ◌>>◌ : {A B : Type 0} → Run A → Run B → Run B
m >> k = m >>= (λ x. k)

-- one unit of fuel
unfoldable pub spend : ℕ → Run (Unit {0})
spend place s = elim s.fuel [ zero ↦ quiet (stop Spent place s) | suc f ↦ quiet (done tt (record { fuel = f; cells = s.cells })) ]

abbrev pub in_range : ℤ → ℤ → ℤ → Bool
in_range low high v = int_le low v && int_le v high

-- the numbers of the checks that are dropped
abbrev pub Dropped : Type 0
Dropped = ℕ → Bool

-- a check that is come to: dropped, or made, and then it may fail
unfoldable pub check : Dropped → Check → ℕ → ℕ → Bool → Run (Unit {0})
check S kind place number passes =
    emit (came number (not (S number)) passes) >> cond (S number || passes) (give tt) (halt (check_ending kind) place)

-- the cell of an element of a part
abbrev pub cell_of : Part → ℤ → Option ℕ
cell_of p (pos n) = cond (nat_lt n p.length) (Some (p.start + n)) None
cell_of p (negsuc n) = None

unfoldable pub inside : Option ℕ → Run ℕ
inside None s = quiet wild
inside (Some a) s = cond (nat_lt a (length s.cells)) (quiet (done a s)) (quiet wild)

unfoldable pub load : ℕ → Run ℤ
load a s = quiet (done (slice_index_or s.cells a (pos 0)) s)

unfoldable pub store : ℕ → ℤ → Run (Unit {0})
store a v s = quiet (done tt (record { fuel = s.fuel; cells = slice_set s.cells a v }))

-- the two checks of an index, below first, then the cell
abbrev pub touch : Dropped → Site → Part → ℤ → Run ℕ
touch S site part x = do
  check S Below site.place site.number (int_le (pos 0) x)
  check S Above site.place (suc site.number) (int_lt x (pos part.length))
  inside (cell_of part x)

-- the values of the names in force, and the parts of the rule's lists
pub record Frame : Type 0 where
  pub values : List ℤ
  pub parts : List Part

abbrev pub value_at : Frame → ℕ → ℤ
value_at E i = slice_index_or E.values i (pos 0)

abbrev pub no_part : Part
no_part = record { start = 0; length = 0 }

abbrev pub part_at : List Part → ℕ → Part
part_at ps l = slice_index_or ps l no_part

abbrev pub length_of : Part → ℤ
length_of p = pos p.length

abbrev pub holding : Frame → ℤ → Frame
holding E x = record { values = E.values ++ x ∷ []; parts = E.parts }

-- what runs: a range and the bodies of the rules
pub record Program : Type 0 where
  pub low : ℤ
  pub high : ℤ
  pub bodies : List Expr

-- a value outside the range stops
unfoldable pub fit : Program → ℕ → ℤ → Run ℤ
fit P place v = cond (in_range P.low P.high v) (give v) (halt Range place)

abbrev pub Eval : Type 0
Eval = Frame → Expr → Run ℤ

abbrev pub enter : Program → Eval → ℕ → List ℤ → List Part → Run ℤ
enter P ev f xs ps = do
  emit (called f xs)
  v ← ev (record { values = xs; parts = ps }) (slice_index_or P.bodies f no_expr)
  emit (returned f xs v)
  give v

-- arguments from the left; a list that is lent gives its length
unfoldable pub values : Eval → Frame → Args → Run (List ℤ)
values ev E end = give []
values ev E (value e es) = do
  x ← ev E e
  xs ← values ev E es
  give (x ∷ xs)
values ev E (lent l es) = do
  xs ← values ev E es
  give (length_of (part_at E.parts l) ∷ xs)

-- an expression that has taken its unit, its parts run by ev
unfoldable pub node : Program → Dropped → Eval → Frame → Expr → Run ℤ
node P S ev E (num p n) = fit P p (pos n)
node P S ev E (name p i) = fit P p (value_at E i)
node P S ev E (calc p o a b) = do
  x ← ev E a
  y ← ev E b
  fit P p (reckoned o x y)
node P S ev E (read site e) = do
  x ← ev E e
  a ← touch S site (part_at E.parts site.list) x
  y ← load a
  fit P site.place y
node P S ev E (call p f es) = do
  xs ← values ev E es
  enter P ev f xs (map (part_at E.parts) (lent_of es))
node P S ev E (bind p a b) = do
  x ← ev E a
  ev (holding E x) b
node P S ev E (test p c a b d e) = do
  x ← ev E a
  y ← ev E b
  cond (holds c x y) (ev E d) (ev E e)
node P S ev E (put p site a b e) = do
  x ← ev E a
  y ← ev E b
  c ← touch S site (part_at E.parts site.list) x
  store c y
  ev E e
node P S ev E (claim p e cs) = ev E e

-- an expression, where so many may still stand one in another
unfoldable pub run : Program → Dropped → ℕ → Eval
run P S zero E e = do
  spend (place_of e)
  halt Deep (place_of e)
run P S (suc d) E e = do
  spend (place_of e)
  node P S (run P S d) E e

-- the numbers of the checks made, in their order
unfoldable pub made_in : List Event → List ℕ
made_in [] = []
made_in (came n true passes ∷ es) = n ∷ made_in es
made_in (came n false passes ∷ es) = made_in es
made_in (called f xs ∷ es) = made_in es
made_in (returned f xs v ∷ es) = made_in es
