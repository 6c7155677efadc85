-- Arguments that are run from the left: the values that they give, and the parts that they lend.
use Rattle.std.proofs.Common.{◌≡◌, ℕ, ◌+◌, ◌<◌, ◌≤◌, List, [], ◌∷◌, ◌++◌, ℤ, map, length, Some, Ok, Err, Result, sym, refl, ap, ◌∙◌, subst, arith}
use Rattle.std.proofs.lemmas.List.{append-nil, append_assoc, length-append}
use Rattle.std.specs.List.{slice_get}
use Rattle.language.specs.declared.part.Part.{Part}
use Rattle.language.specs.Drafts.{marked}
use Rattle.language.specs.Tree as Tree
use Rattle.language.specs.Tree.{Args, shape, lent_of}
use Rattle.language.specs.Running as Running
use Rattle.language.specs.Running.{Run, State, ◌>>=◌, give, part_at, length_of, run, values}
use Rattle.pile.specs.Entries.{entries, room}
use Rattle.pile.specs.declared.Pile.{Pile}
use Rattle.records.specs.declared.node.Node.{Node}
use Rattle.records.specs.declared.node.Node.TheVariants.{Blank, Num, Name, Calc, Read, Call, Bind, Test, Put, Claim, End, Value, Lent}
use Rattle.records.specs.Columns.{tables_in}
use Rattle.records.specs.Tables.{Tables}
use Rattle.records.specs.Inverting.{ArgsAs, ValueStands, LentStands}
use Rattle.records.proofs.Inverting.{args_as}
use Rattle.running.specs.declared.program.Stop.{Stop}
use Rattle.running.specs.declared.runner.Frame.{Frame}
use Rattle.running.specs.declared.runner.Runner.{Runner}
use Rattle.running.specs.Ending.{Ends, Tame, Beside, state_of, program_of}
use Rattle.running.specs.Evaluating.{Library, frame_of, eval_in, values_in, Runs, Evals, ArgsRun, ArgsGive, Gives}
use Rattle.running.specs.Standing.{FewArgs, Placed, ArgsPlaced}
use Rattle.running.proofs.Ending.{ends-quiet, ends-stop, ends-then, tame-first}
use Rattle.running.proofs.Here.{same_frame, first_runs, first_stop, first_then, first_tame}

none_other : (t : Tables) (lo at : ℕ) (es : Args) (m : Node) → ArgsAs t lo at es m → (m ≡ End → ⊥) → ((a b : ℕ) → m ≡ Value a b → ⊥) → ((l b : ℕ) → m ≡ Lent l b → ⊥) → ⊥
none_other t lo at es Blank x ne nv nl = x
none_other t lo at es (Num p v) x ne nv nl = x
none_other t lo at es (Name p i) x ne nv nl = x
none_other t lo at es (Calc p o a b) x ne nv nl = x
none_other t lo at es (Read p m l a) x ne nv nl = x
none_other t lo at es (Call p f a) x ne nv nl = x
none_other t lo at es (Bind p a b) x ne nv nl = x
none_other t lo at es (Test p c a b d f) x ne nv nl = x
none_other t lo at es (Put p q m l a b f) x ne nv nl = x
none_other t lo at es (Claim p a s) x ne nv nl = x
none_other t lo at es End x ne nv nl = ne refl
none_other t lo at es (Value a b) x ne nv nl = nv a b refl
none_other t lo at es (Lent l b) x ne nv nl = nl l b refl

abbrev values_at : (f : Frame) → Library f → ℕ → Running.Frame → Args → Run (List ℤ)
values_at f book left E es = values (run (program_of f.program book.bodies) (marked f.program.dropped.now) left) E es

-- the values of the rest, after one more
more_given : (m : Run (List ℤ)) (x : ℤ) (w v : Runner) (r : Result (Unit {0}) Stop) (parts more : List Part) (given given2 given3 : List ℤ) (lent lent2 lent3 : List Part)
    → given2 ≡ given ++ x ∷ [] → lent2 ≡ lent ++ more → Gives r (m (state_of w)) parts given2 given3 lent2 lent3 w v → Gives r ((m >>= (λ xs. give (x ∷ xs))) (state_of w)) (more ++ parts) given given3 lent lent3 w v
unfolding give
more_given m x w v (Ok u) parts more given given2 given3 lent lent2 lent3 e h g = record {
  values = x ∷ g.values;
  joined = g.joined ∙ ap (λ xs. xs ++ g.values) e ∙ append_assoc given (x ∷ []) g.values;
  parts_joined = g.parts_joined ∙ ap (λ ps. ps ++ parts) h ∙ append_assoc lent more parts;
  ends = ends-then m (λ xs. give (x ∷ xs)) g.values (Ok (x ∷ g.values)) w v v g.ends (ends-quiet (Ok (x ∷ g.values)) _ v v refl refl);
}
more_given m x w v (Err e) parts more given given2 given3 lent lent2 lent3 h k g = ends-stop m (λ xs. give (x ∷ xs)) e w v g

module _ (f : Frame) (left at : ℕ) (given : Pile ℤ) (lent : Pile Part) (w : Runner) (g : ArgsRun f left at given lent w) where
  abbrev T : Tables
  T = tables_in f.program.records.now

  abbrev trees : Args
  trees = g.placed.trees

  as_few : (es : Args) → trees ≡ es → FewArgs (length g.book.bodies) es
  as_few es h = subst (FewArgs (length g.book.bodies)) h g.placed.few

  as_tame : (es : Args) → trees ≡ es → Tame (values_in f g.book left w es (state_of w))
  as_tame es h = subst (λ es. Tame (values_in f g.book left w es (state_of w))) h g.tame

  as_given : (es : Args) → trees ≡ es → length (entries given) + length (shape es) ≤ room given
  as_given es h = subst (λ es. length (entries given) + length (shape es) ≤ room given) h g.given_room

  as_lent : (es : Args) → trees ≡ es → length (entries lent) + length (shape es) ≤ room lent
  as_lent es h = subst (λ es. length (entries lent) + length (shape es) ≤ room lent) h g.lent_room

  as_gives : (es : Args) → trees ≡ es → (r : Result (Unit {0}) Stop) (given3 : List ℤ) (lent3 : List Part) (z : Runner)
      → Gives r (values_in f g.book left w es (state_of w)) (map (part_at f.parts.now) (lent_of es)) (entries given) given3 (entries lent) lent3 w z → Gives r (values_in f g.book left w trees (state_of w)) (map (part_at f.parts.now) (lent_of trees)) (entries given) given3 (entries lent) lent3 w z
  as_gives es h r given3 lent3 z x = subst (λ es. Gives r (values_in f g.book left w es (state_of w)) (map (part_at f.parts.now) (lent_of es)) (entries given) given3 (entries lent) lent3 w z) (sym h) x

  -- where a node is no argument's, none stand
  pub no_arguments : (m : Node) → slice_get T.nodes at ≡ Some m → (m ≡ End → ⊥) → ((a b : ℕ) → m ≡ Value a b → ⊥) → ((l b : ℕ) → m ≡ Lent l b → ⊥) → ⊥
  no_arguments m n ne nv nl = none_other T g.placed.lo at trees m (args_as T g.placed.lo at trees m g.placed.stand n) ne nv nl

  -- no arguments
  pub end_gives : slice_get T.nodes at ≡ Some End → Gives (Ok tt) (values_in f g.book left w trees (state_of w)) (map (part_at f.parts.now) (lent_of trees)) (entries given) (entries given) (entries lent) (entries lent) w w
  unfolding values lent_of give
  end_gives n = as_gives Tree.end (args_as T g.placed.lo at trees _ g.placed.stand n).is (Ok tt) (entries given) (entries lent) w (record {
    values = [];
    joined = sym (append-nil (entries given));
    parts_joined = sym (append-nil (entries lent));
    ends = ends-quiet (Ok []) _ w w refl refl;
  })

  -- the value of an expression, and the rest
  module _ (a b : ℕ) (n : slice_get T.nodes at ≡ Some (Value a b)) where
    value_is : ValueStands T g.placed.lo a b at trees
    value_is = args_as T g.placed.lo at trees _ g.placed.stand n

    pub argument_below : a < at
    argument_below = value_is.argument_below

    pub value_rest_below : b < at
    value_rest_below = value_is.rest_below

    value_placed : Placed f.program.records.now g.book a
    value_placed = let q = value_is in record { lo = _; tree = q.argument; stands = q.argument_stands; few = (as_few _ q.is).0 }

    rest_placed : ArgsPlaced f.program.records.now g.book b
    rest_placed = let q = value_is in record { lo = _; trees = q.rest; stand = q.rest_stand; few = (as_few _ q.is).1 }

    abbrev k : ℤ → Run (List ℤ)
    k x = values_in f g.book left w rest_placed.trees >>= (λ xs. give (x ∷ xs))

    value_tame : Tame ((eval_in f g.book left w value_placed.tree >>= k) (state_of w))
    unfolding values value_placed rest_placed
    value_tame = as_tame _ value_is.is

    pub value_runs : Runs f left a w
    value_runs = first_runs f left a w g.book value_placed (frame_of f w) refl k value_tame

    pub value_stop : (e : Stop) (v : Runner) → Evals (Err e) f left a w v → Ends {A = List ℤ} (Err e) (values_in f g.book left w trees (state_of w)) w v
    unfolding values value_placed rest_placed
    value_stop e v x = subst (λ es. Ends {A = List ℤ} (Err e) (values_in f g.book left w es (state_of w)) w v) (sym value_is.is) (first_stop f left a w g.book value_placed (frame_of f w) refl k value_tame e v x)

    pub value_room : length (entries given) < room given
    unfolding shape
    value_room = let l = as_given _ value_is.is in omega (arith, l)

    module _ (x : ℤ) (v : Runner) (ex : Evals (Ok x) f left a w v) (bx : Beside w v) (given2 : Pile ℤ) (held : entries given2 ≡ entries given ++ x ∷ []) (rooms : room given2 ≡ room given) where
      later : Tame (values_in f g.book left w rest_placed.trees (state_of v))
      later = tame-first (values_in f g.book left w rest_placed.trees) (λ xs. give (x ∷ xs)) (state_of v) (first_tame f left a w g.book value_placed (frame_of f w) refl k value_tame x v ex)

      pub value_next : ArgsRun f left b given2 lent v
      unfolding shape rest_placed
      value_next = record {
        book = g.book;
        placed = rest_placed;
        tame = subst (λ E. Tame (values_at f g.book left E rest_placed.trees (state_of v))) (same_frame f w v bx) later;
        given_room = (let l = as_given _ value_is.is in let h = ap length held in omega (arith, l, h, length-append (entries given) (x ∷ []), rooms));
        lent_room = (let l = as_lent _ value_is.is in omega (arith, l));
      }

      abbrev rest_gives : Result (Unit {0}) Stop → Pile ℤ → Pile Part → Runner → Running.Frame → Type 0
      rest_gives r given3 lent3 z E = Gives r (values_at f g.book left E rest_placed.trees (state_of v)) (map (part_at f.parts.now) (lent_of rest_placed.trees)) (entries given2) (entries given3) (entries lent) (entries lent3) v z

      value_after : (r : Result (Unit {0}) Stop) (given3 : Pile ℤ) (lent3 : Pile Part) (z : Runner) → rest_gives r given3 lent3 z (frame_of f w)
          → Gives r ((eval_in f g.book left w value_placed.tree >>= k) (state_of w)) (map (part_at f.parts.now) (lent_of rest_placed.trees)) (entries given) (entries given3) (entries lent) (entries lent3) w z
      value_after (Ok u) given3 lent3 z y =
          let m = more_given (values_in f g.book left w rest_placed.trees) x v z (Ok tt) (map (part_at f.parts.now) (lent_of rest_placed.trees)) [] (entries given) (entries given2) (entries given3) (entries lent) (entries lent) (entries lent3) held (sym (append-nil (entries lent))) y in
          record { values = m.values; joined = m.joined; parts_joined = m.parts_joined; ends = first_then f left a w g.book value_placed (frame_of f w) refl k value_tame x v ex (Ok m.values) z m.ends }
      value_after (Err e) given3 lent3 z y =
          first_then f left a w g.book value_placed (frame_of f w) refl k value_tame x v ex (Err e) z
          (ends-stop (values_in f g.book left w rest_placed.trees) (λ xs. give (x ∷ xs)) e v z y)

      pub value_gives : (r : Result (Unit {0}) Stop) (given3 : Pile ℤ) (lent3 : Pile Part) (z : Runner) → ArgsGive r f left b given2 given3 lent lent3 v z
          → Gives r (values_in f g.book left w trees (state_of w)) (map (part_at f.parts.now) (lent_of trees)) (entries given) (entries given3) (entries lent) (entries lent3) w z
      unfolding values lent_of value_placed rest_placed value_next
      value_gives r given3 lent3 z y =
          as_gives _ value_is.is r (entries given3) (entries lent3) z (value_after r given3 lent3 z (subst (rest_gives r given3 lent3 z) (sym (same_frame f w v bx)) (y value_next)))

  -- a list that is lent gives its length, and the rest
  module _ (l b : ℕ) (n : slice_get T.nodes at ≡ Some (Lent l b)) where
    lent_is : LentStands T g.placed.lo l b at trees
    lent_is = args_as T g.placed.lo at trees _ g.placed.stand n

    pub lent_rest_below : b < at
    lent_rest_below = lent_is.rest_below

    pub lent_room : (length (entries given) < room given) × (length (entries lent) < room lent)
    unfolding shape
    lent_room = let x = as_given _ lent_is.is in let y = as_lent _ lent_is.is in (omega (arith, x), omega (arith, y))

    after_placed : ArgsPlaced f.program.records.now g.book b
    after_placed = let q = lent_is in record { lo = _; trees = q.rest; stand = q.rest_stand; few = as_few _ q.is }

    module _ (given2 : Pile ℤ) (lent2 : Pile Part) (x : ℤ) (part : Part) (xe : x ≡ length_of (part_at f.parts.now l)) (pe : part ≡ part_at f.parts.now l) (held : entries given2 ≡ entries given ++ x ∷ []) (rooms : room given2 ≡ room given) (lent_held : entries lent2 ≡ entries lent ++ part ∷ []) (lent_rooms : room lent2 ≡ room lent) where
      lent_tame : Tame ((values_in f g.book left w after_placed.trees >>= (λ xs. give (length_of (part_at f.parts.now l) ∷ xs))) (state_of w))
      unfolding values after_placed
      lent_tame = as_tame _ lent_is.is

      pub lent_next : ArgsRun f left b given2 lent2 w
      unfolding shape after_placed
      lent_next = record {
        book = g.book;
        placed = after_placed;
        tame = tame-first (values_in f g.book left w after_placed.trees) (λ xs. give (length_of (part_at f.parts.now l) ∷ xs)) (state_of w) lent_tame;
        given_room = (let y = as_given _ lent_is.is in let h = ap length held in omega (arith, y, h, length-append (entries given) (x ∷ []), rooms));
        lent_room = (let y = as_lent _ lent_is.is in let h = ap length lent_held in omega (arith, y, h, length-append (entries lent) (part ∷ []), lent_rooms));
      }

      pub lent_gives : (r : Result (Unit {0}) Stop) (given3 : Pile ℤ) (lent3 : Pile Part) (z : Runner) → ArgsGive r f left b given2 given3 lent2 lent3 w z
          → Gives r (values_in f g.book left w trees (state_of w)) (map (part_at f.parts.now) (lent_of trees)) (entries given) (entries given3) (entries lent) (entries lent3) w z
      unfolding values lent_of after_placed lent_next
      lent_gives r given3 lent3 z y =
          as_gives _ lent_is.is r (entries given3) (entries lent3) z
          (more_given (values_in f g.book left w after_placed.trees) (length_of (part_at f.parts.now l)) w z r (map (part_at f.parts.now) (lent_of after_placed.trees)) (part_at f.parts.now l ∷ []) (entries given) (entries given2) (entries given3) (entries lent) (entries lent2) (entries lent3) (held ∙ ap (λ x. entries given ++ x ∷ []) xe) (lent_held ∙ ap (λ p. entries lent ++ p ∷ []) pe) (y lent_next))
