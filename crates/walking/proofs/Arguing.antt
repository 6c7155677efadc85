-- Arguments of a call, the first before the rest: what is given of all of them, by what is given of the parts.
use Rattle.std.proofs.Common.{◌≡◌, ℕ, suc, ◌+◌, ◌≤◌, Bool, true, false, cond, ltb, List, [], ◌∷◌, ◌++◌, length, Some, Ok, Err, Result, sym, refl, ap, ◌∙◌, subst, ap₂, inl, inr, arith}
use Rattle.std.proofs.lemmas.Bool.{lt-ltb}
use Rattle.std.proofs.lemmas.List.{append-nil, append_assoc, length-append}
use Rattle.std.specs.List.{slice_get}
use Rattle.language.specs.declared.refusal.Refusal.{Refusal}
use Rattle.language.specs.declared.term.Term.{Term}
use Rattle.language.specs.Terms.{term_at}
use Rattle.language.specs.Tree as Tree
use Rattle.language.specs.Tree.{Args, Rule, shape}
use Rattle.language.specs.Walking.{Got, Gots, infer, walk, walks, first_fault, obligations_of}
use Rattle.language.proofs.Laws.{fault-first, fault-next}
use Rattle.pile.specs.Entries.{entries, room}
use Rattle.pile.specs.declared.Pile.{Pile}
use Rattle.records.specs.declared.node.Node.TheVariants.{End, Value, Lent}
use Rattle.records.specs.Columns.{tables_by}
use Rattle.records.specs.Laying.{columns_of}
use Rattle.records.specs.Standing.{ArgsStand, end, value, lent}
use Rattle.records.specs.Inverting.{EndStands, ValueStands, LentStands}
use Rattle.records.proofs.Standing.{args-low-end}
use Rattle.walking.specs.declared.walker.Walker.{Walker}
use Rattle.walking.specs.Inferring.{Inferring, Giving, Given}
use Rattle.walking.specs.Stepping.{Sure, scope_of, stand_of}
use Rattle.walking.proofs.Stepping.{kept-none, step-quiet, step-then, step-wider, stays, args-stay, node-stays}

-- a term that found room was put on top
pub pushed : (b : Bool) (after before : List Term) (t : Term) → b ≡ true → after ≡ cond b (before ++ t ∷ []) before → after ≡ before ++ t ∷ []
pushed b after before t y e = e ∙ ap (λ b. cond b (before ++ t ∷ []) before) y

-- there was room
pub not-full : (b : Bool) (n m k : ℕ) → b ≡ false → b ≡ ltb n m → n + suc k ≤ m → ⊥
not-full b n m k f e h = let l = lt-ltb n m (omega (arith, h)) in cc

-- and there is room for the others
pub room_left : (before middle : Pile Term) (t : Term) (k : ℕ) → entries middle ≡ entries before ++ t ∷ [] → room middle ≡ room before → length (entries before) + suc k ≤ room before → length (entries middle) + k ≤ room middle
room_left before middle t k e r h = omega (arith, ap length e, length-append (entries before) (t ∷ []), r, h)

module _ (R : List Rule) (lo at b : ℕ) (w : Walker) (es : Args) where
  abbrev pub all_given : Gots
  all_given = walks R (scope_of w) (stand_of w) es

  -- no arguments
  module _ (s : EndStands lo at es) where
    pub none_given : (before : Pile Term) → Sure w → slice_get (columns_of w.debts.now.tables.now).nodes.entries at ≡ Some End → Giving all_given lo at before before w w
    unfolding walk first_fault obligations_of
    none_given before k node = subst (λ (es : Args). Giving (walks R (scope_of w) (stand_of w) es) lo at before before w w) (sym s.is) (record {
      terms = sym (append-nil (entries before));
      step = step-quiet lo at [] (stand_of w) w w refl (kept-none w k) refl refl refl;
      tree = end node s.low;
    })

  -- the value of an expression, and the rest
  module _ (a : ℕ) (node : slice_get (columns_of w.debts.now.tables.now).nodes.entries at ≡ Some (Value a b)) (s : ValueStands (tables_by (columns_of w.debts.now.tables.now)) lo a b at es) where
    abbrev pub found : Got
    found = walk R infer (scope_of w) (stand_of w) s.argument

    abbrev rest_given : Gots
    rest_given = walks R (scope_of w) found.stand s.rest

    pub value-refused : (r : Refusal) → first_fault found.notes ≡ Some r → first_fault all_given.notes ≡ Some r
    unfolding walk
    value-refused r e = ap (λ es. first_fault (walks R (scope_of w) (stand_of w) es).notes) s.is ∙ fault-first found.notes rest_given.notes r e

    pub value-room : (n m : ℕ) → n + length (shape es) ≤ m → n + suc (length (shape s.rest)) ≤ m
    unfolding shape
    value-room n m h = subst (λ (es : Args). n + length (shape es) ≤ m) s.is h

    module _ (v : Walker) (t : Term) (g : Inferring t found (suc b) a w v) where
      pub value-rest : ArgsStand (tables_by (columns_of v.debts.now.tables.now)) lo b s.rest
      value-rest = args-stay (suc b) a found.notes found.stand w v g.step lo b s.rest (inl (omega arith)) s.rest_stand

      same : walks R (scope_of v) (stand_of v) s.rest ≡ rest_given
      same = ap₂ (λ Γ q. walks R Γ q s.rest) g.step.kept.scope g.step.stand

      module _ (before middle after : Pile Term) (u : Walker) (put : entries middle ≡ entries before ++ t ∷ []) where
        both : Giving rest_given lo b middle after v u → Giving (walks R (scope_of w) (stand_of w) (Tree.value s.argument s.rest)) lo at before after w u
        unfolding walk
        both h =
            let low = args-low-end _ lo b s.rest s.rest_stand in
            let al = s.argument_below in
            let bl = s.rest_below in record {
              terms = h.terms ∙ ap (λ ts. ts ++ rest_given.terms) put ∙ append_assoc (entries before) (t ∷ []) rest_given.terms ∙ ap (λ x. entries before ++ x ∷ rest_given.terms) g.term;
              step = step-then lo at found.notes rest_given.notes found.stand rest_given.stand w v u
                  (step-wider lo at (suc b) a found.notes found.stand w v (omega (arith, low)) (omega (arith, al)) g.step)
                  (step-wider lo at lo b rest_given.notes rest_given.stand v u (omega arith) (omega (arith, bl)) h.step);
              tree = value (node-stays lo b rest_given.notes rest_given.stand v u h.step at _ (inr bl) (node-stays (suc b) a found.notes found.stand w v g.step at _ (inr al) node)) al bl h.tree
                  (stays lo b rest_given.notes rest_given.stand v u h.step (suc b) a found.tree (inr (omega arith)) g.tree);
            }

        pub value-given : (r : Result (Unit {0}) Refusal) → Given r (walks R (scope_of v) (stand_of v) s.rest) lo b middle after v u → Given r all_given lo at before after w u
        unfolding walk
        value-given r h =
            subst (λ (es : Args). Given r (walks R (scope_of w) (stand_of w) es) lo at before after w u) (sym s.is)
            (go r (subst (λ (x : Gots). Given r x lo b middle after v u) same h))
          where
            go : (r : Result (Unit {0}) Refusal) → Given r rest_given lo b middle after v u → Given r (walks R (scope_of w) (stand_of w) (Tree.value s.argument s.rest)) lo at before after w u
            go (Ok x) h = both h
            go (Err q) h = fault-next found.notes rest_given.notes g.step.faultless ∙ h

  -- a list that is lent, and the rest
  module _ (l : ℕ) (node : slice_get (columns_of w.debts.now.tables.now).nodes.entries at ≡ Some (Lent l b)) (s : LentStands (tables_by (columns_of w.debts.now.tables.now)) lo l b at es) where
    abbrev others_given : Gots
    others_given = walks R (scope_of w) (stand_of w) s.rest

    pub lent-room : (n m : ℕ) → n + length (shape es) ≤ m → n + suc (length (shape s.rest)) ≤ m
    unfolding shape
    lent-room n m h = subst (λ (es : Args). n + length (shape es) ≤ m) s.is h

    module _ (before middle after : Pile Term) (u : Walker) (put : entries middle ≡ entries before ++ term_at w.lengths.now l ∷ []) where
      pub lent-given : (r : Result (Unit {0}) Refusal) → Given r others_given lo b middle after w u → Given r all_given lo at before after w u
      unfolding walk
      lent-given r h = subst (λ (es : Args). Given r (walks R (scope_of w) (stand_of w) es) lo at before after w u) (sym s.is) (go r h)
        where
          go : (r : Result (Unit {0}) Refusal) → Given r others_given lo b middle after w u → Given r (walks R (scope_of w) (stand_of w) (Tree.lent l s.rest)) lo at before after w u
          go (Ok x) h = let bl = s.rest_below in record {
            terms = h.terms ∙ ap (λ ts. ts ++ others_given.terms) put ∙ append_assoc (entries before) (term_at w.lengths.now l ∷ []) others_given.terms;
            step = step-wider lo at lo b others_given.notes others_given.stand w u (omega arith) (omega (arith, bl)) h.step;
            tree = lent (node-stays lo b others_given.notes others_given.stand w u h.step at _ (inr bl) node) bl h.tree;
          }
          go (Err q) h = h
