-- The induction: a book's run and its full run come to the same, and each value is what the walk's term is worth.
use Rattle.std.proofs.Common.{◌≡◌, ℕ, zero, suc, ◌+◌, ◌<◌, ◌≤◌, true, not, T, ltb, leb, List, [], ◌∷◌, ◌++◌, map, length, get_or, ℤ, pos, Some, None, Option, sym, refl, ap, ◌∙◌, subst, ap₂, subst₂, le_trans, le_refl, arith, leb→le}
use lib.Signed.{le_z, lt_z}
use Rattle.std.specs.List.{range_with_len, AllByRecursion}
use Rattle.std.proofs.lemmas.List.{map_push}
use Rattle.rows.specs.declared.row.Row.{Row}
use Rattle.rows.specs.Meaning.{Assignment, Within, MeetsAll}
use Rattle.language.specs.declared.part.Part.{Part}
use Rattle.language.specs.declared.term.Term.{Term}
use Rattle.language.specs.declared.ending.Ending.TheVariants.{Deep}
use Rattle.language.specs.declared.refusal.Refusal.TheVariants.{Name}
use Rattle.language.specs.Vocabulary.{reckoned, holds}
use Rattle.language.specs.Tree.{Condition, Site, Expr, num, name, calc, read, call, bind, test, put, claim, Args, end, value, lent, no_expr, Param, a_number, a_list, Rule, rule_at, at_lists, shape, lent_of}
use Rattle.language.specs.Terms.{zero_term, quantity, worth, term_at, worked, constant, limited}
use Rattle.language.specs.Comparing.{at_most, satisfied, rows, otherwise, conditions_rows}
use Rattle.language.specs.Walking.{Note, Stand, Scope, Found, limit, owe_all, assume, owe_checks, numbered, counted, knowing, binding, fresh, fresh_with, or_fresh, Mode, infer, check, finish, join, same_params, callable, walk, walks, start_names, start_scope, start_known, start_stand, walk_body}
use Rattle.language.specs.Running.{Event, came, called, returned, Run, ◌>>=◌, in_range, Dropped, touch, Frame, part_at, length_of, holding, Program, Eval, enter, values, node, run}
use Rattle.language.proofs.Worths.{worth-constant, worth-quantity, worked-worth, worths-at, worths-move, Agree, agree_less, agree_trans, Stable, StableAll, stable-more, stables-more, limited-is}
use Rattle.language.proofs.Comparisons.{Firm, rows-from, otherwise-from, rows-firm, otherwise-firm}
use Rattle.language.proofs.Walks.{facts-move, assume-meets, assume-firm, assume_all-meets, Ok, found, OkScope, scope-more, scope-binding, walk-ok, walks-ok, start-scope, start-firm}
use Rattle.language.proofs.Same.{Same, full, same-give, same-halt, same-emit, same_load, same_store, same-spend, same-bind, same_cond, same-fit, same-touch, same_post}
use Rattle.language.proofs.Duties.{all_left, all_right, Fine, limit-met, fresh-notes, fresh-room, with-fresh, or-fresh-notes, join-notes, conditions-hold, Passing, checks-pass}
use Rattle.language.proofs.Assigning.{assign, assign-same, assign-agree, assign-within, valued, valued-within, names-worth, map-at_lists, lengths-made}
use Rattle.language.proofs.Tests.{both_left, both_right}

same_params-law : (ps qs : List Param) → T (same_params ps qs) → ps ≡ qs
unfolding same_params
same_params-law [] [] h = refl
same_params-law [] (q ∷ qs) h = absurd h
same_params-law (p ∷ ps) [] h = absurd h
same_params-law (a_number ∷ ps) (a_number ∷ qs) h = ap (λ rs. a_number ∷ rs) (same_params-law ps qs h)
same_params-law (a_number ∷ ps) (a_list ∷ qs) h = absurd h
same_params-law (a_list ∷ ps) (a_number ∷ qs) h = absurd h
same_params-law (a_list ∷ ps) (a_list ∷ qs) h = ap (λ rs. a_list ∷ rs) (same_params-law ps qs h)

-- an event of a full run is good: a check is made, and passes if it is settled, a call meets its needs, a returned value meets its gives
abbrev pub Good : List Rule → Dropped → Event → Type 0
Good R S (came n made passes) = (made ≡ true) × (T (S n) → T passes)
Good R S (called f xs) = AllByRecursion (λ c. T (satisfied xs (pos 0) c)) (rule_at R f).needs
Good R S (returned f xs v) = AllByRecursion (λ c. T (satisfied xs v c)) (rule_at R f).gives

module _ (R : List Rule) (P : Program) (S : Dropped) (N : ℕ) where
  abbrev InRange : ℤ → Type 0
  InRange v = T (in_range P.low P.high v)

  -- a part lies in the cells, and its length in the range
  pub record PartOk (p : Part) : Type 0 where
    pub inside : p.start + p.length ≤ N
    pub fits : InRange (length_of p)

  -- where the walk and the run stand
  pub record Here (q : Assignment) (Γ : Scope) (n : ℕ) (F : List Row) (E : Frame) : Type 0 where
    pub scope : OkScope n Γ
    pub firm : AllByRecursion (Firm n) F
    pub range : Within P.low P.high q
    pub facts : MeetsAll q F
    pub names : map (worth q) Γ.names ≡ E.values
    pub lengths : map (worth q) Γ.lengths ≡ map length_of E.parts
    pub parts : (j : ℕ) → PartOk (part_at E.parts j)

  -- what a value is, in the walk's terms, where the assignment q may grow from n on
  pub record Met (q : Assignment) (n : ℕ) (F : List Row) (t : Term) (v : ℤ) : Type 0 where
    pub asg : Assignment
    pub agree : Agree n q asg
    pub range : Within P.low P.high asg
    pub facts : MeetsAll asg F
    pub is : worth asg t ≡ v
    pub fits : InRange v

  -- what a mode asks of a value; L are the values of its names
  abbrev pub Post : Mode → List ℤ → Assignment → ℕ → List Row → Term → ℤ → Type 0
  Post infer L q n F t v = Met q n F t v
  Post (check ts cs) L q n F t v = InRange v × AllByRecursion (λ c. T (satisfied L v c)) cs

  abbrev pub ModeAt : Mode → ℕ → Assignment → List ℤ → Type 0
  ModeAt infer n q L = Unit {0}
  ModeAt (check ts cs) n q L = StableAll n ts × (map (worth q) ts ≡ L)

  mode-on : (μ : Mode) (n m : ℕ) (q p : Assignment) (L : List ℤ) → Agree n q p → n ≤ m → ModeAt μ n q L → ModeAt μ m p L
  mode-on infer n m q p L a u h = tt
  mode-on (check ts cs) n m q p L a u h = (stables-more n m ts u h.0, sym (worths-move n q p a ts h.0) ∙ h.1)

  here_on : {q : Assignment} {Γ : Scope} {n : ℕ} {F : List Row} {E : Frame} → Here q Γ n F E
      → (p : Assignment) (m : ℕ) (G : List Row) → Agree n q p → n ≤ m → Within P.low P.high p → AllByRecursion (Firm m) G → MeetsAll p G → Here p Γ m G E
  here_on {q} {Γ} {n} h p m G a u r s f = record {
    scope = scope-more n m Γ u h.scope;
    firm = s;
    range = r;
    facts = f;
    names = sym (worths-move n q p a Γ.names h.scope.names) ∙ h.names;
    lengths = sym (worths-move n q p a Γ.lengths h.scope.lengths) ∙ h.lengths;
    parts = h.parts;
  }

  here-binding : {q : Assignment} {Γ : Scope} {n : ℕ} {F : List Row} {E : Frame} → Here q Γ n F E → (t : Term) (v : ℤ) → Stable n t → worth q t ≡ v → Here q (binding Γ t) n F (holding E v)
  here-binding {q} {Γ} {n} h t v st e = record {
    scope = scope-binding n Γ t st h.scope;
    firm = h.firm;
    range = h.range;
    facts = h.facts;
    names = map_push (worth q) Γ.names t ∙ ap₂ (λ (xs : List ℤ) (x : ℤ). xs ++ x ∷ []) h.names e;
    lengths = h.lengths;
    parts = h.parts;
  }

  here-length : {q : Assignment} {Γ : Scope} {n : ℕ} {F : List Row} {E : Frame} → Here q Γ n F E → (j : ℕ) → worth q (term_at Γ.lengths j) ≡ length_of (part_at E.parts j)
  here-length {q} {Γ} {E = E} h j = sym (worths-at q Γ.lengths j) ∙ ap (λ (l : List ℤ). get_or l j (pos 0)) h.lengths ∙ go E.parts j
    where
      go : (ps : List Part) (j : ℕ) → get_or (map length_of ps) j (pos 0) ≡ length_of (part_at ps j)
      go [] j = refl
      go (p ∷ ps) zero = refl
      go (p ∷ ps) (suc j) = go ps j

  -- a term's value at the assignment at hand
  here-met : {q : Assignment} {Γ : Scope} {n : ℕ} {F : List Row} {E : Frame} → Here q Γ n F E → (t : Term) (v : ℤ) → worth q t ≡ v → InRange v → Met q n F t v
  here-met {q} h t v e f = record { asg = q; agree = λ i k. refl; range = h.range; facts = h.facts; is = e; fits = f }

  -- a value for the next quantity
  fresh-met : {q : Assignment} {Γ : Scope} {n : ℕ} {F : List Row} {E : Frame} → Here q Γ n F E → n < 16 → (v : ℤ) → InRange v → Met q n F (quantity n) v
  fresh-met {q} {n = n} {F = F} h l v f = record {
    asg = assign q n v;
    agree = assign-agree q n v;
    range = assign-within P.low P.high q n v h.range f;
    facts = facts-move n q (assign q n v) (assign-agree q n v) F h.firm h.facts;
    is = worth-quantity (assign q n v) n l ∙ assign-same q n v;
    fits = f;
  }

  -- a value for the next quantity, of which conditions are facts
  with-met : {q : Assignment} {Γ : Scope} {E : Frame} (place : ℕ) (ts : List Term) (cs : List Condition) (s : Stand) (notes : List Note) → Here q Γ s.next s.facts E → s.next < 16
      → (v : ℤ) → InRange v → (xs : List ℤ) → StableAll s.next ts → map (worth q) ts ≡ xs → AllByRecursion (λ c. T (satisfied xs v c)) cs
      → Met q s.next (fresh_with place ts cs s notes).stand.facts (fresh_with place ts cs s notes).term v
  unfolding fresh_with fresh
  with-met {q} place ts cs s notes h l v f xs st ex k =
      let m = fresh-met h l v f in
      record {
        asg = m.asg;
        agree = m.agree;
        range = m.range;
        facts = assume_all-meets m.asg (λ c. place) ts (quantity s.next) xs v (sym (worths-move s.next q m.asg m.agree ts st) ∙ ex) m.is s.facts cs m.facts k;
        is = m.is;
        fits = f;
      }

  met-from : {q p : Assignment} {n m : ℕ} {F : List Row} {t : Term} {v : ℤ} → Agree n q p → n ≤ m → Met p m F t v → Met q n F t v
  met-from a u k = record { asg = k.asg; agree = agree_trans a (agree_less u k.agree); range = k.range; facts = k.facts; is = k.is; fits = k.fits }

  post-from : (μ : Mode) (L : List ℤ) (q p : Assignment) (n m : ℕ) (F : List Row) (t : Term) (v : ℤ) → Agree n q p → n ≤ m → Post μ L p m F t v → Post μ L q n F t v
  post-from infer L q p n m F t v a u k = met-from a u k
  post-from (check ts cs) L q p n m F t v a u k = k

  -- after an expression, and after two
  after : {q : Assignment} {Γ : Scope} {n k : ℕ} {F : List Row} {E : Frame} {v : ℤ} (g : Found) → Here q Γ n F E → Ok n k g → (p : Met q n g.stand.facts g.term v) → Here p.asg Γ g.stand.next g.stand.facts E
  after g h o p = here_on h p.asg g.stand.next g.stand.facts p.agree o.stand.up p.range o.stand.facts p.facts

  record Two (q : Assignment) (n : ℕ) (Γ : Scope) (E : Frame) (g h : Found) (x y : ℤ) : Type 0 where
    asg : Assignment
    agree : Agree n q asg
    up : n ≤ h.stand.next
    here : Here asg Γ h.stand.next h.stand.facts E
    one : Stable h.stand.next g.term
    other : Stable h.stand.next h.term
    first : worth asg g.term ≡ x
    second : worth asg h.term ≡ y
    fits : InRange y

  both : {q : Assignment} {Γ : Scope} {n k l : ℕ} {E : Frame} {x y : ℤ} (g h : Found) → Ok n k g → Ok g.stand.next l h → (p : Met q n g.stand.facts g.term x)
      → Here p.asg Γ g.stand.next g.stand.facts E → Met p.asg g.stand.next h.stand.facts h.term y → Two q n Γ E g h x y
  both g h gk hk p e r = record {
    asg = r.asg;
    agree = agree_trans p.agree (agree_less gk.stand.up r.agree);
    up = le_trans gk.stand.up hk.stand.up;
    here = after h e hk r;
    one = stable-more g.stand.next h.stand.next g.term hk.stand.up gk.term;
    other = hk.term;
    first = sym (gk.term p.asg r.asg r.agree) ∙ p.is;
    second = r.is;
    fits = r.fits;
  }

  -- a term that was worked out, or else the next quantity
  or-met : {q : Assignment} {Γ : Scope} {E : Frame} (place : ℕ) (t : Option Term) (v : ℤ) (s : Stand) (notes : List Note) → Here q Γ s.next s.facts E
      → ((u : Term) → t ≡ Some u → worth q u ≡ v) → AllByRecursion (Fine P.low P.high S) (or_fresh place t s notes).notes → InRange v
      → Met q s.next (or_fresh place t s notes).stand.facts (or_fresh place t s notes).term v
  unfolding or_fresh fresh
  or-met place None v s notes h e f i = fresh-met h (fresh-room P.low P.high S place s notes f) v i
  or-met place (Some u) v s notes h e f i = here-met h u v (e u refl) i

  -- what is checked besides keeps its conditions
  finished : (μ : Mode) (L : List ℤ) (place : ℕ) (f : Found) (q : Assignment) (n : ℕ) (m m' : Run ℤ) → ModeAt μ n q L
      → AllByRecursion (Fine P.low P.high S) (finish μ place f).notes
      → (AllByRecursion (Fine P.low P.high S) f.notes → Same S N (Good R S) (Met q n f.stand.facts f.term) m m')
      → Same S N (Good R S) (Post μ L q n (finish μ place f).stand.facts (finish μ place f).term) m m'
  unfolding finish
  finished infer L place f q n m m' md o k = k o
  finished (check ts cs) L place f q n m m' md o k =
      same_post S N (Good R S) _ _ m m'
      (λ v p. (
        p.fits,
        conditions-hold P.low P.high S p.asg p.range place f.stand.facts p.facts f.stand.count ts f.term L v
            (sym (worths-move n q p.asg p.agree ts md.0) ∙ md.1) p.is cs (all_right _ f.notes _ o),
      ))
      (k (all_left _ f.notes _ o))

  -- after an if
  joined : (μ : Mode) (L : List ℤ) (place : ℕ) (s : Stand) (notes : List Note) {q : Assignment} {Γ : Scope} {E : Frame} (F : List Row) (t : Term) (v : ℤ) → Here q Γ s.next s.facts E
      → AllByRecursion (Fine P.low P.high S) (join μ place s notes).notes → Post μ L q s.next F t v → Post μ L q s.next (join μ place s notes).stand.facts (join μ place s notes).term v
  unfolding join fresh
  joined infer L place s notes F t v h o p = fresh-met h (fresh-room P.low P.high S place s notes o) v p.fits
  joined (check ts cs) L place s notes F t v h o p = p

  pub record Mets (q : Assignment) (n : ℕ) (F : List Row) (ts : List Term) (ps : List Param) (parts : List Part) (xs : List ℤ) : Type 0 where
    pub asg : Assignment
    pub agree : Agree n q asg
    pub range : Within P.low P.high asg
    pub facts : MeetsAll asg F
    pub are : map (worth asg) ts ≡ xs
    pub fits : AllByRecursion InRange xs
    pub count : length xs ≡ length ps
    pub lengths : at_lists ps xs ≡ map length_of parts

  -- what a rule is entered with
  pub record Inputs (f : ℕ) (xs : List ℤ) (ps : List Part) : Type 0 where
    pub exists : T (ltb f (length R))
    pub count : length xs ≡ length (rule_at R f).params
    pub lengths : at_lists (rule_at R f).params xs ≡ map length_of ps
    pub fits : AllByRecursion InRange xs
    pub parts : (j : ℕ) → PartOk (part_at ps j)
    pub needs : AllByRecursion (λ c. T (satisfied xs (pos 0) c)) (rule_at R f).needs

  -- what a rule gives
  abbrev pub Gives : ℕ → List ℤ → ℤ → Type 0
  Gives f xs v = InRange v × AllByRecursion (λ c. T (satisfied xs v c)) (rule_at R f).gives

  -- the body of a rule is what the walk made of it, and it owes nothing that is not fine
  pub record BodyOk (f : ℕ) : Type 0 where
    pub count : ℕ
    pub body : get_or P.bodies f no_expr ≡ (walk_body R count (rule_at R f)).tree
    pub start : AllByRecursion (Fine P.low P.high S) (start_known (rule_at R f)).notes
    pub notes : AllByRecursion (Fine P.low P.high S) (walk_body R count (rule_at R f)).notes

  -- two ways to run expressions come to the same, for every expression that the walk takes
  pub record Evals (ev ev' : Eval) : Type 0 where
    pub at : (e : Expr) (μ : Mode) (L : List ℤ) (Γ : Scope) (s : Stand) (E : Frame) (q : Assignment) → ModeAt μ s.next q L → Here q Γ s.next s.facts E
        → AllByRecursion (Fine P.low P.high S) (walk R μ Γ s e).notes
        → Same S N (Good R S) (Post μ L q s.next (walk R μ Γ s e).stand.facts (walk R μ Γ s e).term) (ev E (walk R μ Γ s e).tree) (ev' E (walk R μ Γ s e).tree)

  module _ (zero_fits : InRange (pos 0)) (bodies : (f : ℕ) → T (ltb f (length R)) → BodyOk f) (ev ev' : Eval) (ih : Evals ev ev') where
    then : {A B : Type 0} {Q : A → Type 0} {Z : B → Type 0} {m n : Run A} {k l : A → Run B}
        → Same S N (Good R S) Q m n → ((a : A) → Q a → Same S N (Good R S) Z (k a) (l a)) → Same S N (Good R S) Z (m >>= k) (n >>= l)
    then h f = same-bind S N (Good R S) _ _ _ _ _ _ h f

    walked : {q : Assignment} {Γ : Scope} {E : Frame} (s : Stand) (μ : Mode) (e : Expr) → Here q Γ s.next s.facts E → Ok s.next s.count (found (walk R μ Γ s e))
    walked {Γ = Γ} s μ e h = walk-ok R μ Γ s e h.scope h.firm

    -- where a rule's body begins
    here-start : (f : ℕ) (xs : List ℤ) (ps : List Part) → Inputs f xs ps → AllByRecursion (Fine P.low P.high S) (start_known (rule_at R f)).notes
        → Here (valued xs) (start_scope (rule_at R f)) (length (rule_at R f).params) (start_known (rule_at R f)).facts (record { values = xs; parts = ps })
    unfolding start_known
    here-start f xs ps i o =
        let r = rule_at R f in
        let k = length r.params in
        let q = valued xs in
        let ns = start_names r in
        let ls = (start_scope r).lengths in
        let room = leb→le k 16 (limit-met P.low P.high S (leb k 16) _ (all_left _ (limit (leb k 16) _) _ o)) in
        let names : map (worth q) ns ≡ xs = subst (λ (j : ℕ). map (worth q) (map quantity (range_with_len 0 j)) ≡ xs) i.count (names-worth xs (omega (arith, i.count, room))) in
        let lengths : map (worth q) ls ≡ map length_of ps = map-at_lists (worth q) r.params ns ∙ ap (at_lists r.params) names ∙ i.lengths in
        record {
          scope = start-scope r;
          firm = start-firm r;
          range = valued-within P.low P.high zero_fits xs i.fits;
          facts = assume_all-meets q (λ c. c.place) ns zero_term xs (pos 0) names (worth-constant q (pos 0)) _ r.needs (assume-meets q r.place [] (map (at_most (pos 0) zero_term) ls) tt (lengths-made q ls ps lengths)) i.needs;
          names = names;
          lengths = lengths;
          parts = i.parts;
        }

    -- a rule that is entered gives what it gives
    pub enter-sound : (f : ℕ) (xs : List ℤ) (ps : List Part) → Inputs f xs ps → Same S N (Good R S) (Gives f xs) (enter P ev f xs ps) (enter P ev' f xs ps)
    enter-sound f xs ps i =
        let r = rule_at R f in
        let b = bodies f i.exists in
        let h = here-start f xs ps i b.start in
        then (same-emit S N (Good R S) (called f xs) (called f xs) refl i.needs) (λ _ _.
        then (subst (λ (e : Expr). Same S N (Good R S) (Gives f xs) (ev (record { values = xs; parts = ps }) e) (ev' (record { values = xs; parts = ps }) e)) (sym b.body)
        (ih.at r.body (check (start_names r) r.gives) xs (start_scope r) (start_stand r b.count) (record { values = xs; parts = ps }) (valued xs) (h.scope.names, h.names) h b.notes))
        (λ v p. then (same-emit S N (Good R S) (returned f xs v) (returned f xs v) refl p.1) (λ _ _. same-give S N (Good R S) _ v p)))

    values-sound : (es : Args) {Γ : Scope} {E : Frame} {q : Assignment} (s : Stand) → Here q Γ s.next s.facts E → AllByRecursion (Fine P.low P.high S) (walks R Γ s es).notes
        → Same S N (Good R S) (Mets q s.next (walks R Γ s es).stand.facts (walks R Γ s es).terms (shape es) (map (part_at E.parts) (lent_of (walks R Γ s es).tree))) (values ev E (walks R Γ s es).tree) (values ev' E (walks R Γ s es).tree)
    unfolding walks values shape lent_of at_lists
    values-sound end {q = q} s h o = same-give S N (Good R S) _ [] (record { asg = q; agree = λ i k. refl; range = h.range; facts = h.facts; are = refl; fits = tt; count = refl; lengths = refl })
    values-sound (value e es) {Γ} {E} s h o =
        let g = walk R infer Γ s e in
        let gk = walked s infer e h in
        then (ih.at e infer [] Γ s E _ tt h (all_left _ g.notes _ o)) (λ x p.
        then (values-sound es g.stand (after (found g) h gk p) (all_right _ g.notes _ o)) (λ xs r.
        same-give S N (Good R S) _ (x ∷ xs) (record {
          asg = r.asg;
          agree = agree_trans p.agree (agree_less gk.stand.up r.agree);
          range = r.range;
          facts = r.facts;
          are = ap₂ ◌∷◌ (sym (gk.term p.asg r.asg r.agree) ∙ p.is) r.are;
          fits = (p.fits, r.fits);
          count = ap suc r.count;
          lengths = r.lengths;
        })))
    values-sound (lent l es) {Γ} {E} {q} s h o =
        then (values-sound es s h o) (λ xs r.
        same-give S N (Good R S) _ (length_of (part_at E.parts l) ∷ xs) (record {
          asg = r.asg;
          agree = r.agree;
          range = r.range;
          facts = r.facts;
          are = ap₂ ◌∷◌ (sym (h.scope.lengths l q r.asg r.agree) ∙ here-length h l) r.are;
          fits = ((h.parts l).fits, r.fits);
          count = ap suc r.count;
          lengths = ap (λ (ys : List ℤ). length_of (part_at E.parts l) ∷ ys) r.lengths;
        }))

    part-at : (E : List Part) → ((j : ℕ) → PartOk (part_at E j)) → (ls : List ℕ) (j : ℕ) → PartOk (part_at (map (part_at E) ls) j)
    part-at E h [] j = record { inside = omega arith; fits = zero_fits }
    part-at E h (l ∷ ls) zero = h l
    part-at E h (l ∷ ls) (suc j) = part-at E h ls j

    -- the two checks of an index, and the cell
    touched : {q : Assignment} {Γ : Scope} {n : ℕ} {F : List Row} {E : Frame} (site : Site) (k : ℕ) (t : Term) (x : ℤ) → (h : Here q Γ n F E) → worth q t ≡ x
        → Passing P.low P.high S q h.range k t (term_at Γ.lengths site.list)
        → Same S N (Good R S) (λ a. Unit {0}) (touch S (numbered site k) (part_at E.parts site.list) x) (touch full (numbered site k) (part_at E.parts site.list) x)
    touched {E = E} site k t x h e p =
        let below = λ (z : T (S k)). subst (λ (y : ℤ). T (le_z (pos 0) y)) e (p.below z) in
        let above = λ (z : T (S (suc k))). subst₂ (λ (y : ℤ) (l : ℤ). T (lt_z y l)) e (here-length h site.list) (p.above z) in
        same-touch S N (Good R S) (numbered site k) (part_at E.parts site.list) x (h.parts site.list).inside (refl, below) below (refl, above) above

    here-facts : {q : Assignment} {Γ : Scope} {n : ℕ} {F : List Row} {E : Frame} → Here q Γ n F E → (G : List Row) → AllByRecursion (Firm n) G → MeetsAll q G → Here q Γ n G E
    here-facts {q} {n = n} h G s f = here_on h q n G (λ i k. refl) (le_refl n) h.range s f

    node-sound : (e : Expr) (μ : Mode) (L : List ℤ) {Γ : Scope} (s : Stand) {E : Frame} {q : Assignment} → ModeAt μ s.next q L → Here q Γ s.next s.facts E
        → AllByRecursion (Fine P.low P.high S) (walk R μ Γ s e).notes
        → Same S N (Good R S) (Post μ L q s.next (walk R μ Γ s e).stand.facts (walk R μ Γ s e).term) (node P S ev E (walk R μ Γ s e).tree) (node P full ev' E (walk R μ Γ s e).tree)
    unfolding walk node fresh
    node-sound (num p n) μ L s {q = q} md h o =
        finished μ L p _ q s.next _ _ md o (λ o. same-fit S N (Good R S) P p _ _ (λ t. or-met p (limited (constant (pos n))) (pos n) s [] h (λ u e. ap (worth q) (sym (limited-is (constant (pos n)) u e)) ∙ worth-constant q (pos n)) o t))
    node-sound (name p i) μ L {Γ} s {q = q} md h o =
        finished μ L p _ q s.next _ _ md o (λ _. same-fit S N (Good R S) P p _ _ (λ t. here-met h (term_at Γ.names i) _ (sym (worths-at q Γ.names i) ∙ ap (λ (l : List ℤ). get_or l i (pos 0)) h.names) t))
    node-sound (calc p c a b) μ L {Γ} s {E} {q} md h o =
        let g = walk R infer Γ s a in
        let k = walk R infer Γ g.stand b in
        let gk = walked s infer a h in
        finished μ L p _ q s.next _ _ md o (λ o.
        let o₂ = or-fresh-notes P.low P.high S p (worked c g.term k.term) k.stand (g.notes ++ k.notes) o in
        then (ih.at a infer [] Γ s E q tt h (all_left _ g.notes _ o₂)) (λ x r.
        let h₁ = after (found g) h gk r in
        then (ih.at b infer [] Γ g.stand E _ tt h₁ (all_right _ g.notes _ o₂)) (λ y t.
        let w = both (found g) (found k) gk (walked g.stand infer b h₁) r h₁ t in
        same-fit S N (Good R S) P p _ _ (λ z. met-from w.agree w.up (or-met p (worked c g.term k.term) (reckoned c x y) k.stand (g.notes ++ k.notes) w.here (λ u e. worked-worth w.asg c g.term k.term u e ∙ ap₂ (reckoned c) w.first w.second) o z)))))
    node-sound (read site e) μ L {Γ} s {E} {q} md h o =
        let g = walk R infer Γ s e in
        let gk = walked s infer e h in
        let u = term_at Γ.lengths site.list in
        let w = owe_checks site site.place g.stand g.term u in
        let t = counted g.stand w.count in
        finished μ L site.place _ q s.next _ _ md o (λ o.
        let o₂ = fresh-notes P.low P.high S site.place t (g.notes ++ w.notes) o in
        then (ih.at e infer [] Γ s E q tt h (all_left _ g.notes _ o₂)) (λ x r.
        let h₁ = after (found g) h gk r in
        then (touched site g.stand.count g.term x h₁ r.is (checks-pass P.low P.high S r.asg h₁.range site site.place g.stand g.term u h₁.facts (all_right _ g.notes _ o₂))) (λ a _.
        then (same_load S N (Good R S) a) (λ y _.
        same-fit S N (Good R S) P site.place _ y (λ z. met-from r.agree gk.stand.up (fresh-met h₁ (fresh-room P.low P.high S site.place t (g.notes ++ w.notes) o) y z))))))
    node-sound (call p f es) μ L {Γ} s {E} {q} md h o =
        let g = walks R Γ s es in
        let gk = walks-ok R Γ s es h.scope h.firm in
        let r = rule_at R f in
        let w = owe_all p g.stand.facts g.stand.count (conditions_rows g.terms zero_term r.needs) in
        let t = counted g.stand w.count in
        let first = limit (callable R f es) (Name p) in
        let notes = (first ++ g.notes) ++ w.notes in
        finished μ L p _ q s.next _ _ md o (λ o.
        let o₁ = with-fresh P.low P.high S p g.terms r.gives t notes o in
        let o₂ = fresh-notes P.low P.high S p t notes o₁ in
        let o₃ = all_left _ (first ++ g.notes) w.notes o₂ in
        let able = limit-met P.low P.high S (callable R f es) (Name p) (all_left _ first g.notes o₃) in
        let fit-params = same_params-law (shape es) r.params (both_right (ltb f (length R)) _ able) in
        then (values-sound es s h (all_right _ first g.notes o₃)) (λ xs v.
        let h₁ = here_on h v.asg g.stand.next g.stand.facts v.agree gk.stand.up v.range gk.stand.facts v.facts in
        same_post S N (Good R S) _ _ _ _
        (λ y z. met-from v.agree gk.stand.up (with-met p g.terms r.gives t notes h₁ (fresh-room P.low P.high S p t notes o₁) y z.0 xs gk.terms v.are z.1))
        (enter-sound f xs (map (part_at E.parts) (lent_of g.tree)) (record {
          exists = both_left (ltb f (length R)) _ able;
          count = v.count ∙ ap length fit-params;
          lengths = ap (λ (ps : List Param). at_lists ps xs) (sym fit-params) ∙ v.lengths;
          fits = v.fits;
          parts = part-at E.parts h.parts (lent_of g.tree);
          needs = conditions-hold P.low P.high S v.asg v.range p g.stand.facts v.facts g.stand.count g.terms zero_term xs (pos 0) v.are (worth-constant v.asg (pos 0)) r.needs (all_right _ (first ++ g.notes) w.notes o₂);
        }))))
    node-sound (bind p a b) μ L {Γ} s {E} {q} md h o =
        let g = walk R infer Γ s a in
        let gk = walked s infer a h in
        then (ih.at a infer [] Γ s E q tt h (all_left _ g.notes _ o)) (λ x r.
        let h₁ = after (found g) h gk r in
        same_post S N (Good R S) _ _ _ _ (λ v z. post-from μ L q r.asg s.next g.stand.next _ _ v r.agree gk.stand.up z)
        (ih.at b μ L (binding Γ g.term) g.stand (holding E x) r.asg (mode-on μ s.next g.stand.next q r.asg L r.agree gk.stand.up md)
        (here-binding h₁ g.term x gk.term r.is) (all_right _ g.notes _ o)))
    node-sound (test p c a b d e) μ L {Γ} s {E} {q} md h o =
        let g = walk R infer Γ s a in
        let k = walk R infer Γ g.stand b in
        let gk = walked s infer a h in
        let i = assume p k.stand.facts (rows c g.term k.term) in
        let x = walk R μ Γ (knowing k.stand i.facts) d in
        let j = assume p k.stand.facts (otherwise c g.term k.term) in
        let y = walk R μ Γ (counted (knowing k.stand j.facts) x.stand.count) e in
        let t = counted k.stand y.stand.count in
        let sides = g.notes ++ k.notes in
        let yes-notes = i.notes ++ x.notes in
        let no-notes = j.notes ++ y.notes in
        let f = join μ p t (sides ++ (yes-notes ++ no-notes)) in
        let o₁ = join-notes P.low P.high S μ p t (sides ++ (yes-notes ++ no-notes)) o in
        let o₂ = all_left _ sides (yes-notes ++ no-notes) o₁ in
        let o₃ = all_right _ sides (yes-notes ++ no-notes) o₁ in
        then (ih.at a infer [] Γ s E q tt h (all_left _ g.notes k.notes o₂)) (λ u r.
        let h₁ = after (found g) h gk r in
        then (ih.at b infer [] Γ g.stand E r.asg tt h₁ (all_right _ g.notes k.notes o₂)) (λ v z.
        let w = both (found g) (found k) gk (walked g.stand infer b h₁) r h₁ z in
        let md₂ = mode-on μ s.next k.stand.next q w.asg L w.agree w.up md in
        same_cond S N (Good R S) _ (holds c u v) _ _ _ _
        (λ l. same_post S N (Good R S) _ _ _ _ (λ n m. post-from μ L q w.asg s.next k.stand.next f.stand.facts f.term n w.agree w.up (joined μ L p t (sides ++ (yes-notes ++ no-notes)) x.stand.facts x.term n w.here o m))
        (ih.at d μ L Γ (knowing k.stand i.facts) E w.asg md₂
        (here-facts w.here i.facts (assume-firm k.stand.next p k.stand.facts (rows c g.term k.term) w.here.firm (rows-firm c k.stand.next g.term k.term w.one w.other))
        (assume-meets w.asg p k.stand.facts (rows c g.term k.term) w.here.facts (rows-from c w.asg g.term k.term (subst₂ (λ (m : ℤ) (n : ℤ). T (holds c m n)) (sym w.first) (sym w.second) l))))
        (all_right _ i.notes x.notes (all_left _ yes-notes no-notes o₃))))
        (λ l. same_post S N (Good R S) _ _ _ _ (λ n m. post-from μ L q w.asg s.next k.stand.next f.stand.facts f.term n w.agree w.up (joined μ L p t (sides ++ (yes-notes ++ no-notes)) y.stand.facts y.term n w.here o m))
        (ih.at e μ L Γ (counted (knowing k.stand j.facts) x.stand.count) E w.asg md₂
        (here-facts w.here j.facts (assume-firm k.stand.next p k.stand.facts (otherwise c g.term k.term) w.here.firm (otherwise-firm c k.stand.next g.term k.term w.one w.other))
        (assume-meets w.asg p k.stand.facts (otherwise c g.term k.term) w.here.facts (otherwise-from c w.asg g.term k.term (subst₂ (λ (m : ℤ) (n : ℤ). T (not (holds c m n))) (sym w.first) (sym w.second) l))))
        (all_right _ j.notes y.notes (all_right _ yes-notes no-notes o₃))))))
    node-sound (put p site a b e) μ L {Γ} s {E} {q} md h o =
        let g = walk R infer Γ s a in
        let k = walk R infer Γ g.stand b in
        let gk = walked s infer a h in
        let u = term_at Γ.lengths site.list in
        let c = owe_checks site p k.stand g.term u in
        let t = counted k.stand c.count in
        let f = walk R μ Γ t e in
        let sides = g.notes ++ k.notes in
        let o₂ = all_left _ sides (c.notes ++ f.notes) o in
        let o₃ = all_right _ sides (c.notes ++ f.notes) o in
        then (ih.at a infer [] Γ s E q tt h (all_left _ g.notes k.notes o₂)) (λ x r.
        let h₁ = after (found g) h gk r in
        then (ih.at b infer [] Γ g.stand E r.asg tt h₁ (all_right _ g.notes k.notes o₂)) (λ y z.
        let w = both (found g) (found k) gk (walked g.stand infer b h₁) r h₁ z in
        then (touched site k.stand.count g.term x w.here w.first (checks-pass P.low P.high S w.asg w.here.range site p k.stand g.term u w.here.facts (all_left _ c.notes f.notes o₃))) (λ i _.
        then (same_store S N (Good R S) i y) (λ _ _.
        same_post S N (Good R S) _ _ _ _ (λ v m. post-from μ L q w.asg s.next k.stand.next _ _ v w.agree w.up m)
        (ih.at e μ L Γ t E w.asg (mode-on μ s.next k.stand.next q w.asg L w.agree w.up md) w.here (all_right _ c.notes f.notes o₃))))))
    node-sound (claim p e cs) μ L {Γ} s {E} {q} md h o =
        let g = walk R (check Γ.names cs) Γ s e in
        let t = counted s g.stand.count in
        finished μ L p _ q s.next _ _ md o (λ o.
        let o₁ = with-fresh P.low P.high S p Γ.names cs t g.notes o in
        same_post S N (Good R S) _ _ _ _
        (λ v z. with-met p Γ.names cs t g.notes h (fresh-room P.low P.high S p t g.notes o₁) v z.0 E.values h.scope.names h.names z.1)
        (ih.at e (check Γ.names cs) E.values Γ s E q (h.scope.names, h.names) h (fresh-notes P.low P.high S p t g.notes o₁)))

  -- at every depth
  pub run_sound : InRange (pos 0) → ((f : ℕ) → T (ltb f (length R)) → BodyOk f) → (d : ℕ) → Evals (run P S d) (run P full d)
  unfolding run
  run_sound z b zero = record { at = λ e μ L Γ s E q md h o. same-bind S N (Good R S) _ _ _ _ _ _ (same-spend S N (Good R S) _) (λ _ _. same-halt S N (Good R S) _ Deep _) }
  run_sound z b (suc d) = record { at = λ e μ L Γ s E q md h o. same-bind S N (Good R S) _ _ _ _ _ _ (same-spend S N (Good R S) _) (λ _ _. node-sound z b (run P S d) (run P full d) (run_sound z b d) e μ L s md h o) }
