-- Histories: the plain list has what had a good settling, the draft marks just that, and what is on the list follows.
use Rattle.std.proofs.Common.{◌≡◌, ℕ, zero, suc, ◌<◌, Bool, true, false, cond, ◌&&◌, ◌||◌, T, eqb, ◌⊎◌, List, [], ◌∷◌, length, set, replicate, ◌≤ℤ◌, is_ok, Some, None, Ok, Err, Option, sym, refl, ap, ◌∙◌, subst, inl, inr, ⊎_elim, arith, eqb→eq}
use lib.Dec.{eqb_refl}
use lib.Signed.{le_z, le_z_yes}
use Rattle.std.specs.List.{slice_get}
use Rattle.std.proofs.lemmas.List.{get_or-set_same, get_or-set_other, length-set, length-replicate}
use Rattle.std.proofs.lemmas.Int.{ints}
use Rattle.std.proofs.lemmas.Bool.{cases_eq, eq-eqb, ne_eqb}
use Rattle.std.proofs.lemmas.Option.{none-some}
use Rattle.rows.specs.Meaning.{Follows}
use Rattle.domains.specs.Faults.{Outcome, Good}
use Rattle.language.specs.declared.refusal.Refusal.TheVariants.{Narrow}
use Rattle.language.specs.Walking.{Obligation}
use Rattle.language.specs.Drafts.{Sheet, Draft, draft_of, Domain, Prover, wide, judged, verified, asked, settle, mark_if, settled, marked}
use Rattle.language.specs.Histories.{Step, settling, ready, draft_after, good_proposal, good_for, good, plain_after, on}
use Rattle.language.specs.Promise.{GoodSettling, HadGood}
use Rattle.language.proofs.Tests.{both-from, both_left, both_right}

-- a settling is good by its test just where it is good
good-proposal : (d : Domain) (o : Obligation) (c : Option (List ℕ)) → T (good_proposal d o c) → (x : List ℕ) × (c ≡ Some x) × Good (d.outcome o.facts o.goal x)
good-proposal d o None h = absurd h
good-proposal d o (Some x) h = (x, refl, go (d.outcome o.facts o.goal x) h)
  where
    go : (r : Outcome) → T (is_ok r) → Good r
    go (Ok u) h = tt
    go (Err f) h = h

module _ (sheet : Sheet) where
  good-to : (n : ℕ) (d : Domain) (p : Prover) → T (good sheet n d p) → GoodSettling sheet n d p
  good-to n d p = go (slice_get sheet.obligations n) refl
    where
      go : (o : Option Obligation) → slice_get sheet.obligations n ≡ o → T (good_for sheet d p o) → GoodSettling sheet n d p
      go None e h = absurd h
      go (Some o) e h =
          let c = good-proposal d o (p.proposes o.facts o.goal) (both_right (wide sheet d) _ h) in
          record { obligation = o; is = e; holds-range = both_left (wide sheet d) _ h; certificate = c.0; proposed = c.1; outcome-good = c.2 }

  good-from : (n : ℕ) (d : Domain) (p : Prover) → GoodSettling sheet n d p → T (good sheet n d p)
  good-from n d p g =
      subst (λ (o : Option Obligation). T (good_for sheet d p o)) (sym g.is)
      (both-from (wide sheet d) _ g.holds-range (subst (λ (c : Option (List ℕ)). T (good_proposal d g.obligation c)) (sym g.proposed) (go (d.outcome g.obligation.facts g.obligation.goal g.certificate) g.outcome-good)))
    where
      go : (r : Outcome) → Good r → T (is_ok r)
      go (Ok u) h = tt
      go (Err f) h = h

  -- what is on the plain list
  on-head : (m : ℕ) (list : List ℕ) → T (on (m ∷ list) m)
  unfolding on
  on-head m list = go (eqb m m) (eqb_refl m)
    where
      go : (b : Bool) → T b → T (b || on list m)
      go true h = tt
      go false h = absurd h

  on-tail : (m : ℕ) (list : List ℕ) (n : ℕ) → T (on list n) → T (on (m ∷ list) n)
  unfolding on
  on-tail m list n h = go (eqb m n)
    where
      go : (b : Bool) → T (b || on list n)
      go true = tt
      go false = h

  on-split : (m : ℕ) (list : List ℕ) (n : ℕ) → T (on (m ∷ list) n) → (m ≡ n) ⊎ T (on list n)
  unfolding on
  on-split m list n = go (eqb m n) (eqb→eq m n)
    where
      go : (b : Bool) → (T b → m ≡ n) → T (b || on list n) → (m ≡ n) ⊎ T (on list n)
      go true f h = inl (f tt)
      go false f h = inr h

  on-added : (b : Bool) (m : ℕ) (list : List ℕ) (n : ℕ) → T (on list n) → T (on (cond b (m ∷ list) list) n)
  on-added true m list n h = on-tail m list n h
  on-added false m list n h = h

  listed-before : (history : List Step) (list : List ℕ) (n : ℕ) → T (on list n) → T (on (plain_after sheet list history) n)
  unfolding plain_after
  listed-before [] list n h = h
  listed-before (settling m d law p b ∷ history) list n h = listed-before history _ n (on-added (good sheet m d p) m list n h)
  listed-before (ready ∷ history) list n h = listed-before history list n h

  pub listed-from : (history : List Step) (list : List ℕ) (n : ℕ) → HadGood sheet n history → T (on (plain_after sheet list history) n)
  unfolding plain_after
  listed-from [] list n h = absurd h
  listed-from (settling m d law p b ∷ history) list n h =
      ⊎_elim
      (λ g. listed-before history _ n (go (good sheet m d p) (good-from m d p (subst (λ (k : ℕ). GoodSettling sheet k d p) (sym g.0) g.1)) g.0))
      (λ l. listed-from history _ n l) h
    where
      go : (b : Bool) → T b → m ≡ n → T (on (cond b (m ∷ list) list) n)
      go true t e = subst (λ (k : ℕ). T (on (m ∷ list) k)) e (on-head m list)
      go false t e = absurd t
  listed-from (ready ∷ history) list n h = listed-from history list n h

  pub listed-to : (history : List Step) (list : List ℕ) (n : ℕ) → T (on (plain_after sheet list history) n) → T (on list n) ⊎ HadGood sheet n history
  unfolding plain_after
  listed-to [] list n h = inl h
  listed-to (settling m d law p b ∷ history) list n h =
      ⊎_elim
      (λ l. go (good sheet m d p) (good-to m d p) l)
      (λ g. inr (inr g)) (listed-to history _ n h)
    where
      go : (b : Bool) → (T b → GoodSettling sheet m d p) → T (on (cond b (m ∷ list) list) n) → T (on list n) ⊎ (((m ≡ n) × GoodSettling sheet n d p) ⊎ HadGood sheet n history)
      go true f l = ⊎_elim (λ e. inr (inl (e, subst (λ (k : ℕ). GoodSettling sheet k d p) e (f tt)))) (λ t. inl t) (on-split m list n l)
      go false f l = inl l
  listed-to (ready ∷ history) list n h = listed-to history list n h

  -- the draft marks what the list has
  pub record Marks (draft : Draft) (list : List ℕ) : Type 0 where
    pub sheet-is : draft.sheet ≡ sheet
    pub size : length draft.marks ≡ length sheet.obligations
    pub same : (n : ℕ) → marked draft.marks n ≡ on list n

  judged-mark : (d : Domain) (p : Prover) (n : ℕ) (marks : List Bool) (o : Option Obligation) → mark_if (asked sheet d p o) n marks ≡ cond (good_for sheet d p o) (set marks n true) marks
  judged-mark d p n marks None = refl
  judged-mark d p n marks (Some o) = go (wide sheet d) (p.proposes o.facts o.goal)
    where
      last : (r : Outcome) → mark_if (judged o.place r) n marks ≡ cond (is_ok r) (set marks n true) marks
      last (Ok u) = refl
      last (Err f) = refl

      go : (b : Bool) (c : Option (List ℕ)) → mark_if (cond b (verified d o c) (Err Narrow)) n marks ≡ cond (b && good_proposal d o c) (set marks n true) marks
      go true None = refl
      go true (Some c) = last (d.outcome o.facts o.goal c)
      go false c = refl

  nth-below : {A : Type 0} (xs : List A) (n : ℕ) (x : A) → slice_get xs n ≡ Some x → n < length xs
  nth-below [] n x e = absurd (none-some x e)
  nth-below (y ∷ xs) zero x e = omega arith
  nth-below (y ∷ xs) (suc n) x e = let l = nth-below xs n x e in omega arith

  set-marked : (marks : List Bool) (m : ℕ) → m < length marks → (list : List ℕ) → ((n : ℕ) → marked marks n ≡ on list n) → (n : ℕ) → marked (set marks m true) n ≡ on (m ∷ list) n
  unfolding on
  set-marked marks m l list h n =
      ⊎_elim
      (λ (e : m ≡ n). subst (λ (k : ℕ). marked (set marks m true) k ≡ (eqb m k || on list k)) e (get_or-set_same marks m true false l ∙ ap (λ (b : Bool). b || on list m) (sym (eq-eqb m m refl))))
      (λ e. get_or-set_other marks m n true false (λ x. e (sym x)) ∙ h n ∙ ap (λ (b : Bool). b || on list n) (sym (ne_eqb m n e)))
      (cases_eq m n)

  marks-step : (draft : Draft) (list : List ℕ) (n : ℕ) (d : Domain) (p : Prover) → Marks draft list → Marks (settled draft n d p) (cond (good sheet n d p) (n ∷ list) list)
  marks-step draft list n d p h =
      let e : mark_if (settle draft n d p) n draft.marks ≡ cond (good sheet n d p) (set draft.marks n true) draft.marks =
      ap (λ (s : Sheet). mark_if (asked s d p (slice_get s.obligations n)) n draft.marks) h.sheet-is ∙ judged-mark d p n draft.marks (slice_get sheet.obligations n) in
      go (good sheet n d p) (good-to n d p) (mark_if (settle draft n d p) n draft.marks) e
    where
      go : (b : Bool) → (T b → GoodSettling sheet n d p) → (marks : List Bool) → marks ≡ cond b (set draft.marks n true) draft.marks → Marks (record { sheet = draft.sheet; marks = marks }) (cond b (n ∷ list) list)
      go true f marks e =
          let g = f tt in
          record {
            sheet-is = h.sheet-is;
            size = ap length e ∙ length-set draft.marks n true ∙ h.size;
            same = λ k. ap (λ (ms : List Bool). marked ms k) e ∙ set-marked draft.marks n (omega (arith, h.size, nth-below sheet.obligations n g.obligation g.is)) list h.same k;
          }
      go false f marks e = record { sheet-is = h.sheet-is; size = ap length e ∙ h.size; same = λ k. ap (λ (ms : List Bool). marked ms k) e ∙ h.same k }

  pub marks-after : (history : List Step) (draft : Draft) (list : List ℕ) → Marks draft list → Marks (draft_after draft history) (plain_after sheet list history)
  unfolding draft_after plain_after
  marks-after [] draft list h = h
  marks-after (settling n d law p b ∷ history) draft list h = marks-after history (settled draft n d p) _ (marks-step draft list n d p h)
  marks-after (ready ∷ history) draft list h = marks-after history draft list h

  pub marks-fresh : Marks (draft_of sheet) []
  unfolding on
  marks-fresh = record { sheet-is = refl; size = length-replicate (length sheet.obligations) false; same = go (length sheet.obligations) }
    where
      go : (k n : ℕ) → marked (replicate k false) n ≡ false
      go zero n = refl
      go (suc k) zero = refl
      go (suc k) (suc n) = go k n

  -- what is on the list follows in the sheet's range
  pub settled-follows : (n : ℕ) (history : List Step) → HadGood sheet n history → (o : Obligation) → slice_get sheet.obligations n ≡ Some o → Follows sheet.low sheet.high o.facts o.goal
  settled-follows n [] h o e = absurd h
  settled-follows n (ready ∷ history) h o e = settled-follows n history h o e
  settled-follows n (settling m d law p b ∷ history) h o e = ⊎_elim (λ x. follows x.1) (λ x. settled-follows n history x o e) h
    where
      follows : GoodSettling sheet n d p → Follows sheet.low sheet.high o.facts o.goal
      follows g =
          let same : g.obligation ≡ o = cc g.is in
          let f = law.sound g.obligation.facts g.obligation.goal g.certificate g.outcome-good in
          let low : d.low ≤ℤ sheet.low = le_z_yes (both_left (le_z d.low sheet.low) _ g.holds-range) in
          let high : sheet.high ≤ℤ d.high = le_z_yes (both_right (le_z d.low sheet.low) _ g.holds-range) in
          subst (λ (x : Obligation). Follows sheet.low sheet.high x.facts x.goal) same
          (record { follows = λ q w m. f.follows q (λ j l. let r = w j l in (omega (arith, ints), omega (arith, ints))) m })
