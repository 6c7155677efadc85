-- A side added up item by item.
use Rattle.std.proofs.Common.{◌≡◌, ℕ, ◌+◌, ◌-◌, ◌<◌, ◌≤◌, ℤ, pos, Bool, true, false, cond, List, [], ◌∷◌, map, length, drop, Some, None, Option, sym, refl, ap, ◌∙◌, subst, inl, inr, arith}
use Rattle.std.proofs.lemmas.Bool.{and_from, lt-ltb, cases_lt}
use Rattle.std.proofs.lemmas.List.{get_or_past, length-take, length-drop}
use Rattle.std.proofs.ByRecursion.{All-get_or, All-take, All-drop}
use Rattle.std.specs.List.{AllByRecursion}
use Rattle.std.specs.Option.{unwrap_or}
use Rattle.language.specs.declared.term.Term.{Term}
use Rattle.language.specs.Terms.{constant, each, zero_term, plus, scaled, fits_term, all_near, near}
use Rattle.language.specs.Tree as Tree
use Rattle.language.specs.Comparing.{atom_term}
use Rattle.records.specs.declared.condition.Item.{Item}
use Rattle.records.specs.Tables.{stretch, atom_of, item_of, side_in}
use Rattle.terms.specs.declared.total.Total.{Total}
use Rattle.terms.specs.Totals.{sum_of, side_from, takes, seen, taken}
use Rattle.records.specs.Sound.{Takable}
use Rattle.walking.specs.Sides.{Fitting}

module _ (ts : List Term) (r : Term) where
  fits-constant : (b : Bool) → fits_term (constant (pos (cond b 1 0))) ≡ true
  unfolding constant each all_near
  fits-constant true = refl
  fits-constant false = refl

  -- what an item takes keeps the limits
  pub atom-fits : Fitting ts → fits_term r ≡ true → (a : Tree.Atom) → fits_term (atom_term ts r a) ≡ true
  atom-fits f h Tree.one = fits-constant true
  atom-fits f h (Tree.named i) = elim (cases_lt i (length ts)) [
    | inl l ↦ All-get_or (λ t. fits_term t ≡ true) ts i zero_term l f
    | inr l ↦ ap fits_term (get_or_past ts i zero_term l) ∙ fits-constant false
  ]
  atom-fits f h Tree.result = h

  from-item : (t : Term) (i : Tree.Item) (is : Tree.Side) → side_from ts r t (i ∷ is) ≡ side_from ts r (plus (scaled i.factor (atom_term ts r i.atom)) t) is
  unfolding side_from
  from-item t i is = refl

  from-none : (t : Term) → side_from ts r t [] ≡ t
  unfolding side_from
  from-none t = refl

counted : Option (ℕ × Term) → ℕ
counted None = 0
counted (Some p) = p.0

summed : Option (ℕ × Term) → Term
summed None = zero_term
summed (Some p) = p.1

module _ (t : Total) (factor : ℤ) (u : Term) (few : t.count < 16384) (fine : near factor ≡ true) (fits : fits_term u ≡ true) where
  takes-it : takes t.count factor u ≡ true
  takes-it = and_from _ _ (lt-ltb t.count 16384 few) (and_from _ _ fine fits)

  comes : taken t factor u ≡ Some (t.count + 1, plus (scaled factor u) (sum_of t))
  comes = ap (λ b. cond b (Some (t.count + 1, plus (scaled factor u) (sum_of t))) None) takes-it

  not-full : {X : Type 0} → seen None ≡ taken t factor u → X
  not-full e = let z : ◌≡◌ {A = Option (ℕ × Term)} None (Some (t.count + 1, plus (scaled factor u) (sum_of t))) = e ∙ comes in absurd (grind arith)

  -- so the total has one item more
  one-counted : (o : Option Total) → seen o ≡ taken t factor u → (unwrap_or o t).count ≡ t.count + 1
  unfolding counted
  one-counted None e = not-full e
  one-counted (Some more) e = ap counted (e ∙ comes)

  one-summed : (o : Option Total) → seen o ≡ taken t factor u → sum_of (unwrap_or o t) ≡ plus (scaled factor u) (sum_of t)
  unfolding summed
  one-summed None e = not-full e
  one-summed (Some more) e = ap summed (e ∙ comes)

module _ (ts : List Term) (r : Term) where
  -- so much of a side is added up, and these items are to come, for which a total has room
  pub record Adding (side : Tree.Side) (left : List Item) (t : Total) : Type 0 where
    pub few : t.count + length left ≤ 16384
    pub near : AllByRecursion (λ (i : Item). near i.factor ≡ true) left
    pub sum : side_from ts r zero_term side ≡ side_from ts r (sum_of t) (map item_of left)

  pub adding_none : (items left : List Item) (from to : ℕ) (t : Total) → left ≡ stretch items from to → Takable items → t.count ≡ 0 → sum_of t ≡ zero_term → Adding (side_in items from to) left t
  unfolding side_in
  adding_none items left from to t e k n z = record {
    few = omega (arith, n, k.few, ap length e, length-take (to - from) (drop from items), length-drop from items);
    near = subst (AllByRecursion (λ (i : Item). near i.factor ≡ true)) (sym e) (All-take _ (to - from) (drop from items) (All-drop _ from items k.near));
    sum = ap (λ u. side_from ts r u (map item_of (stretch items from to))) (sym z) ∙ ap (λ xs. side_from ts r (sum_of t) (map item_of xs)) (sym e);
  }

  pub adding_turn : (side : Tree.Side) (left : List Item) (x : Item) (rest : List Item) (t : Total) (u : Term) (o : Option Total) → left ≡ x ∷ rest → fits_term u ≡ true → u ≡ atom_term ts r (atom_of x.atom) → seen o ≡ taken t x.factor u → Adding side left t → Adding side rest (unwrap_or o t)
  adding_turn side left x rest t u o e fits is took a =
      let b : Adding side (x ∷ rest) t = subst (λ xs. Adding side xs t) e a in
      let few : t.count < 16384 = omega (arith, b.few) in record {
        few = omega (arith, b.few, one-counted t x.factor u few b.near.0 fits o took);
        near = b.near.1;
        sum = b.sum ∙ from-item ts r (sum_of t) (item_of x) (map item_of rest)
            ∙ ap (λ z. side_from ts r z (map item_of rest)) (ap (λ z. plus (scaled x.factor z) (sum_of t)) (sym is) ∙ sym (one-summed t x.factor u few b.near.0 fits o took));
      }

  pub adding_end : (side : Tree.Side) (left : List Item) (t : Total) → left ≡ [] → Adding side left t → side_from ts r zero_term side ≡ sum_of t
  adding_end side left t e a = a.sum ∙ ap (λ xs. side_from ts r (sum_of t) (map item_of xs)) e ∙ from-none ts r (sum_of t)
