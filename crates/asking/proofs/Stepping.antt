-- What every row of a list has, if the first rows have it and every step keeps it.
use Rattle.std.proofs.Common.{◌≡◌, ℕ, zero, suc, ◌+◌, ◌<◌, Bool, true, false, cond, ltb, List, [], ◌∷◌, ◌++◌, length, pos, Some, None, Option, sym, refl, ◌∙◌, subst, arith}
use lib.Signed.{lt_z}
use Rattle.std.specs.List.{flat_map}
use Rattle.std.proofs.lemmas.Option.{none-some, same_Some}
use Rattle.ints.specs.Tests.{is_zero}
use Rattle.provers.specs.declared.derived.Derived.{Derived}
use Rattle.provers.specs.Derivations.{coef_at, combine}
use Rattle.provers.specs.Elimination.{push_all, zero_of, pair_of, pairs_of, without, without_all, from, first_below}
use Rattle.provers.proofs.Pushing.{without_more, leave-end}
use Rattle.asking.proofs.Options.{opened, passed}

abbrev pub Each : (Derived → Type 0) → List Derived → Type 0
Each R [] = Unit {0}
Each R (r ∷ rs) = R r × Each R rs

-- the same of rows that may be missing
abbrev pub Sure : (Derived → Type 0) → List (Option Derived) → Type 0
Sure R [] = Unit {0}
Sure R (None ∷ os) = Unit {0}
Sure R (Some w ∷ os) = R w × Sure R os

module _ (R : Derived → Type 0) where
  each-push : (rs : List Derived) (w : Derived) → Each R rs → R w → Each R (rs ++ w ∷ [])
  each-push [] w h k = (k, tt)
  each-push (r ∷ rs) w h k = (h.0, each-push rs w h.1 k)

  pub pushed : (rs : List Derived) (os : List (Option Derived)) (out : List Derived) → Each R rs → Sure R os → push_all rs os ≡ Some out → Each R out
  unfolding push_all
  pushed rs [] out h s e = subst (Each R) (same_Some rs out e) h
  pushed rs (None ∷ os) out h s e = absurd (none-some out e)
  pushed rs (Some w ∷ os) out h s e = pushed (rs ++ w ∷ []) os out (each-push rs w h s.0) s.1 (passed (ltb (length rs) 128) _ out e).1

  pub sure-append : (xs ys : List (Option Derived)) → Sure R xs → Sure R ys → Sure R (xs ++ ys)
  sure-append [] ys h k = k
  sure-append (None ∷ xs) ys h k = tt
  sure-append (Some w ∷ xs) ys h k = (h.0, sure-append xs ys h.1 k)

  pub sure-cond : (b : Bool) (os : List (Option Derived)) → (b ≡ true → Sure R os) → Sure R (cond b os [])
  sure-cond true os h = h refl
  sure-cond false os h = tt

  pub sure-one : (o : Option Derived) → ((w : Derived) → o ≡ Some w → R w) → Sure R (o ∷ [])
  sure-one None h = tt
  sure-one (Some w) h = (h w refl, tt)

  sure-joined : (P : Derived → Type 0) (f : Derived → List (Option Derived)) (rs : List Derived) → ((r : Derived) → P r → Sure R (f r)) → Each P rs → Sure R (flat_map f rs)
  sure-joined P f [] h k = tt
  sure-joined P f (r ∷ rs) h k = sure-append (f r) (flat_map f rs) (h r k.0) (sure-joined P f rs h k.1)

-- P n is what the rows have once the quantities below n have left
module _ (P : ℕ → Derived → Type 0)
    (keep : (q : ℕ) (r : Derived) → P q r → is_zero (coef_at q r) ≡ true → P (q + 1) r)
    (join : (q : ℕ) → q < 16 → (p m w : Derived) → P q p → P q m → lt_z (pos 0) (coef_at q p) ≡ true → lt_z (coef_at q m) (pos 0) ≡ true → combine q p m ≡ Some w → P (q + 1) w) where
  stepped : (q : ℕ) (rows out : List Derived) → q < 16 → Each (P q) rows → without q rows ≡ Some out → Each (P (q + 1)) out
  unfolding without
  stepped q rows out l all e =
      let R = P (q + 1) in
      pushed R [] (flat_map (zero_of q) rows ++ flat_map (pairs_of q rows) rows) out tt
      (sure-append R (flat_map (zero_of q) rows) (flat_map (pairs_of q rows) rows)
      (sure-joined R (P q) (zero_of q) rows (λ r h. sure-cond R (is_zero (coef_at q r)) (Some r ∷ []) (λ z. (keep q r h z, tt))) all)
      (sure-joined R (P q) (pairs_of q rows) rows (λ p h. sure-cond R (lt_z (pos 0) (coef_at q p)) (flat_map (pair_of q p) rows) (λ up.
      sure-joined R (P q) (pair_of q p) rows (λ m k. sure-cond R (lt_z (coef_at q m) (pos 0)) (combine q p m ∷ []) (λ down. sure-one R (combine q p m) (λ w c. join q l p m w h k up down c))) all)) all)) e

  -- n quantities are left
  pub run : (n q : ℕ) (rows out : List Derived) → q + n ≡ 16 → Each (P q) rows → without_all (from q) rows ≡ Some out → Each (P 16) out
  run zero q rows out e h s =
      let f : q ≡ 16 = omega arith in
      let k : Each (P 16) rows = subst (λ (x : ℕ). Each (P x) rows) f h in
      subst (Each (P 16)) (same_Some rows out (sym (leave-end q rows (omega arith)) ∙ s)) k
  run (suc n) q rows out e h s =
      let p = opened (without q rows) (without_all (from (q + 1))) out (sym (without_more q rows (omega arith)) ∙ s) in
      run n (q + 1) p.0 out (omega arith) (stepped q rows p.0 (omega arith) h p.1.0) p.1.1

pub record Below (R : Derived → Type 0) (times : List ℕ) : Type 0 where
  pub row : Derived
  pub has : R row
  pub below : lt_z row.bound (pos 0) ≡ true
  pub its : row.times ≡ times

pub first_below-law : (R : Derived → Type 0) (rows : List Derived) (times : List ℕ) → Each R rows → first_below rows ≡ Some times → Below R times
unfolding first_below
first_below-law R [] times h e = absurd (none-some times e)
first_below-law R (r ∷ rs) times h e =
    let F : Bool → Type 0 = λ b. lt_z r.bound (pos 0) ≡ b → cond b (Some r.times) (first_below rs) ≡ Some times → Below R times in
    let both : F (lt_z r.bound (pos 0)) = elim (lt_z r.bound (pos 0)) as F [
      | true ↦ λ z k. record { row = r; has = h.0; below = z; its = same_Some r.times times k }
      | false ↦ λ z k. first_below-law R rs times h.1 k
    ] in
    both refl e
