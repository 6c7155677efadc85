-- Loops that push rows, and quantities that leave in turn.
use Rattle.std.proofs.Common.{◌≡◌, ℕ, suc, ◌+◌, ◌-◌, ◌<◌, ◌≤◌, true, false, cond, ltb, List, [], ◌∷◌, ◌++◌, length, get_or, drop, pos, Some, None, Option, sym, refl, ap, ◌∙◌, arith}
use Rattle.std.specs.Prelude.{◌↔◌, Ok, Err, Result}
use Rattle.std.specs.Result.{IsErr, IsOk, OnOk, is_ok, result_ok}
use Rattle.std.proofs.lemmas.Bool.{true≢false, lt-ltb}
use Rattle.std.proofs.lemmas.Bool.Decides.{nat_tests}
use Rattle.provers.specs.declared.worklist.PastLimit.{PastLimit}
use Rattle.provers.specs.WorkLists.{answered}
use Rattle.std.specs.List.{range_with_len, flat_map, find}
use Rattle.std.specs.Option.{option_map}
use lib.Signed.{lt_z}
use Rattle.std.proofs.lemmas.List.{drop_more, drop_all}
use Rattle.rows.specs.declared.row.Row.{Row}
use Rattle.provers.specs.declared.derived.Derived.{Derived}
use Rattle.provers.specs.Elimination.{bind, push_all, fact_of, goal_of, originals, without, without_all, from, first_below}

-- what stands past the end of a list of rows
abbrev pub blank : Derived
blank = record { coefs = []; bound = pos 0; times = [] }

-- a call that was refused leaves no whole list
pub unanswered : (r : Result (Unit {0}) PastLimit) (rows : List Derived) → IsErr r → answered r rows ≡ None
unanswered (Ok u) rows h = absurd (true≢false (sym h))
unanswered (Err e) rows h = refl

ltb-none : (a b : ℕ) → (a < b → ⊥) → ltb a b ≡ false
ltb-none a b h = grind (arith, nat_tests)

-- the same, where only the value was asked
pub none_answered : (r : Result (Unit {0}) PastLimit) (rows : List Derived) → None ≡ result_ok r → answered r rows ≡ None
none_answered (Ok u) rows h = let no : ◌≡◌ {A = ℕ} 0 1 = cc in let bad : ⊥ = omega arith in absurd bad
none_answered (Err e) rows h = refl

pub some_answered : (u : Unit {0}) (r : Result (Unit {0}) PastLimit) (rows : List Derived) → Some u ≡ result_ok r → answered r rows ≡ Some rows
some_answered u (Ok v) rows h = refl
some_answered u (Err e) rows h = let no : ◌≡◌ {A = ℕ} 0 1 = cc in let bad : ⊥ = omega arith in absurd bad

-- a push that may be refused
pub pushed : {E : Type 0} (r : Result (Unit {0}) E) (m : Result (Unit {0}) PastLimit) (old new : List Derived) (row : Derived) → is_ok m ≡ is_ok r → (IsOk r ↔ (length old < 128)) → OnOk r (new ≡ old ++ row ∷ []) → answered m new ≡ push_all old (Some row ∷ [])
unfolding push_all
pushed (Ok u) (Ok v) old new row e f g = ap Some g ∙ sym (ap (λ b. cond b (Some (old ++ row ∷ [])) None) (lt-ltb (length old) 128 (f.0 refl)))
pushed (Ok u) (Err v) old new row e f g = absurd (true≢false (sym e))
pushed (Err u) (Ok v) old new row e f g = absurd (true≢false e)
pushed (Err u) (Err v) old new row e f g = sym (ap (λ b. cond b (Some (old ++ row ∷ [])) None) (ltb-none (length old) 128 (λ l. true≢false (sym (f.1 l)))))

pub push-append : (rows : List Derived) (xs ys : List (Option Derived)) → push_all rows (xs ++ ys) ≡ bind (push_all rows xs) (λ rs. push_all rs ys)
unfolding push_all
push-append rows [] ys = refl
push-append rows (None ∷ xs) ys = refl
push-append rows (Some r ∷ xs) ys =
    elim (ltb (length rows) 128) as (λ b. cond b (push_all (rows ++ r ∷ []) (xs ++ ys)) None ≡ bind (cond b (push_all (rows ++ r ∷ []) xs) None) (λ rs. push_all rs ys))
    [ true ↦ push-append (rows ++ r ∷ []) xs ys | false ↦ refl ]

module _ (f : Derived → List (Option Derived)) (a : List Derived) (xs : List Derived) (i : ℕ) where
  one : i < length xs → push_all a (flat_map f (drop i xs)) ≡ bind (push_all a (f (get_or xs i blank))) (λ rs. push_all rs (flat_map f (drop (i + 1) xs)))
  one h = ap (λ l. push_all a (flat_map f l)) (drop_more xs i blank h) ∙ push-append a (f (get_or xs i blank)) (flat_map f (drop (i + 1) xs))

  pub turn_on : (b : List Derived) → i < length xs → Some b ≡ push_all a (f (get_or xs i blank)) → push_all a (flat_map f (drop i xs)) ≡ push_all b (flat_map f (drop (i + 1) xs))
  turn_on b h k = one h ∙ ap (λ o. bind o (λ rs. push_all rs (flat_map f (drop (i + 1) xs)))) (sym k)

  pub turn-off : i < length xs → None ≡ push_all a (f (get_or xs i blank)) → push_all a (flat_map f (drop i xs)) ≡ None
  turn-off h k = one h ∙ ap (λ o. bind o (λ rs. push_all rs (flat_map f (drop (i + 1) xs)))) (sym k)

  pub turn_end : length xs ≤ i → push_all a (flat_map f (drop i xs)) ≡ Some a
  unfolding push_all
  turn_end h = ap (λ l. push_all a (flat_map f l)) (drop_all i xs h)

from_more : (q : ℕ) → q < 16 → from q ≡ q ∷ from (q + 1)
unfolding from
from_more q h =
    let e : 16 - q ≡ suc (16 - (q + 1)) = omega arith in
    ap (range_with_len q) e

module _ (q : ℕ) (rows : List Derived) where
  pub without_more : q < 16 → without_all (from q) rows ≡ bind (without q rows) (without_all (from (q + 1)))
  unfolding without_all
  without_more h = ap (λ l. without_all l rows) (from_more q h)

  pub leave-on : (left : List Derived) → q < 16 → Some left ≡ without q rows → without_all (from q) rows ≡ without_all (from (q + 1)) left
  leave-on left h k = without_more h ∙ ap (λ o. bind o (without_all (from (q + 1)))) (sym k)

  pub leave-off : q < 16 → None ≡ without q rows → without_all (from q) rows ≡ None
  leave-off h k = without_more h ∙ ap (λ o. bind o (without_all (from (q + 1)))) (sym k)

  pub leave-end : 16 ≤ q → without_all (from q) rows ≡ Some rows
  unfolding without_all from
  leave-end h =
      let e : 16 - q ≡ 0 = omega arith in
      ap (λ n. without_all (range_with_len q n) rows) e

module _ (a : List Derived) (facts : List Row) (goal : Row) (i : ℕ) where
  one-fact : (r : Row) → i < length facts → r ≡ get_or facts i r → push_all a (originals i (drop i facts) goal) ≡ bind (push_all a (fact_of i r)) (λ rs. push_all rs (originals (i + 1) (drop (i + 1) facts) goal))
  unfolding originals
  one-fact r h e =
      ap (λ l. push_all a (originals i l goal)) (drop_more facts i r h ∙ ap (λ s. s ∷ drop (i + 1) facts) (sym e)) ∙ push-append a (fact_of i r) (originals (i + 1) (drop (i + 1) facts) goal)

  pub fact-on : (b : List Derived) (r : Row) → i < length facts → r ≡ get_or facts i r → Some b ≡ push_all a (fact_of i r) → push_all a (originals i (drop i facts) goal) ≡ push_all b (originals (i + 1) (drop (i + 1) facts) goal)
  fact-on b r h e k = one-fact r h e ∙ ap (λ o. bind o (λ rs. push_all rs (originals (i + 1) (drop (i + 1) facts) goal))) (sym k)

  pub fact-off : (r : Row) → i < length facts → r ≡ get_or facts i r → None ≡ push_all a (fact_of i r) → push_all a (originals i (drop i facts) goal) ≡ None
  fact-off r h e k = one-fact r h e ∙ ap (λ o. bind o (λ rs. push_all rs (originals (i + 1) (drop (i + 1) facts) goal))) (sym k)

  pub fact-end : length facts ≤ i → push_all a (originals i (drop i facts) goal) ≡ push_all a (goal_of i goal)
  unfolding originals
  fact-end h = ap (λ l. push_all a (originals i l goal)) (drop_all i facts h)

pub first_is : (rows : List Derived) → option_map (λ r. r.times) (find (λ r. lt_z r.bound (pos 0)) rows) ≡ first_below rows
unfolding first_below
first_is [] = refl
first_is (r ∷ rs) =
    elim (lt_z r.bound (pos 0)) as (λ b. option_map (λ r. r.times) (cond b (Some r) (find (λ r. lt_z r.bound (pos 0)) rs)) ≡ cond b (Some r.times) (first_below rs))
    [ true ↦ refl | false ↦ first_is rs ]
