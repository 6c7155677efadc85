-- What fine notes give: no limit was met, guards hold, and settled checks pass.
use Rattle.std.proofs.Common.{◌≡◌, ℕ, suc, ◌<◌, Bool, true, false, T, ltb, List, [], ◌∷◌, ◌++◌, map, ℤ, pos, ◌≤ℤ◌, Some, None, Option, refl, arith, ltb→lt}
use lib.Signed.{le_z, lt_z}
use Rattle.std.specs.List.{AllByRecursion}
use Rattle.std.proofs.lemmas.Int.{ints}
use Rattle.rows.specs.declared.row.Row.{Row}
use Rattle.rows.specs.Meaning.{Assignment, Within, MeetsAll, Follows}
use Rattle.language.specs.declared.term.Term.{Term}
use Rattle.language.specs.declared.check.Check.TheVariants.{Below, Above}
use Rattle.language.specs.declared.duty.Duty.TheVariants.{Check, Guard}
use Rattle.language.specs.declared.refusal.Refusal.{Refusal}
use Rattle.language.specs.Tree.{Condition, Site}
use Rattle.language.specs.Terms.{zero_term, worth}
use Rattle.language.specs.Comparing.{at_most, satisfied, condition_rows, conditions_rows}
use Rattle.language.specs.Walking.{Note, owes, fault, Stand, limit, owe, owe_all, owe_checks, fresh, fresh_with, or_fresh, Mode, infer, check, join}
use Rattle.language.specs.Running.{Dropped}
use Rattle.language.specs.Drafts.{is_guard}
use Rattle.language.proofs.Worths.{worth-constant}
use Rattle.language.proofs.Comparisons.{Surely, at-most-met, condition-to}

pub all_left : {A : Type 0} (P : A → Type 0) (l r : List A) → AllByRecursion P (l ++ r) → AllByRecursion P l
all_left P [] r h = tt
all_left P (x ∷ xs) r h = (h.0, all_left P xs r h.1)

pub all_right : {A : Type 0} (P : A → Type 0) (l r : List A) → AllByRecursion P (l ++ r) → AllByRecursion P r
all_right P [] r h = h
all_right P (x ∷ xs) r h = all_right P xs r h.1

-- S is settled in the range: an obligation is fine if it is settled where it is a guard, and follows where it is settled; no fault is
abbrev pub Fine : ℤ → ℤ → Dropped → Note → Type 0
Fine low high S (owes o work) = (T (is_guard o.duty) → T (S o.number)) × (T (S o.number) → Follows low high o.facts o.goal)
Fine low high S (fault r) = ⊥

module _ (low high : ℤ) (S : Dropped) where
  pub limit-met : (b : Bool) (r : Refusal) → AllByRecursion (Fine low high S) (limit b r) → T b
  unfolding limit
  limit-met true r h = tt
  limit-met false r h = h.0

  pub fresh-notes : (place : ℕ) (s : Stand) (notes : List Note) → AllByRecursion (Fine low high S) (fresh place s notes).notes → AllByRecursion (Fine low high S) notes
  unfolding fresh
  fresh-notes place s notes h = all_left (Fine low high S) notes _ h

  pub fresh-room : (place : ℕ) (s : Stand) (notes : List Note) → AllByRecursion (Fine low high S) (fresh place s notes).notes → s.next < 16
  unfolding fresh
  fresh-room place s notes h = ltb→lt s.next 16 (limit-met (ltb s.next 16) _ (all_right (Fine low high S) notes _ h))

  pub with-fresh : (place : ℕ) (ts : List Term) (cs : List Condition) (s : Stand) (notes : List Note) → AllByRecursion (Fine low high S) (fresh_with place ts cs s notes).notes → AllByRecursion (Fine low high S) (fresh place s notes).notes
  unfolding fresh_with
  with-fresh place ts cs s notes h = all_left (Fine low high S) (fresh place s notes).notes _ h

  pub or-fresh-notes : (place : ℕ) (t : Option Term) (s : Stand) (notes : List Note) → AllByRecursion (Fine low high S) (or_fresh place t s notes).notes → AllByRecursion (Fine low high S) notes
  unfolding or_fresh
  or-fresh-notes place None s notes h = fresh-notes place s notes h
  or-fresh-notes place (Some t) s notes h = h

  pub join-notes : (m : Mode) (place : ℕ) (s : Stand) (notes : List Note) → AllByRecursion (Fine low high S) (join m place s notes).notes → AllByRecursion (Fine low high S) notes
  unfolding join
  join-notes infer place s notes h = fresh-notes place s notes h
  join-notes (check ts cs) place s notes h = h

  module _ (q : Assignment) (range : Within low high q) where
    -- guards
    owed-holds : (place : ℕ) (F : List Row) → MeetsAll q F → (k : ℕ) (o : Option Row) → AllByRecursion (Fine low high S) (owe Guard place place F k o).notes → Surely q o
    unfolding owe
    owed-holds place F f k None h = absurd h.0
    owed-holds place F f k (Some r) h = record { row = r; made = refl; met = (h.0.1 (h.0.0 tt)).follows q range f }

    guards-hold : (place : ℕ) (F : List Row) → MeetsAll q F → (k : ℕ) (rs : List (Option Row)) → AllByRecursion (Fine low high S) (owe_all place F k rs).notes → AllByRecursion (Surely q) rs
    unfolding owe_all
    guards-hold place F f k [] h = tt
    guards-hold place F f k (r ∷ rs) h =
        let o = owe Guard place place F k r in
        (owed-holds place F f k r (all_left (Fine low high S) o.notes _ h), guards-hold place F f o.count rs (all_right (Fine low high S) o.notes _ h))

    rows-satisfied : (ts : List Term) (r : Term) (xs : List ℤ) (v : ℤ) → map (worth q) ts ≡ xs → worth q r ≡ v → (cs : List Condition) → AllByRecursion (Surely q) (conditions_rows ts r cs) → AllByRecursion (λ c. T (satisfied xs v c)) cs
    rows-satisfied ts r xs v ex ev [] h = tt
    rows-satisfied ts r xs v ex ev (c ∷ cs) h =
        (condition-to q ts r xs v ex ev c (all_left (Surely q) (condition_rows ts r c) _ h), rows-satisfied ts r xs v ex ev cs (all_right (Surely q) (condition_rows ts r c) _ h))

    pub conditions-hold : (place : ℕ) (F : List Row) → MeetsAll q F → (k : ℕ) (ts : List Term) (r : Term) (xs : List ℤ) (v : ℤ) → map (worth q) ts ≡ xs → worth q r ≡ v
        → (cs : List Condition) → AllByRecursion (Fine low high S) (owe_all place F k (conditions_rows ts r cs)).notes → AllByRecursion (λ c. T (satisfied xs v c)) cs
    conditions-hold place F f k ts r xs v ex ev cs h = rows-satisfied ts r xs v ex ev cs (guards-hold place F f k (conditions_rows ts r cs) h)

    -- checks
    pub record Passing (k : ℕ) (t u : Term) : Type 0 where
      pub below : T (S k) → T (le_z (pos 0) (worth q t))
      pub above : T (S (suc k)) → T (lt_z (worth q t) (worth q u))

    two-pass : (place work : ℕ) (F : List Row) → MeetsAll q F → (k : ℕ) (t u : Term) (x y : Option Row) → at_most (pos 0) zero_term t ≡ x → at_most (pos 1) t u ≡ y
        → AllByRecursion (Fine low high S) ((owe (Check Below) place work F k x).notes ++ (owe (Check Above) place work F (owe (Check Below) place work F k x).count y).notes) → Passing k t u
    unfolding owe
    two-pass place work F f k t u None y ex ey h = absurd h.0
    two-pass place work F f k t u (Some r) None ex ey h = absurd h.1.0
    two-pass place work F f k t u (Some r) (Some p) ex ey h = record {
      below = λ z.
          let a = at-most-met (pos 0) zero_term t r ex q ((h.0.1 z).follows q range f) in
          let e = worth-constant q (pos 0) in
          let b : pos 0 ≤ℤ worth q t = omega (arith, ints) in
          b.le;
      above = λ z.
          let a = at-most-met (pos 1) t u p ey q ((h.1.0.1 z).follows q range f) in
          grind (arith, ints);
    }

    pub checks-pass : (site : Site) (work : ℕ) (s : Stand) (t u : Term) → MeetsAll q s.facts → AllByRecursion (Fine low high S) (owe_checks site work s t u).notes → Passing s.count t u
    unfolding owe_checks
    checks-pass site work s t u f h = two-pass site.place work s.facts f s.count t u (at_most (pos 0) zero_term t) (at_most (pos 1) t u) refl refl h
