-- The entry of a run: what it tests is what a rule is entered with, and the two runs of an open book agree.
use Rattle.std.proofs.Common.{◌≡◌, ℕ, zero, suc, ◌+◌, Bool, true, false, cond, not, T, ltb, leb, List, [], ◌∷◌, map, length, ℤ, pos, ◌≤ℤ◌, Some, None, filter, Option, sym, refl, ap, ◌∙◌, subst, arith, leb→le}
use lib.Signed.{le_z}
use Rattle.std.specs.List.{AllByRecursion}
use Rattle.std.proofs.ByRecursion.{All-weaker}
use Rattle.std.proofs.lemmas.Int.{ints}
use Rattle.std.proofs.lemmas.Bool.{true≢false, false≢true}
use Rattle.std.proofs.lemmas.Option.{none-some}
use Rattle.language.specs.declared.part.Part.{Part}
use Rattle.language.specs.Tree.{Condition, Param, a_number, a_list, Rule, rule_at, at_lists}
use Rattle.language.specs.Comparing.{satisfied}
use Rattle.language.specs.Running.{Event, came, called, returned, Outcome, done, stop, wild, Ran, in_range, Dropped, part_at, length_of, Program, run, made_in}
use Rattle.language.specs.Drafts.{Sheet}
use Rattle.language.specs.Histories.{on}
use Rattle.language.specs.Entering.{gathered, every, part_fits, allowed, first_broken, end_of, program_of, run_rule, run_if_met, run_if_allowed, run_if_callable, values_for}
use Rattle.language.specs.Promise.{Sound, DropsListed, Agrees}
use Rattle.language.proofs.Same.{as_book, full, Ends, Both}
use Rattle.language.proofs.Induction.{Good, PartOk, Inputs, BodyOk, run_sound, enter-sound}
use Rattle.language.proofs.Tests.{both-from, both_left, both_right, cond-some}

every-all : {A : Type 0} (p : A → Bool) (xs : List A) → T (every p xs) → AllByRecursion (λ x. T (p x)) xs
unfolding every
every-all p [] h = tt
every-all p (x ∷ xs) h = (both_left (p x) _ h, every-all p xs (both_right (p x) _ h))

-- the values that are gathered for a rule's names
record Gathered (low high : ℤ) (qs : List Param) (xs : List ℤ) (ps : List Part) (vs : List ℤ) : Type 0 where
  count : length vs ≡ length qs
  lengths : at_lists qs vs ≡ map length_of ps
  fits : AllByRecursion (λ x. T (in_range low high x)) xs → AllByRecursion (λ p. T (in_range low high (length_of p))) ps → AllByRecursion (λ x. T (in_range low high x)) vs

gathered-is : (low high : ℤ) (qs : List Param) (xs : List ℤ) (ps : List Part) (vs : List ℤ) → gathered qs xs ps ≡ Some vs → Gathered low high qs xs ps vs
unfolding gathered at_lists
gathered-is low high [] [] [] vs e = let n : [] ≡ vs = cc in subst (λ (l : List ℤ). Gathered low high [] [] [] l) n (record { count = refl; lengths = refl; fits = λ a b. tt })
gathered-is low high [] (x ∷ xs) ps vs e = absurd (none-some vs e)
gathered-is low high [] [] (p ∷ ps) vs e = absurd (none-some vs e)
gathered-is low high (a_number ∷ qs) [] ps vs e = absurd (none-some vs e)
gathered-is low high (a_number ∷ qs) (x ∷ xs) ps vs e = go (gathered qs xs ps) (gathered-is low high qs xs ps) e
  where
    go : (o : Option (List ℤ)) → ((ws : List ℤ) → o ≡ Some ws → Gathered low high qs xs ps ws) → elim o [ None ↦ None | Some ws ↦ Some (x ∷ ws) ] ≡ Some vs → Gathered low high (a_number ∷ qs) (x ∷ xs) ps vs
    go None f e = absurd (none-some vs e)
    go (Some ws) f e =
        let g = f ws refl in
        let n : x ∷ ws ≡ vs = cc in
        subst (λ (l : List ℤ). Gathered low high (a_number ∷ qs) (x ∷ xs) ps l) n (record { count = ap suc g.count; lengths = g.lengths; fits = λ a b. (a.0, g.fits a.1 b) })
gathered-is low high (a_list ∷ qs) xs [] vs e = absurd (none-some vs e)
gathered-is low high (a_list ∷ qs) xs (p ∷ ps) vs e = go (gathered qs xs ps) (gathered-is low high qs xs ps) e
  where
    go : (o : Option (List ℤ)) → ((ws : List ℤ) → o ≡ Some ws → Gathered low high qs xs ps ws) → elim o [ None ↦ None | Some ws ↦ Some (length_of p ∷ ws) ] ≡ Some vs → Gathered low high (a_list ∷ qs) xs (p ∷ ps) vs
    go None f e = absurd (none-some vs e)
    go (Some ws) f e =
        let g = f ws refl in
        let n : length_of p ∷ ws ≡ vs = cc in
        subst (λ (l : List ℤ). Gathered low high (a_list ∷ qs) xs (p ∷ ps) l) n (record { count = ap suc g.count; lengths = ap (λ (l : List ℤ). length_of p ∷ l) g.lengths; fits = λ a b. (b.0, g.fits a b.1) })

-- a part that is allowed
part-ok : (R : List Rule) (P : Program) (S : Dropped) (size : ℕ) → P.low ≤ℤ pos 0 → (p : Part) → T (part_fits P.high size p) → PartOk R P S size p
part-ok R P S size z p h = record {
  inside = leb→le (p.start + p.length) size (both_left (leb (p.start + p.length) size) _ h);
  fits = both-from (le_z P.low (length_of p)) _ (let l : P.low ≤ℤ length_of p = omega (arith, ints) in l.le) (both_right (leb p.length 4096) _ (both_right (leb (p.start + p.length) size) _ h));
}

met-needs : (k : ℕ) (xs : List ℤ) (cs : List Condition) → first_broken k xs cs ≡ None → AllByRecursion (λ c. T (satisfied xs (pos 0) c)) cs
unfolding first_broken
met-needs k xs [] e = tt
met-needs k xs (c ∷ cs) e = go (satisfied xs (pos 0) c) (met-needs (suc k) xs cs) e
  where
    go : (b : Bool) → (first_broken (suc k) xs cs ≡ None → AllByRecursion (λ c. T (satisfied xs (pos 0) c)) cs) → cond b (first_broken (suc k) xs cs) (Some k) ≡ None → T b × AllByRecursion (λ c. T (satisfied xs (pos 0) c)) cs
    go true f e = (tt, f e)
    go false f e = absurd (none-some k (sym e))

-- a run that drops S, which the list has, and the full run
module _ (sheet : Sheet) (list : List ℕ) (S : Dropped) (same : (n : ℕ) → S n ≡ on list n) where
  made_one : (n : ℕ) (passes : Bool) (es : List Event) (b c : Bool) → b ≡ c → made_in (came n (not b) passes ∷ es) ≡ cond (not c) (n ∷ made_in es) (made_in es)
  unfolding made_in
  made_one n passes es true true e = refl
  made_one n passes es false false e = refl
  made_one n passes es true false e = absurd (true≢false e)
  made_one n passes es false true e = absurd (false≢true e)

  made_kept : (log : List Event) → AllByRecursion (Good sheet.rules S) log → made_in (map (as_book S) log) ≡ filter (λ n. not (on list n)) (made_in log)
  unfolding made_in
  made_kept [] h = refl
  made_kept (came n true passes ∷ es) h =
      made_one n passes (map (as_book S) es) (S n) (on list n) (same n) ∙ ap (λ (l : List ℕ). cond (not (on list n)) (n ∷ l) l) (made_kept es h.1)
  made_kept (came n false passes ∷ es) h = absurd (false≢true h.0.0)
  made_kept (called f xs ∷ es) h = made_kept es h.1
  made_kept (returned f xs v ∷ es) h = made_kept es h.1

  sound : (e : Event) → Good sheet.rules S e → Sound sheet list e
  sound (came n made passes) h = (h.0, λ t. h.1 (subst T (sym (same n)) t))
  sound (called f xs) h = h
  sound (returned f xs v) h = h

  drops : (log : List Event) → AllByRecursion (DropsListed list) (map (as_book S) log)
  drops [] = tt
  drops (came n made passes ∷ es) = (ap not (same n), drops es)
  drops (called f xs ∷ es) = (tt, drops es)
  drops (returned f xs v ∷ es) = (tt, drops es)

  ends-agree : (N fuel : ℕ) (Q : ℤ → Type 0) (o p : Ran ℤ) → Both S N (Good sheet.rules S) Q o p → Agrees sheet list (end_of fuel o) (end_of fuel p)
  ends-agree N fuel Q o p h = subst (λ (x : Outcome ℤ). Agrees sheet list (end_of fuel (record { log = o.log; outcome = x })) (end_of fuel p)) (sym h.same) (go p.outcome h.post)
    where
      made : made_in o.log ≡ filter (λ n. not (on list n)) (made_in p.log)
      made = ap made_in h.log ∙ made_kept p.log h.good

      good : AllByRecursion (Sound sheet list) p.log
      good = All-weaker (Good sheet.rules S) (Sound sheet list) sound p.log h.good

      dropped : AllByRecursion (DropsListed list) o.log
      dropped = subst (AllByRecursion (DropsListed list)) (sym h.log) (drops p.log)

      go : (x : Outcome ℤ) → Ends N Q x → Agrees sheet list (end_of fuel (record { log = o.log; outcome = x })) (end_of fuel (record { log = p.log; outcome = x }))
      go (done v s) t = (record { kind = refl; value = refl; place = refl; steps = refl; book_checks = refl; full_checks = refl; cells = refl; made = made }, good, dropped)
      go (stop kind place s) t = (record { kind = refl; value = refl; place = refl; steps = refl; book_checks = refl; full_checks = refl; cells = refl; made = made }, good, dropped)
      go wild t = t

  module _ (low : sheet.low ≤ℤ pos 0) (zero_fits : T (in_range sheet.low sheet.high (pos 0)))
      (bodies : (N f : ℕ) → T (ltb f (length sheet.rules)) → BodyOk sheet.rules (program_of sheet) S N f) where
    pub runs-agree : (f fuel : ℕ) (xs : List ℤ) (ps : List Part) (cells : List ℤ)
        → Agrees sheet list (run_if_callable (values_for sheet.rules f xs ps) sheet S f fuel xs ps cells) (run_if_callable (values_for sheet.rules f xs ps) sheet full f fuel xs ps cells)
    runs-agree f fuel xs ps cells = callable-agree (values_for sheet.rules f xs ps) refl
      where
        entered : (vs : List ℤ) → values_for sheet.rules f xs ps ≡ Some vs → T (allowed sheet.low sheet.high fuel xs ps cells)
            → first_broken 0 vs (rule_at sheet.rules f).needs ≡ None → Inputs sheet.rules (program_of sheet) S (length cells) f vs ps
        entered vs e a b =
            let w = cond-some (ltb f (length sheet.rules)) (gathered (rule_at sheet.rules f).params xs ps) vs e in
            let g = gathered-is sheet.low sheet.high (rule_at sheet.rules f).params xs ps vs w.1 in
            let a₁ = both_right (leb fuel 1000000) _ a in
            let a₂ = both_right (every (in_range sheet.low sheet.high) xs) _ a₁ in
            let parts = every-all (part_fits sheet.high (length cells)) ps (both_right (every (in_range sheet.low sheet.high) cells) _ a₂) in
            let oks = All-weaker _ (PartOk sheet.rules (program_of sheet) S (length cells)) (part-ok sheet.rules (program_of sheet) S (length cells) low) ps parts in
            record {
              exists = w.0;
              count = g.count;
              lengths = g.lengths;
              fits = g.fits (every-all (in_range sheet.low sheet.high) xs (both_left (every (in_range sheet.low sheet.high) xs) _ a₁)) (All-weaker (PartOk sheet.rules (program_of sheet) S (length cells)) _ (λ p k. k.fits) ps oks);
              parts = at ps oks;
              needs = met-needs 0 vs (rule_at sheet.rules f).needs b;
            }
          where
            at : (ps : List Part) → AllByRecursion (PartOk sheet.rules (program_of sheet) S (length cells)) ps → (j : ℕ) → PartOk sheet.rules (program_of sheet) S (length cells) (part_at ps j)
            at [] h j = record { inside = omega arith; fits = zero_fits }
            at (p ∷ ps) h zero = h.0
            at (p ∷ ps) h (suc j) = at ps h.1 j

        run_agree : (vs : List ℤ) → Inputs sheet.rules (program_of sheet) S (length cells) f vs ps → Agrees sheet list (run_rule sheet S f fuel vs ps cells) (run_rule sheet full f fuel vs ps cells)
        run_agree vs i =
            ends-agree (length cells) fuel _ _ _
            ((enter-sound sheet.rules (program_of sheet) S (length cells) zero_fits (bodies (length cells)) (run (program_of sheet) S 2000) (run (program_of sheet) full 2000)
            (run_sound sheet.rules (program_of sheet) S (length cells) zero_fits (bodies (length cells)) 2000) f vs ps i).from (record { fuel = fuel; cells = cells }) refl)

        met-agree : (vs : List ℤ) → values_for sheet.rules f xs ps ≡ Some vs → T (allowed sheet.low sheet.high fuel xs ps cells) → (o : Option ℕ) → first_broken 0 vs (rule_at sheet.rules f).needs ≡ o
            → Agrees sheet list (run_if_met o sheet S f fuel vs ps cells) (run_if_met o sheet full f fuel vs ps cells)
        met-agree vs e a (Some k) b = refl
        met-agree vs e a None b = run_agree vs (entered vs e a b)

        allowed-agree : (vs : List ℤ) → values_for sheet.rules f xs ps ≡ Some vs → (b : Bool) → allowed sheet.low sheet.high fuel xs ps cells ≡ b
            → Agrees sheet list (run_if_allowed b sheet S f fuel vs ps cells) (run_if_allowed b sheet full f fuel vs ps cells)
        allowed-agree vs e false a = refl
        allowed-agree vs e true a = met-agree vs e (subst T (sym a) tt) (first_broken 0 vs (rule_at sheet.rules f).needs) refl

        callable-agree : (o : Option (List ℤ)) → values_for sheet.rules f xs ps ≡ o → Agrees sheet list (run_if_callable o sheet S f fuel xs ps cells) (run_if_callable o sheet full f fuel xs ps cells)
        callable-agree None e = refl
        callable-agree (Some vs) e = allowed-agree vs e (allowed sheet.low sheet.high fuel xs ps cells) refl
