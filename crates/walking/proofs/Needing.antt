-- Lengths that are at least 0 become facts one after another, and then the needs.
use Rattle.std.proofs.Common.{◌≡◌, ℕ, ◌+◌, ◌<◌, ◌≤◌, List, [], ◌∷◌, ◌++◌, map, length, get_or, drop, pos, Ok, Err, Option, Result, sym, ap, ◌∙◌, subst}
use Rattle.std.proofs.lemmas.List.{drop_more, drop_all, append_assoc}
use Rattle.rows.specs.declared.row.Row.{Row}
use Rattle.language.specs.declared.refusal.Refusal.{Refusal}
use Rattle.language.specs.declared.term.Term.{Term}
use Rattle.language.specs.Comparing.{at_most}
use Rattle.language.specs.Terms.{zero_term}
use Rattle.language.specs.Tree.{Condition}
use Rattle.language.specs.Walking.{Known, assume, assume_all}
use Rattle.language.proofs.Laws.{fault-first, fault-next}
use Rattle.walking.specs.Knowing.{Took}
use Rattle.walking.specs.Starting.{lengths_known, needs_known}
use Rattle.walking.proofs.Knowings.{took-then, took-stop, took-none, one-more}
use Rattle.walking.proofs.Taking.{facts-more}

module _ (place : ℕ) (ls : List Term) (i : ℕ) (now : List Row) where
  -- the first length, and then the others
  lengths-here : (d : Term) → i < length ls → lengths_known place now (drop i ls) ≡ assume place now (at_most (pos 0) zero_term (get_or ls i d) ∷ map (at_most (pos 0) zero_term) (drop (i + 1) ls))
  lengths-here d h = ap (λ xs. lengths_known place now xs) (drop_more ls i d h)

  pub lengths_turn : (d none : Term) (o : Option Row) (r : Result (Unit {0}) Refusal) (here after : List Row) → i < length ls → none ≡ zero_term → o ≡ at_most (pos 0) none (get_or ls i d) → Took (Ok tt) (assume place now (o ∷ [])) now here → Took r (lengths_known place here (drop (i + 1) ls)) here after
      → Took r (lengths_known place now (drop i ls)) now after
  lengths_turn d none o r here after h z e one t =
      let m = one-more place now o in let rest = map (at_most (pos 0) zero_term) (drop (i + 1) ls) in
      subst (λ (k : Known). Took r k now after) (ap (λ o. assume place now (o ∷ rest)) (e ∙ ap (λ z. at_most (pos 0) z (get_or ls i d)) z) ∙ sym (lengths-here d h))
      (took-then place now tt r o rest here after (m.0, one.1 ∙ m.1) one t)

  pub lengths_stop : (d none : Term) (o : Option Row) (r : Refusal) (after : List Row) → i < length ls → none ≡ zero_term → o ≡ at_most (pos 0) none (get_or ls i d) → Took (Err r) (assume place now (o ∷ [])) now after → Took (Err r) (lengths_known place now (drop i ls)) now after
  lengths_stop d none o r after h z e one =
      let rest = map (at_most (pos 0) zero_term) (drop (i + 1) ls) in
      subst (λ (k : Known). Took (Err r) k now after) (ap (λ o. assume place now (o ∷ rest)) (e ∙ ap (λ z. at_most (pos 0) z (get_or ls i d)) z) ∙ sym (lengths-here d h))
      (took-stop place now r o rest after one)

  pub lengths_done : length ls ≤ i → Took (Ok tt) (lengths_known place now (drop i ls)) now now
  lengths_done h = subst (λ (xs : List Term). Took (Ok tt) (lengths_known place now xs) now now) (sym (drop_all i ls h)) (took-none place now)

-- the needs, after the lengths
module _ (place : ℕ) (facts : List Row) (ts ls : List Term) (cs : List Condition) where
  pub needs_first : (r : Refusal) (after : List Row) → Took (Err r) (lengths_known place facts ls) facts after → Took (Err r) (needs_known place facts ts ls cs) facts after
  needs_first r after t = (fault-first (lengths_known place facts ls).notes _ r t.0, t.1)

  pub needs_next : (r : Result (Unit {0}) Refusal) (none : Term) (here after : List Row) → none ≡ zero_term → Took (Ok tt) (lengths_known place facts ls) facts here → Took r (assume_all (λ c. c.place) ts none here cs) here after → Took r (needs_known place facts ts ls cs) facts after
  needs_next r none here after z a b = go r (subst (λ z. Took r (assume_all (λ c. c.place) ts z (lengths_known place facts ls).facts cs) here after) z (subst (λ fs. Took r (assume_all (λ c. c.place) ts none fs cs) here after) a.1 b))
    where
      k : Known
      k = lengths_known place facts ls

      go : (r : Result (Unit {0}) Refusal) → Took r (assume_all (λ c. c.place) ts zero_term k.facts cs) here after → Took r (needs_known place facts ts ls cs) facts after
      go (Ok v) t = (fault-next k.notes _ a.0 ∙ t.0, t.1)
      go (Err e) t =
          let m = facts-more place facts (map (at_most (pos 0) zero_term) ls) in
          (fault-next k.notes _ a.0 ∙ t.0, (m.0 ++ t.1.0, t.1.1 ∙ ap (λ xs. xs ++ t.1.0) (a.1 ∙ m.1) ∙ append_assoc facts m.0 t.1.0))
