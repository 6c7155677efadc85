-- An obligation that is put to a prover and a domain: the answer is the definition's, and where it is good, the row follows.
use Rattle.std.proofs.Common.{◌≡◌, ℕ, ◌<◌, ◌≤◌, min, Bool, true, cond, ◌&&◌, T, List, length, take, ℤ, ◌≤ℤ◌, Some, None, Ok, Err, Option, Result, MatchResult, sym, refl, ap, ◌∙◌, subst, ap₂, arith}
use Rattle.std.specs.Prelude.{IsErrAnd, int_le}
use lib.Signed.{le_z_yes}
use Rattle.std.proofs.lemmas.Int.{ints}
use Rattle.std.proofs.lemmas.Option.{same_Some}
use Rattle.rows.specs.declared.row.Row.{Row}
use Rattle.rows.specs.Meaning.{Follows}
use Rattle.domains.specs.Faults.{Outcome}
use Rattle.asking.specs.declared.unproved.Unproved.{Unproved as Reason}
use Rattle.asking.specs.Answers.{Answer, tried, Proved, judged as judged_so}
use Rattle.language.specs.declared.refusal.Refusal.{Refusal}
use Rattle.language.specs.declared.refusal.Refusal.TheVariants.{Narrow}
use Rattle.language.specs.Walking.{Obligation}
use Rattle.language.specs.Drafts as Drafts
use Rattle.language.specs.Drafts.{judged, verified, asked, settle}
use Rattle.language.proofs.Tests.{both_left, both_right}
use Rattle.records.specs.declared.asked.Asked.{Asked}
use Rattle.records.specs.Owing.{Owes}
use Rattle.records.specs.Asking.{Asks}
use Rattle.engine.specs.declared.draft.Draft.{Draft}
use Rattle.engine.specs.Drafting.{DraftIs}
use Rattle.engine.specs.Settling.{unproved_at, Proven}
use Rattle.engine.proofs.Listings.{one_of}

-- why a question is unproved, as the refusal of an obligation at a place
abbrev pub reasoned : ℕ → Answer → Result (Unit {0}) Refusal
reasoned place (Ok u) = Ok u
reasoned place (Err why) = Err (unproved_at place why)

pub reasoned_is : (place : ℕ) (P : Reason → Refusal → Type 0) (a : Answer) (r : Result (Unit {0}) Refusal) → MatchResult a (λ u. r ≡ Ok u) (λ w. IsErrAnd r (P w)) → ((w : Reason) (y : Refusal) → P w y → y ≡ unproved_at place w) → r ≡ reasoned place a
reasoned_is place P (Ok u) r m sure = m
reasoned_is place P (Err w) r m sure = go r m
  where
    go : (r : Result (Unit {0}) Refusal) → IsErrAnd r (P w) → r ≡ Err (unproved_at place w)
    go (Ok u) h = absurd h
    go (Err y) h = ap Err (sure w y h)

reasoned_tried : (m : Drafts.Domain) (o : Obligation) (p : Option (List ℕ)) → reasoned o.place (tried p (m.outcome o.facts o.goal)) ≡ verified m o p
reasoned_tried m o None = refl
reasoned_tried m o (Some c) = go (m.outcome o.facts o.goal c)
  where
    go : (r : Outcome) → reasoned o.place (judged_so r) ≡ judged o.place r
    go (Ok u) = refl
    go (Err f) = refl

-- what was read back, with these facts, is this obligation's question
pub record Same (a : Asked) (rows : List Row) (o : Obligation) : Type 0 where
  pub place : a.place ≡ o.place
  pub facts : rows ≡ o.facts
  pub goal : a.goal ≡ o.goal

pub same_question : (a : Asked) (old new : List Row) (n : ℕ) (o : Obligation) → n ≡ min a.facts 24 → length o.facts ≤ 24 → Asks (Some a) old new o → Same a (take n new) o
same_question a old new n o e few asks =
    let s = same_Some _ _ asks.asked in
    let q : a.facts ≡ length o.facts = ap (λ (x : Asked). x.facts) s in
    let k : n ≡ length o.facts = omega (arith, e, q, few) in
    record { place = ap (λ (x : Asked). x.place) s; facts = ap (λ i. take i new) k ∙ asks.facts; goal = ap (λ (x : Asked). x.goal) s }

-- what follows in a range follows in one that it holds
narrowed : (low high l h : ℤ) (facts : List Row) (goal : Row) → low ≤ℤ l → h ≤ℤ high → Follows low high facts goal → Follows l h facts goal
narrowed low high l h facts goal below above f = record { follows = λ q w m. f.follows q (λ j k. let r = w j k in (omega (arith, ints), omega (arith, ints))) m }

module _ (draft : Draft) (n : ℕ) (m : Drafts.Domain) (p : Drafts.Prover) (a : Asked) (facts : List Row) (below : n < draft.sizes.owed) (same : (o : Obligation) → Owes draft.records.now n o → Same a facts o)
    (within : Bool) (yes : within ≡ true) (wide : within ≡ (int_le m.low draft.low && int_le draft.high m.high)) (answer : Answer) (r : Result (Unit {0}) Refusal) (is : r ≡ reasoned a.place answer) where
  is_wide : T (int_le m.low draft.low && int_le draft.high m.high)
  is_wide = subst T (sym yes ∙ wide) tt

  pub settles_so : answer ≡ tried (p.proposes facts a.goal) (m.outcome facts a.goal) → (d : Drafts.Draft) → DraftIs draft d → r ≡ settle d n m p
  settles_so value d of =
      let one = one_of draft d n of below in let o = one.obligation in let s = same o one.owes in
      is
      ∙ ap (reasoned a.place) value
      ∙ ap₂ (λ (fs : List Row) (g : Row). reasoned a.place (tried (p.proposes fs g) (m.outcome fs g))) s.facts s.goal
      ∙ ap (λ (i : ℕ). reasoned i (tried (p.proposes o.facts o.goal) (m.outcome o.facts o.goal))) s.place
      ∙ reasoned_tried m o (p.proposes o.facts o.goal)
      ∙ ap (λ (b : Bool). cond b (verified m o (p.proposes o.facts o.goal)) (Err Narrow)) (sym yes ∙ wide ∙ ap₂ (λ (l h : ℤ). int_le m.low l && int_le h m.high) of.low of.high)
      ∙ sym (ap (asked d.sheet m p) one.here)

  pub proves_so : (Proved answer → Follows m.low m.high facts a.goal) → Proven r draft n
  proves_so sound = subst (λ x. Proven x draft n) (sym is) (go answer sound)
    where
      go : (b : Answer) → (Proved b → Follows m.low m.high facts a.goal) → Proven (reasoned a.place b) draft n
      go (Ok u) f = (
        below,
        (λ o w. let s = same o w in
            narrowed m.low m.high draft.low draft.high o.facts o.goal (le_z_yes (both_left (int_le m.low draft.low) _ is_wide)) (le_z_yes (both_right (int_le m.low draft.low) _ is_wide))
            (subst (λ (g : Row). Follows m.low m.high o.facts g) s.goal (subst (λ (fs : List Row). Follows m.low m.high fs a.goal) s.facts (f tt)))),
      )
      go (Err why) f = tt
