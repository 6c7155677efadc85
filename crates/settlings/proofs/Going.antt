-- Settlings one after the other go on with a history.
use Rattle.std.proofs.Common.{◌≡◌, ℕ, List, [], ◌∷◌, ◌++◌, ℤ, Ok, Result, sym, subst, append-nil, append_assoc}
use Rattle.language.specs.declared.refusal.Refusal.{Refusal}
use Rattle.language.specs.Tree.{Rule}
use Rattle.language.specs.Drafts as Drafts
use Rattle.language.specs.Drafts.{sheet_of, draft_of}
use Rattle.language.specs.Histories.{Step, draft_after}
use Rattle.reading.specs.Reading.{Reads}
use Rattle.engine.specs.declared.draft.Draft.{Draft}
use Rattle.engine.specs.Drafting.{DraftIs}
use Rattle.engine.specs.Taking.{taken, Made}
use Rattle.engine.specs.Promised.{Promised}
use Rattle.settlings.specs.More.{GoesOn, AnswersSome}

pub stays : (draft : Draft) (d : Drafts.Draft) → GoesOn draft draft d
stays draft d history is = record { more = []; is = subst (λ h. DraftIs draft (draft_after d h)) (sym (append-nil history)) is }

pub one_more : (first old new : Draft) (d : Drafts.Draft) (step : Step) → GoesOn first old d → ((history : List Step) → DraftIs old (draft_after d history) → DraftIs new (draft_after d (history ++ step ∷ []))) → GoesOn first new d
one_more first old new d step on steps history is =
    let a = on history is in
    record { more = a.more ++ step ∷ []; is = subst (λ h. DraftIs new (draft_after d h)) (append_assoc history a.more (step ∷ [])) (steps (history ++ a.more) a.is) }

begins : (draft : Draft) (d : Drafts.Draft) → DraftIs draft d → DraftIs draft (draft_after d [])
unfolding draft_after
begins draft d is = is

pub ready_after : (text : List ℕ) (lo hi low high : ℤ) → lo ≡ low → hi ≡ high → (n : ℕ) (first last : Draft) (answer : Result (Unit {0}) Refusal) (rules : List Rule) → Made first text lo hi n → ((d : Drafts.Draft) → GoesOn first last d)
    → ((low high : ℤ) (rules : List Rule) (history : List Step) → DraftIs last (draft_after (draft_of (sheet_of low high rules)) history) → Promised answer last (sheet_of low high rules) history)
    → Reads text low high n (Ok rules) → AnswersSome answer (sheet_of low high rules)
ready_after text lo hi low high l h n first last answer rules made on promised reads =
    let m : Made first text low high n = subst (λ z. Made first text z high n) l (subst (λ z. Made first text lo z n) h made) in
    let d = draft_of (sheet_of low high rules) in
    let is : DraftIs first d = subst (λ a. DraftIs first (draft_of (taken low high a))) (sym (m.only (Ok rules) reads)) m.is in
    let a = on d [] (begins first d is) in
    record { history = a.more; answers = (promised low high rules a.more a.is).answers }
