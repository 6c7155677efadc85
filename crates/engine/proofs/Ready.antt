-- Ready's answer, and what it says after a history.
use Rattle.std.proofs.Common.{◌≡◌, ◌-◌, List, [], length, ℤ, Option, sym, ap, ◌∙◌, subst}
use Rattle.language.specs.declared.refusal.Refusal.{Refusal}
use Rattle.language.specs.Tree.{Rule}
use Rattle.language.specs.Walking.{Obligation}
use Rattle.language.specs.Drafts as Drafts
use Rattle.language.specs.Drafts.{Sheet, sheet_of, draft_of, first_open, marked, answered, readiness}
use Rattle.language.specs.Histories.{Step, draft_after, plain_after}
use Rattle.language.specs.Promise.{Answers}
use Rattle.language.proofs.Theorem.{theorem}
use Rattle.records.specs.Owing.{OwesAll}
use Rattle.engine.specs.declared.draft.Draft.{Draft}
use Rattle.engine.specs.Drafting.{DraftIs}
use Rattle.engine.specs.Promised.{Promised}
use Rattle.engine.proofs.Marks.{marked_front}
use Rattle.engine.proofs.Opened.{same_open}

module _ (draft : Draft) (found : Option Refusal) (search_is : (os : List Obligation) → length os ≡ draft.sizes.owed → OwesAll draft.records.now os → found ≡ first_open 0 os (marked draft.marks)) where
  pub ready_is : (d : Drafts.Draft) → DraftIs draft d → answered found ≡ readiness d
  ready_is d is =
      ap answered
      (search_is d.sheet.obligations (sym is.holds.owed) is.holds.owes
      ∙ same_open 0 d.sheet.obligations (marked draft.marks) (marked d.marks) (λ n. marked_front draft.marks d.marks (128 - length d.marks) n is.marks))

  pub ready_promised : (low high : ℤ) (rules : List Rule) (history : List Step) → DraftIs draft (draft_after (draft_of (sheet_of low high rules)) history) → Promised (answered found) draft (sheet_of low high rules) history
  ready_promised low high rules history is =
      let kept = theorem low high rules history in
      let d = draft_after (draft_of (sheet_of low high rules)) history in record {
        listed = kept.listed;
        marks = λ n. marked_front draft.marks d.marks (128 - length d.marks) n is.marks ∙ kept.marks n;
        answers = subst (Answers (sheet_of low high rules) (plain_after (sheet_of low high rules) [] history)) (sym (ready_is d is)) kept.answer;
      }
