-- Histories that go on, and what is answered after one.
use Rattle.std.specs.Prelude.{List, [], ◌++◌, Result}
use Rattle.language.specs.declared.refusal.Refusal.{Refusal}
use Rattle.language.specs.Drafts as Drafts
use Rattle.language.specs.Histories.{Step, draft_after, plain_after}
use Rattle.language.specs.Promise.{Answers}
use Rattle.engine.specs.declared.draft.Draft.{Draft}
use Rattle.engine.specs.Drafting.{DraftIs}

-- this is the draft that d is after a history which goes on from the one given
pub record After (new : Draft) (d : Drafts.Draft) (history : List Step) : Type 0 where
  pub more : List Step
  pub is : DraftIs new (draft_after d (history ++ more))

abbrev pub GoesOn : Draft → Draft → Drafts.Draft → Type 0
GoesOn old new d = (history : List Step) → DraftIs old (draft_after d history) → After new d history

-- the answer is Ready's, by the plain list of some history
pub record AnswersSome (answer : Result (Unit {0}) Refusal) (sheet : Drafts.Sheet) : Type 0 where
  pub history : List Step
  pub answers : Answers sheet (plain_after sheet [] history) answer
