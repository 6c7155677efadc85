-- What holds of Ready's answer after a history.
use Rattle.std.specs.Prelude.{◌≡◌, ℕ, T, ◌↔◌, List, [], Result}
use Rattle.language.specs.declared.refusal.Refusal.{Refusal}
use Rattle.language.specs.Drafts.{Sheet, marked}
use Rattle.language.specs.Histories.{Step, plain_after, on}
use Rattle.language.specs.Promise.{HadGood, Answers}
use Rattle.engine.specs.declared.draft.Draft.{Draft}

-- the plain list has what had a good settling, the draft marks just those, and the answer is yes if every guard is on it, else the first that is not
pub record Promised (answer : Result (Unit {0}) Refusal) (draft : Draft) (sheet : Sheet) (history : List Step) : Type 0 where
  pub listed : (n : ℕ) → T (on (plain_after sheet [] history) n) ↔ HadGood sheet n history
  pub marks : (n : ℕ) → marked draft.marks n ≡ on (plain_after sheet [] history) n
  pub answers : Answers sheet (plain_after sheet [] history) answer
