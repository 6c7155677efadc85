-- The soundness promise, undivided: for every sheet, range and history, what is settled, when a book is open, and what then holds of every run.
use Rattle.std.specs.Prelude.{◌≡◌, ℕ, ◌<◌, true, not, T, ◌⊎◌, ◌↔◌, List, [], ◌∷◌, length, ℤ, pos, Some, Ok, Err, filter, Result}
use Rattle.std.specs.List.{slice_get, AllByRecursion}
use Rattle.domains.specs.Faults.{Good}
use Rattle.language.specs.declared.part.Part.{Part}
use Rattle.language.specs.declared.refusal.Refusal.{Refusal}
use Rattle.language.specs.declared.refusal.Refusal.TheVariants.{Closed}
use Rattle.language.specs.declared.ending.End.{End}
use Rattle.language.specs.Tree.{Rule, rule_at}
use Rattle.language.specs.Comparing.{satisfied}
use Rattle.language.specs.Walking.{Obligation}
use Rattle.language.specs.Running.{Event, came, called, returned, made_in}
use Rattle.language.specs.Drafts.{Sheet, Draft, sheet_of, draft_of, Domain, Prover, wide, is_guard, marked, readiness, clear}
use Rattle.language.specs.Histories.{Step, settling, ready, draft_after, plain_after, on}
use Rattle.language.specs.Entering.{Answer, refused, ended, astray, book_run, full_run}

-- A settling is good if the number is an obligation's, the domain's range holds the sheet's, and the prover proposes for its
-- question a certificate whose outcome in the domain is good.
pub record GoodSettling (sheet : Sheet) (n : ℕ) (d : Domain) (p : Prover) : Type 0 where
  pub obligation : Obligation
  pub is : slice_get sheet.obligations n ≡ Some obligation
  pub holds-range : T (wide sheet d)
  pub certificate : List ℕ
  pub proposed : p.proposes obligation.facts obligation.goal ≡ Some certificate
  pub outcome-good : Good (d.outcome obligation.facts obligation.goal certificate)

-- n had a good settling
abbrev pub HadGood : Sheet → ℕ → List Step → Type 0
HadGood sheet n [] = ⊥
HadGood sheet n (settling m d l p b ∷ history) = ((m ≡ n) × GoodSettling sheet n d p) ⊎ HadGood sheet n history
HadGood sheet n (ready ∷ history) = HadGood sheet n history

-- if n is a guard's number, it is on the list
abbrev pub GuardOn : Sheet → List ℕ → ℕ → Type 0
GuardOn sheet list n = (o : Obligation) → slice_get sheet.obligations n ≡ Some o → T (is_guard o.duty) → T (on list n)

-- Ready's answer is yes and every guard is on the list, or it names the first guard that is not.
abbrev pub Answers : Sheet → List ℕ → Result (Unit {0}) Refusal → Type 0
Answers sheet list (Ok u) = (n : ℕ) → GuardOn sheet list n
Answers sheet list (Err r) =
    (n : ℕ) × (o : Obligation) × (slice_get sheet.obligations n ≡ Some o) × T (is_guard o.duty) × T (not (on list n))
    × ((m : ℕ) → m < n → GuardOn sheet list m) × (r ≡ Closed n o.place)

-- in a full run: a check that is come to is made, and passes if it is on the list, a call meets its rule's needs, a returned value meets its rule's gives
abbrev pub Sound : Sheet → List ℕ → Event → Type 0
Sound sheet list (came n made passes) = (made ≡ true) × (T (on list n) → T passes)
Sound sheet list (called f xs) = AllByRecursion (λ c. T (satisfied xs (pos 0) c)) (rule_at sheet.rules f).needs
Sound sheet list (returned f xs v) = AllByRecursion (λ c. T (satisfied xs v c)) (rule_at sheet.rules f).gives

-- in a book's run: a check is dropped exactly when it is on the list
abbrev pub DropsListed : List ℕ → Event → Type 0
DropsListed list (came n made passes) = made ≡ not (on list n)
DropsListed list (called f xs) = Unit {0}
DropsListed list (returned f xs v) = Unit {0}

-- the book's run and the full run are the same refusal; or they have the same kind, value, place, steps and cells, and the
-- checks made are the full run's without those on the list
pub record SameEnd (list : List ℕ) (book full : End) (book_cells full_cells : List ℤ) (book_log full_log : List Event) : Type 0 where
  pub kind : book.kind ≡ full.kind
  pub value : book.value ≡ full.value
  pub place : book.place ≡ full.place
  pub steps : book.steps ≡ full.steps
  pub book_checks : book.checks ≡ length (made_in book_log)
  pub full_checks : full.checks ≡ length (made_in full_log)
  pub cells : book_cells ≡ full_cells
  pub made : made_in book_log ≡ filter (λ n. not (on list n)) (made_in full_log)

abbrev pub Agrees : Sheet → List ℕ → Answer → Answer → Type 0
Agrees sheet list (refused r) (refused q) = r ≡ q
Agrees sheet list (refused r) (ended e cells log) = ⊥
Agrees sheet list (refused r) astray = ⊥
Agrees sheet list (ended e cells log) (refused q) = ⊥
Agrees sheet list (ended e cells log) (ended e' cells' log') = SameEnd list e e' cells cells' log log' × AllByRecursion (Sound sheet list) log' × AllByRecursion (DropsListed list) log
Agrees sheet list (ended e cells log) astray = ⊥
Agrees sheet list astray (refused q) = ⊥
Agrees sheet list astray (ended e cells log) = ⊥
Agrees sheet list astray astray = ⊥

-- of a sheet and a history: the plain list and the draft's marks, Ready's answer, and after a yes every run
pub record Kept (sheet : Sheet) (history : List Step) (list : List ℕ) (draft : Draft) : Type 0 where
  pub listed : (n : ℕ) → T (on list n) ↔ HadGood sheet n history
  pub marks : (n : ℕ) → marked draft.marks n ≡ on list n
  pub answer : Answers sheet list (readiness draft)
  pub runs : readiness draft ≡ Ok tt → (rule fuel : ℕ) (numbers : List ℤ) (parts : List Part) (cells : List ℤ)
      → Agrees sheet list (book_run (clear draft) rule fuel numbers parts cells) (full_run (clear draft) rule fuel numbers parts cells)

abbrev pub Promise : Type 0
Promise = (low high : ℤ) (rules : List Rule) (history : List Step)
    → Kept (sheet_of low high rules) history (plain_after (sheet_of low high rules) [] history) (draft_after (draft_of (sheet_of low high rules)) history)
