-- What settling says.
use Rattle.std.specs.Prelude.{◌≡◌, ℕ, ◌<◌, true, false, List, [], ◌∷◌, ◌++◌, ℤ, is_ok, Some, None, Ok, Err, Option, Result, slice_set}
use Rattle.rows.specs.declared.row.Row.{Row}
use Rattle.rows.specs.Meaning.{Follows}
use Rattle.domains.specs.Faults.{Outcome}
use Rattle.asking.specs.declared.unproved.Unproved.{Unproved as Reason}
use Rattle.asking.specs.declared.unproved.Unproved.TheVariants.{NoProposal, Faulty}
use Rattle.language.specs.declared.refusal.Refusal.{Refusal}
use Rattle.language.specs.declared.refusal.Refusal.TheVariants.{Unproved}
use Rattle.language.specs.Walking.{Obligation}
use Rattle.language.specs.Drafts as Drafts
use Rattle.language.specs.Histories.{Lawful, Brief, Step, settling, draft_after}
use Rattle.records.specs.declared.record.Record.{Record}
use Rattle.records.specs.Owing.{Owes}
use Rattle.engine.specs.declared.draft.Draft.{Draft}
use Rattle.engine.specs.Drafting.{DraftIs}

-- a domain by its meaning, and a prover
abbrev pub meant : ℤ → ℤ → (List Row → Row → List ℕ → Outcome) → Drafts.Domain
meant low high outcome = record { low = low; high = high; outcome = outcome }

abbrev pub proposing : (List Row → Row → Option (List ℕ)) → Drafts.Prover
proposing proposal = record { proposes = proposal }

-- the refusal of an obligation at a place
abbrev pub unproved_at : ℕ → Reason → Refusal
unproved_at place NoProposal = Unproved place None
unproved_at place (Faulty f) = Unproved place (Some f)

-- the row of the obligation that these records hold at a number follows from its facts
abbrev pub FollowsAt : ℤ → ℤ → List Record → ℕ → Type 0
FollowsAt low high records number = (o : Obligation) → Owes records number o → Follows low high o.facts o.goal

-- where the answer is good, there is such an obligation, and its row follows in the draft's range
abbrev pub Proven : Result (Unit {0}) Refusal → Draft → ℕ → Type 0
Proven (Ok u) draft number = (number < draft.sizes.owed) × FollowsAt draft.low draft.high draft.records.now number
Proven (Err r) draft number = Unit {0}

-- a draft is another but for its marks
pub record Beside (old new : Draft) : Type 0 where
  pub records : new.records.now ≡ old.records.now
  pub low : new.low ≡ old.low
  pub high : new.high ≡ old.high
  pub sizes : new.sizes ≡ old.sizes

-- one mark was set
pub record Marked (old new : Draft) (number : ℕ) : Type 0 where
  pub beside : Beside old new
  pub marks : new.marks ≡ slice_set old.marks number true

-- a number was settled by a domain and a prover: the answer and the draft after it are the definition's, a refusal changes nothing,
-- and as the domain is lawful and the prover brief, the call is a step of a history
pub record Settles (answer : Result (Unit {0}) Refusal) (old new : Draft) (number : ℕ) (domain : Drafts.Domain) (prover : Drafts.Prover) : Type 0 where
  pub lawful : Lawful domain
  pub brief : Brief prover
  pub answers : (d : Drafts.Draft) → DraftIs old d → answer ≡ Drafts.settle d number domain prover
  pub after : (d : Drafts.Draft) → DraftIs old d → DraftIs new (Drafts.settled d number domain prover)
  pub steps : (d : Drafts.Draft) (history : List Step) → DraftIs old (draft_after d history) → DraftIs new (draft_after d (history ++ settling number domain lawful prover brief ∷ []))
  pub beside : Beside old new
  pub refused : is_ok answer ≡ false → new.marks ≡ old.marks
