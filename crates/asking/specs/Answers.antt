-- What asking a prover and verifying its proposal in a domain comes to.
use Rattle.std.specs.Prelude.{ℕ, List, ◌++◌, codes, Some, None, Ok, Err, Option, Result}
use Rattle.domains.specs.Faults.{Outcome, written as written_fault}
use Rattle.asking.specs.declared.unproved.Unproved.{Unproved}
use Rattle.asking.specs.declared.unproved.Unproved.TheVariants.{NoProposal, Faulty}

abbrev pub Answer : Type 0
Answer = Result (Unit {0}) Unproved

abbrev pub judged : Outcome → Answer
judged (Ok u) = Ok u
judged (Err fault) = Err (Faulty fault)

-- a proposal, and the outcome of each certificate
abbrev pub tried : Option (List ℕ) → (List ℕ → Outcome) → Answer
tried None outcome = Err NoProposal
tried (Some certificate) outcome = judged (outcome certificate)

abbrev pub Proved : Answer → Type 0
Proved (Ok _) = Unit {0}
Proved (Err _) = ⊥

-- how it is written why a question is left unproved: `no proposal`, `fault 5 sum depth 0`
abbrev pub written : Unproved → List ℕ
written NoProposal = codes "no proposal"
written (Faulty fault) = codes "fault " ++ written_fault fault
