-- Facts that join those in force, as steps of a rule's walk.
use Rattle.std.proofs.Common.{◌≡◌, ℕ, List, ◌++◌, Ok, Err, IfOk, Result, Option, refl, ap, ◌∙◌}
use Rattle.rows.specs.declared.row.Row.{Row}
use Rattle.language.specs.declared.refusal.Refusal.{Refusal}
use Rattle.language.specs.Walking.{assume, knowing}
use Rattle.pile.specs.Entries.{entries}
use Rattle.walking.specs.declared.facts.Facts.{Facts}
use Rattle.walking.specs.declared.walker.Walker.{Walker}
use Rattle.walking.specs.Knowing.{Took}
use Rattle.walking.specs.Stepping.{Kept, Sure, Assumed, facts_of, stand_of}
use Rattle.walking.proofs.Noting.{assume-owes}
use Rattle.walking.proofs.Stepping.{step-quiet}
use Rattle.walking.proofs.Taking.{facts-more}

-- the walker with other facts
abbrev pub with_facts : Walker → Facts → Walker
with_facts w f = record { debts = w.debts; facts = record w.facts { now = f }; names = w.names; lengths = w.lengths; next = w.next }

pub kept-facts : (w : Walker) (f : Facts) → Sure w → ((more : List Row) × (entries f.pile ≡ facts_of w ++ more)) → Kept w (with_facts w f)
kept-facts w f s m = record { scope = refl; names_room = refl; lender = refl; debts = refl; facts = m; sure = record { sound = s.sound; names = s.names; lengths = s.lengths } }

module _ (place : ℕ) (rows : List (Option Row)) (w : Walker) (f : Facts) (s : Sure w) where
  more : entries f.pile ≡ (assume place (facts_of w) rows).facts → (more : List Row) × (entries f.pile ≡ facts_of w ++ more)
  more e = let m = facts-more place (facts_of w) rows in (m.0, e ∙ m.1)

  pub assumed-kept : (r : Result (Unit {0}) Refusal) → Took r (assume place (facts_of w) rows) (facts_of w) (entries f.pile) → IfOk r (λ t. Kept w (with_facts w f))
  assumed-kept (Ok u) t = kept-facts w f s (more t.1)
  assumed-kept (Err r) t = tt

  pub assumed : (r : Result (Unit {0}) Refusal) → Took r (assume place (facts_of w) rows) (facts_of w) (entries f.pile) → Assumed r (assume place (facts_of w) rows) w (with_facts w f)
  assumed (Ok u) t = λ lo hi. step-quiet lo hi (assume place (facts_of w) rows).notes (knowing (stand_of w) (assume place (facts_of w) rows).facts) w (with_facts w f) refl (kept-facts w f s (more t.1)) t.0 (assume-owes place (facts_of w) rows) (ap (knowing (stand_of w)) t.1)
  assumed (Err r) t = t.0
