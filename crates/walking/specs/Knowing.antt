-- What the walk's small steps answer: a fault that the walk notes, or how it goes on.
use Rattle.std.specs.Prelude.{◌≡◌, ℕ, suc, List, ◌++◌, Some, None, Ok, Err, Option, Result, nat_lt}
use Rattle.rows.specs.declared.row.Row.{Row}
use Rattle.language.specs.declared.refusal.Refusal.{Refusal}
use Rattle.language.specs.declared.refusal.Refusal.TheVariants.{Full}
use Rattle.language.specs.declared.term.Term.{Term}
use Rattle.language.specs.Limits.{quantities}
use Rattle.language.specs.Terms.{quantity}
use Rattle.language.specs.Tree as Tree
use Rattle.language.specs.Walking.{Known, limit, first_fault}

-- rows were taken as facts; or the first fault on the way refuses, and the facts begin as before
abbrev pub Took : Result (Unit {0}) Refusal → Known → List Row → List Row → Type 0
Took (Ok u) k before after = (first_fault k.notes ≡ None) × (after ≡ k.facts)
Took (Err r) k before after = (first_fault k.notes ≡ Some r) × ((more : List Row) × (after ≡ before ++ more))

-- the next quantity was taken; or there is none, and nothing changes
abbrev pub Fresh : Result Term Refusal → ℕ → ℕ → ℕ → Type 0
Fresh (Ok t) place before after = (t ≡ quantity before) × (after ≡ suc before) × (first_fault (limit (nat_lt before quantities) (Full place)) ≡ None)
Fresh (Err r) place before after = (first_fault (limit (nat_lt before quantities) (Full place)) ≡ Some r) × (after ≡ before)

-- the given place, else the condition's own
abbrev pub placed : Option ℕ → Tree.Condition → ℕ
placed (Some p) c = p
placed None c = c.place
