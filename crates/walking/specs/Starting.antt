-- How the walk of a rule begins: its parameters are quantities, and its needs are facts.
use Rattle.std.specs.Prelude.{◌≡◌, ℕ, ◌≤◌, List, ◌++◌, map, length, pos, Some, None, Ok, Err, Result, nat_le}
use Rattle.std.specs.List.{range_with_len}
use Rattle.rows.specs.declared.row.Row.{Row}
use Rattle.language.specs.declared.refusal.Refusal.{Refusal}
use Rattle.language.specs.declared.refusal.Refusal.TheVariants.{Full}
use Rattle.language.specs.declared.term.Term.{Term}
use Rattle.language.specs.Comparing.{at_most}
use Rattle.language.specs.Limits.{quantities}
use Rattle.language.specs.Terms.{quantity, zero_term}
use Rattle.language.specs.Tree.{Condition, Param, at_lists}
use Rattle.language.specs.Walking.{Note, Known, limit, assume, assume_all, first_fault}
use Rattle.records.specs.declared.entry.Entry.{Entry}
use Rattle.records.specs.Columns.{Columns}
use Rattle.records.specs.Tables.{stretch, param_of}
use Rattle.walking.specs.Sides.{Fitting}

-- the parameters of an entry
abbrev pub params_at : Columns → Entry → List Param
params_at c e = map param_of (stretch c.params.entries e.params.from e.params.to)

-- the first quantities, one for each parameter
abbrev pub numbers_of : List Param → List Term
numbers_of ps = map quantity (range_with_len 0 (length ps))

-- no more parameters than quantities
abbrev pub few_params : List Param → ℕ → List Note
few_params ps place = limit (nat_le (length ps) quantities) (Full place)

-- the terms of the names and of the lengths of these parameters
pub record Declaring (ps : List Param) (n : ℕ) (ts ls : List Term) : Type 0 where
  pub next : n ≡ length ps
  pub names : ts ≡ numbers_of ps
  pub lengths : ls ≡ at_lists ps (numbers_of ps)
  pub few : n ≤ quantities
  pub names_fit : Fitting ts
  pub lengths_fit : Fitting ls

abbrev pub Declared : Result ℕ Refusal → List Param → ℕ → List Term → List Term → Type 0
Declared (Ok n) ps place names lengths = (first_fault (few_params ps place) ≡ None) × Declaring ps n names lengths
Declared (Err r) ps place names lengths = first_fault (few_params ps place) ≡ Some r

-- each length is at least 0
abbrev pub lengths_known : ℕ → List Row → List Term → Known
lengths_known place facts lengths = assume place facts (map (at_most (pos 0) zero_term) lengths)

-- and then conditions hold
abbrev pub needs_known : ℕ → List Row → List Term → List Term → List Condition → Known
needs_known place facts names lengths needs =
    let k = lengths_known place facts lengths in
    let l = assume_all (λ c. c.place) names zero_term k.facts needs in
    record { facts = l.facts; notes = k.notes ++ l.notes }
