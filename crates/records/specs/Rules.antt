-- Rules that stand in tables.
use Rattle.std.specs.Prelude.{◌≡◌, ℕ, suc, ◌<◌, ◌≤◌, List, [], ◌∷◌, map, length}
use Rattle.language.specs.Tree.{Rule}
use Rattle.records.specs.declared.entry.Param.{Param}
use Rattle.records.specs.declared.entry.Entry.{Entry}
use Rattle.records.specs.Tables.{Tables, stretch, param_of}
use Rattle.records.specs.Standing.{Listed, Stands}

-- an entry is a rule's, the nodes of its body lying from a position on
pub record RuleStands (t : Tables) (ps : List Param) (lo : ℕ) (e : Entry) (r : Rule) : Type 0 where
  pub place : e.place ≡ r.place
  pub within : e.params.to ≤ length ps
  pub params : map param_of (stretch ps e.params.from e.params.to) ≡ r.params
  pub needs : Listed t e.needs.from e.needs.to r.needs
  pub gives : Listed t e.gives.from e.gives.to r.gives
  pub below : e.body < length t.nodes
  pub body : Stands t lo e.body r.body

-- each entry is a rule's, and the nodes of its body lie after those of the rule before, so no two rules share a node
abbrev pub RulesStand : Tables → List Param → ℕ → List Entry → List Rule → Type 0
RulesStand t params lo [] [] = Unit {0}
RulesStand t params lo [] (r ∷ rs) = ⊥
RulesStand t params lo (e ∷ es) [] = ⊥
RulesStand t params lo (e ∷ es) (r ∷ rs) = RuleStands t params lo e r × RulesStand t params (suc e.body) es rs
