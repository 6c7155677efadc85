-- Values that were gathered for a rule's names.
use Rattle.std.specs.Prelude.{◌≡◌, ◌<◌, List, ◌++◌, ℤ, Some, None, Option}
use Rattle.std.specs.List.{AllByRecursion}
use Rattle.language.specs.declared.part.Part.{Part}

-- the lengths of parts are values
abbrev pub AllShort : List Part → Type 0
AllShort parts = AllByRecursion (λ (p : Part). p.length < 2147483648) parts

-- where there are as many numbers and parts as a rule takes, the values of its names joined those before, if the lengths of the parts are values
abbrev pub Gathered : Option (Unit {0}) → Option (List ℤ) → List Part → List ℤ → List ℤ → Type 0
Gathered (Some u) (Some vs) parts old new = AllShort parts → new ≡ old ++ vs
Gathered (Some u) None parts old new = ⊥
Gathered None (Some vs) parts old new = ⊥
Gathered None None parts old new = Unit {0}
