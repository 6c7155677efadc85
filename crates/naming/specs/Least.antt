-- The smallest of several places.
use Rattle.std.specs.Prelude.{ℕ, min, List, [], ◌∷◌, Some, None, Option}

abbrev pub smaller : ℕ → Option ℕ → ℕ
smaller p None = p
smaller p (Some q) = min p q

abbrev pub merged : Option ℕ → Option ℕ → Option ℕ
merged None o = o
merged (Some p) o = Some (smaller p o)

unfoldable pub least : List ℕ → Option ℕ
least [] = None
least (p ∷ ps) = Some (smaller p (least ps))
