-- What brings a mark under a place of a line.
use Rattle.std.specs.Prelude.{◌≡◌, ℕ, ◌+◌, ◌-◌, ◌<◌, cond, List, map, length, take, drop, ◌==◌, ◌≢◌, slice_index}
use Rattle.showing.specs.declared.line.Line.{Line}

-- a tab stays a tab, any other byte is a blank
abbrev pub blank : ℕ → ℕ
blank b = cond (b == 9) 9 32

-- a blank for each byte of the line before the column
abbrev pub blanks_to : List ℕ → Line → List ℕ
blanks_to text line = map blank (take (line.column - 1) (drop line.start text))

-- these stand under the line's bytes before the column
pub record Under (text : List ℕ) (line : Line) (marks : List ℕ) : Type 0 where
  pub width : length marks ≡ line.column - 1
  pub tabs : (k : ℕ) → k < line.column - 1 → slice_index text (line.start + k) ≡ 9 → slice_index marks k ≡ 9
  pub others : (k : ℕ) → k < line.column - 1 → (slice_index text (line.start + k) ≢ 9) → slice_index marks k ≡ 32
