-- The lines of a text: a line feed ends one.
use Rattle.std.specs.Prelude.{◌≡◌, ℕ, ◌+◌, ◌-◌, ◌<◌, ◌≤◌, min, Bool, cond, not, ◌&&◌, ◌⊎◌, List, length, take, drop, count_by, ◌==◌, ◌≢◌, nat_lt, slice_index}
use Rattle.std.specs.List.{prefix_len, suffix_len}
use Rattle.showing.specs.declared.line.Line.{Line}

abbrev pub is_feed : ℕ → Bool
is_feed b = b == 10

abbrev pub of_line : ℕ → Bool
of_line b = not (is_feed b)

-- where the line that begins at `start` ends for a reader, whose line feed is at `feed`: before a carriage return
abbrev pub shown_to : List ℕ → ℕ → ℕ → ℕ
shown_to text start feed = cond (nat_lt start feed && (nat_lt feed (length text) && slice_index text (feed - 1) == 13)) (feed - 1) feed

-- where the line of a byte begins, and where its line feed is, or the text's end
abbrev pub start_of : List ℕ → ℕ → ℕ
start_of text place = place - suffix_len of_line (take place text)

abbrev pub feed_of : List ℕ → ℕ → ℕ
feed_of text place = place + prefix_len of_line (drop place text)

abbrev pub line_here : List ℕ → ℕ → Line
line_here text place = record {
  number = count_by is_feed (take place text) + 1;
  column = place - start_of text place + 1;
  start = start_of text place;
  end = shown_to text (start_of text place) (feed_of text place);
}

-- the line in which a byte stands; a place past the text counts as its end
abbrev pub line_of : List ℕ → ℕ → Line
line_of text place = line_here text (min place (length text))

-- a line ends here: at the text's end, or before a line feed, or before a carriage return and a line feed
abbrev pub Ends : List ℕ → ℕ → Type 0
Ends text e = (e ≡ length text) ⊎ ((slice_index text e ≡ 10) ⊎ ((slice_index text e ≡ 13) × (slice_index text (e + 1) ≡ 10)))

-- a byte stands in this line of a text, or the text's end does
pub record Stands (text : List ℕ) (place : ℕ) (line : Line) : Type 0 where
  pub number : line.number ≡ count_by is_feed (take place text) + 1
  pub column : line.start + line.column ≡ place + 1
  pub begins : line.start ≤ place
  pub first : (line.start ≡ 0) ⊎ (slice_index text (line.start - 1) ≡ 10)
  pub before : (k : ℕ) → line.start ≤ k → k < place → slice_index text k ≢ 10
  pub inside : (k : ℕ) → line.start ≤ k → k < line.end → slice_index text k ≢ 10
  pub reaches : (line.start ≤ line.end) × (place ≤ line.end + 1) × (line.end ≤ length text)
  pub ends : Ends text line.end
