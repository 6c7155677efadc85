-- Blanks and tabs stand under the bytes of a line before its column.
use Rattle.std.proofs.Common.{◌≡◌, ℕ, ◌+◌, ◌-◌, ◌<◌, ◌≤◌, eqb, List, map, length, get_or, take, drop, ap, ◌∙◌, arith}
use Rattle.std.proofs.lemmas.List.{length-map, length-take, length-drop, get_or-map, get_or-take, get_or-drop}
use Rattle.std.proofs.lemmas.Bool.{eq-eqb, ne_eqb, cond-true, cond-false}
use Rattle.showing.specs.declared.line.Line.{Line}
use Rattle.showing.specs.Marks.{blank, blanks_to, Under}

pub under : (text : List ℕ) (line : Line) → line.start + line.column ≤ length text + 1 → line.start ≤ length text → Under text line (blanks_to text line)
under text line h g = record {
  width = length-map (take (line.column - 1) (drop line.start text)) blank ∙ size;
  tabs = λ k a e. at k a ∙ cond-true (eqb (get_or text (line.start + k) 0) 9) 9 32 (eq-eqb _ 9 e);
  others = λ k a n. at k a ∙ cond-false (eqb (get_or text (line.start + k) 0) 9) 9 32 (ne_eqb _ 9 n);
}
  where
    size : length (take (line.column - 1) (drop line.start text)) ≡ line.column - 1
    size = let d = length-drop line.start text in let t = length-take (line.column - 1) (drop line.start text) in omega arith

    at : (k : ℕ) → k < line.column - 1 → get_or (map blank (take (line.column - 1) (drop line.start text))) k 0 ≡ blank (get_or text (line.start + k) 0)
    at k a = get_or-map blank (take (line.column - 1) (drop line.start text)) k 0 0 (omega (arith, size)) ∙ ap blank (get_or-take (line.column - 1) (drop line.start text) k 0 a ∙ get_or-drop line.start text k 0)
