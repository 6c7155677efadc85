-- What a reading says of each token.
use Rattle.std.proofs.Common.{◌≡◌, ℕ, suc, ◌+◌, ◌<◌, ◌≤◌, List, [], ◌∷◌, ◌++◌, length, take, sym, ap, ◌∙◌, subst, arith}
use Rattle.std.proofs.lemmas.List.{append_assoc, drop_at, take_at, length-append, length_push}
use Rattle.std.specs.List.{AllByRecursion}
use Rattle.letters.specs.declared.token.Token.{Token}
use Rattle.letters.specs.Spelling.{Spelt, name, numeral, fixed, Reads, end, blank, token}
use Rattle.letters.specs.Standing.{Stands, Ascending}
use Rattle.letters.specs.Tokens.{bytes_of}
use Rattle.letters.proofs.Running.{value-small}

later : (i j : ℕ) (ts : List Token) → i ≤ j → Ascending j ts → Ascending i ts
later i j [] h a = tt
later i j (t ∷ ts) h a = (omega (arith, a.0), a.1, a.2)

-- tokens come in order and do not overlap
pub reads-ascend : {i : ℕ} {bs left : List ℕ} {ts : List Token} → Reads i bs ts left → Ascending i ts
reads-ascend (end {i} {left}) = tt
reads-ascend (blank {i} {b} {bs} {left} {ts} q r) = later i (suc i) ts (omega arith) (reads-ascend r)
reads-ascend (token {i} {w} {bs} {left} {t} {ts} place size some spelt far r) =
    let e : i + length w ≡ t.place + t.size = omega arith in
    (omega arith, omega arith, subst (λ n. Ascending n ts) e (reads-ascend r))

module _ (pre w bs : List ℕ) (t : Token) where
  here : length pre ≡ t.place → t.size ≡ length w → Spelt t w → Stands (pre ++ (w ++ bs)) t
  here p s spelt =
      let l = length-append pre (w ++ bs) in let m = length-append w bs in
      let e : bytes_of (pre ++ (w ++ bs)) t ≡ w = ap (take t.size) (drop_at pre (w ++ bs) t.place p) ∙ take_at w bs t.size (sym s) in
      (omega arith, subst (Spelt t) (sym e) spelt)

stand : {i : ℕ} {bs left : List ℕ} {ts : List Token} → Reads i bs ts left → (pre : List ℕ) → length pre ≡ i → AllByRecursion (Stands (pre ++ bs)) ts
stand (end {i} {left}) pre e = tt
stand (blank {i} {b} {bs} {left} {ts} q r) pre e =
    subst (λ (l : List ℕ). AllByRecursion (Stands l) ts) (append_assoc pre (b ∷ []) bs) (stand r (pre ++ b ∷ []) (let l = length_push pre b in omega arith))
stand (token {i} {w} {bs} {left} {t} {ts} place size some spelt far r) pre e =
    (here pre w bs t (omega arith) size spelt, subst (λ (l : List ℕ). AllByRecursion (Stands l) ts) (append_assoc pre w bs) (stand r (pre ++ w) (let l = length-append pre w in omega arith)))

-- each token lies in the text and is spelt at its place
pub reads-stand : {bs left : List ℕ} {ts : List Token} → Reads 0 bs ts left → AllByRecursion (Stands bs) ts
reads-stand r = stand r [] (omega arith)

pub spelt-small : (t : Token) (w : List ℕ) → Spelt t w → t.value < 1000000
spelt-small t w (name k a l e v) = omega arith
spelt-small t w (numeral k a l v) = let s = value-small w l a in omega arith
spelt-small t w (fixed e v) = omega arith
