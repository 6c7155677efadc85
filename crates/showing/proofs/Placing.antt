-- The first token at a place, and blanks as text.
use Rattle.std.proofs.Common.{◌≡◌, ℕ, ◌≤◌, ◌<◌, Bool, true, false, eqb, ltb, cond, List, [], ◌∷◌, map, length, Some, None, refl, arith}
use Rattle.std.specs.List.{position_or_len}
use Rattle.std.specs.Option.{unwrap_or}
use Rattle.std.specs.Str.{IsAscii}
use Rattle.std.proofs.lemmas.Bool.{ltb-false}
use Rattle.std.proofs.lemmas.List.Sums.{prefix_len-le-length}
use Rattle.std.proofs.lemmas.Str.Ascii.{IsAscii-nil, IsAscii-cons}
use Rattle.letters.specs.declared.token.Token.{Token}
use Rattle.showing.specs.Marks.{blank}
use Rattle.showing.specs.Probes.{elsewhere, number_at}

found : (n m : ℕ) (b : Bool) → ltb n m ≡ b → n ≤ m → unwrap_or (cond b (Some n) None) m ≡ n
found n m true e h = refl
found n m false e h = let k = ltb-false n m e in omega arith

abbrev pub here : ℕ → Token → Bool
here w t = eqb t.place w

-- where no token is at the place, the number of the end stands for it
pub found_or_end : (w : ℕ) (ts : List Token) → unwrap_or (cond (ltb (position_or_len (here w) ts) (length ts)) (Some (position_or_len (here w) ts)) None) (length ts) ≡ number_at ts w
found_or_end w ts = found (number_at ts w) (length ts) _ refl (prefix_len-le-length (elsewhere w) ts)

small : (b : Bool) → cond b 9 32 < 128
small true = omega arith
small false = omega arith

-- tabs and blanks are ASCII
pub blank-ascii : (bs : List ℕ) → IsAscii (map blank bs)
blank-ascii [] = IsAscii-nil
blank-ascii (b ∷ bs) = IsAscii-cons (blank b) (map blank bs) (small (eqb b 9)) (blank-ascii bs)
