-- How the cutting of what is left goes on from a place.
use Rattle.std.proofs.Common.{◌≡◌, ℕ, zero, suc, ◌+◌, ◌-◌, ◌<◌, ◌≤◌, cond, List, [], ◌∷◌, ◌++◌, length, get_or, take, drop, Ok, Err, Option, sym, refl, ap, ◌∙◌, ap₂, append_assoc, add-zero, add-suc, suc-add, add-one, arith, Some, None, Result}
use Rattle.std.proofs.lemmas.List.{take_all, at_drop_all, drop_more, drop-drop, length-drop, append-nil, length-take-le, take-append-drop}
use Rattle.std.proofs.lemmas.Bool.{le-leb, lt-leb}
use Rattle.letters.specs.declared.token.Token.{Token}
use Rattle.letters.specs.declared.misspelt.Misspelt.{Misspelt}
use Rattle.letters.specs.declared.misspelt.Misspelt.TheVariants.{Length}
use Rattle.letters.specs.Cuts.{piece_of, open_after, Cut, done, stop, put, put_by, cut_by, cut_from, cut_of, laid}

pub skips : (n o i : ℕ) (bs : List ℕ) → cut_from n o i bs ≡ cut_from 0 o (i + n) (drop n bs)
unfolding cut_from
skips zero o i [] = refl
skips (suc n) o i [] = refl
skips zero o i (b ∷ bs) = ap (λ j. cut_from 0 o j (b ∷ bs)) (sym (add-zero i))
skips (suc n) o i (b ∷ bs) = skips n o (suc i) bs ∙ ap (λ j. cut_from 0 o j (drop n bs)) (suc-add i n ∙ sym (add-suc i n))

-- by what stands at the front
module _ (i o : ℕ) (xs : List ℕ) (h : 0 < length xs) where
  front : (p : Result (Option Token) Misspelt) → p ≡ piece_of i xs → cut_from 0 o i xs ≡ cut_by p i (get_or xs 0 0) o (λ n d. cut_from n d (suc i) (drop 1 xs))
  unfolding cut_from
  front p e = ap (cut_from 0 o i) (drop_more xs 0 0 h) ∙ ap (λ q. cut_by q i (get_or xs 0 0) o (λ n d. cut_from n d (suc i) (drop 1 xs))) (ap (piece_of i) (sym (drop_more xs 0 0 h)) ∙ sym e)

  pub front-blank : Ok None ≡ piece_of i xs → cut_from 0 o i xs ≡ cut_from 0 o (suc i) (drop 1 xs)
  front-blank e = front (Ok None) e

  pub front-bad : (m : Misspelt) → Err m ≡ piece_of i xs → cut_from 0 o i xs ≡ stop m
  front-bad m e = front (Err m) e

  pub front-full : (t : Token) (m : Misspelt) → Ok (Some t) ≡ piece_of i xs → Err m ≡ open_after (get_or xs 0 0) o i → cut_from 0 o i xs ≡ stop m
  front-full t m e q = front (Ok (Some t)) e ∙ ap (λ r. put_by t r (λ d. cut_from (t.size - 1) d (suc i) (drop 1 xs))) (sym q)

  pub front-part : (t : Token) (d : ℕ) → Ok (Some t) ≡ piece_of i xs → 0 < t.size → Ok d ≡ open_after (get_or xs 0 0) o i → cut_from 0 o i xs ≡ put t (cut_from 0 d (i + t.size) (drop t.size xs))
  front-part t d e k q =
      front (Ok (Some t)) e ∙ ap (λ r. put_by t r (λ d. cut_from (t.size - 1) d (suc i) (drop 1 xs))) (sym q)
      ∙ ap (put t) (skips (t.size - 1) d (suc i) (drop 1 xs) ∙ ap₂ (cut_from 0 d) (omega arith) (drop-drop (t.size - 1) 1 xs ∙ ap (λ j. drop j xs) (omega arith)))

-- the rest of a text from a place on
rest-is : (xs : List ℕ) (i : ℕ) → take (length xs - i) (drop i xs) ≡ drop i xs
rest-is xs i = take_all (length xs - i) (drop i xs) (let l = length-drop i xs in omega arith)

-- what stands at a place, read from the rest of the text there
pub at-rest : (xs : List ℕ) (i : ℕ) (p q : Result (Option Token) Misspelt) → q ≡ p → q ≡ piece_of i (take (length xs - i) (drop i xs)) → p ≡ piece_of i (drop i xs)
at-rest xs i p q e h = sym e ∙ h ∙ ap (piece_of i) (rest-is xs i)

-- by what stands at a place
module _ (xs : List ℕ) (i o : ℕ) (h : i < length xs) where
  some : 0 < length (drop i xs)
  some = let l = length-drop i xs in omega arith

  pub cut-blank : Ok None ≡ piece_of i (drop i xs) → cut_from 0 o i (drop i xs) ≡ cut_from 0 o (i + 1) (drop (i + 1) xs)
  cut-blank e = front-blank i o (drop i xs) some e ∙ ap₂ (cut_from 0 o) (sym (add-one i)) (drop-drop 1 i xs)

  pub cut-bad : (m : Misspelt) → Err m ≡ piece_of i (drop i xs) → cut_from 0 o i (drop i xs) ≡ stop m
  cut-bad m e = front-bad i o (drop i xs) some m e

  pub cut-full : (t : Token) (m : Misspelt) → Ok (Some t) ≡ piece_of i (drop i xs) → Err m ≡ open_after (get_or (take (length xs - i) (drop i xs)) 0 0) o i → cut_from 0 o i (drop i xs) ≡ stop m
  cut-full t m e q = front-full i o (drop i xs) some t m e (q ∙ ap (λ (l : List ℕ). open_after (get_or l 0 0) o i) (rest-is xs i))

  pub cut-part : (t : Token) (d : ℕ) → Ok (Some t) ≡ piece_of i (drop i xs) → 0 < t.size → Ok d ≡ open_after (get_or (take (length xs - i) (drop i xs)) 0 0) o i → cut_from 0 o i (drop i xs) ≡ put t (cut_from 0 d (i + t.size) (drop (i + t.size) xs))
  cut-part t d e k q = front-part i o (drop i xs) some t d e k (q ∙ ap (λ (l : List ℕ). open_after (get_or l 0 0) o i) (rest-is xs i)) ∙ ap (λ (l : List ℕ). put t (cut_from 0 d (i + t.size) l)) (drop-drop t.size i xs)

pub cut-none : (i o : ℕ) → cut_from 0 o i [] ≡ done
unfolding cut_from
cut-none i o = refl

pub cut-end : (xs : List ℕ) (i o : ℕ) → length xs ≤ i → cut_from 0 o i (drop i xs) ≡ done
cut-end xs i o h = at_drop_all (cut_from 0 o i) xs i h ∙ cut-none i o

-- tokens before a cut
abbrev pub before : List Token → Cut → Cut
before ts c = record { tokens = ts ++ c.tokens; fault = c.fault }

pub before-push : (ts : List Token) (t : Token) (c : Cut) → before ts (put t c) ≡ before (ts ++ t ∷ []) c
before-push ts t c = ap (λ (us : List Token). record { tokens = us; fault = c.fault }) (sym (append_assoc ts (t ∷ []) c.tokens))

pub before-stop : (ts : List Token) (f : Option Misspelt) → before ts (record { tokens = []; fault = f }) ≡ record { tokens = ts; fault = f }
before-stop ts f = ap (λ (us : List Token). record { tokens = us; fault = f }) (append-nil ts)

pub laid-is : (n : ℕ) (new old : List Token) → n ≤ length new → drop n new ≡ drop n old → new ≡ laid (take n new) old
laid-is n new old h e = sym (ap (λ m. take n new ++ drop m old) (length-take-le n new h) ∙ ap (λ (l : List Token). take n new ++ l) (sym e) ∙ take-append-drop n new)

pub cut-is : (text : List ℕ) → length text ≤ 16384 → cut_of text ≡ cut_from 0 0 0 text
unfolding cut_of
cut-is text h = ap (λ b. cond b (cut_from 0 0 0 text) (stop Length)) (le-leb (length text) 16384 h)

pub cut-long : (text : List ℕ) → 16384 < length text → cut_of text ≡ stop Length
unfolding cut_of
cut-long text h = ap (λ b. cond b (cut_from 0 0 0 text) (stop Length)) (lt-leb (length text) 16384 h)
