-- The brackets that are open along a text that is cut.
use Rattle.std.proofs.Common.{◌≡◌, ℕ, zero, suc, ◌+◌, ◌-◌, ◌<◌, ◌≤◌, Bool, true, false, cond, ltb, ◌⊎◌, List, [], ◌∷◌, ◌++◌, length, take, drop, Some, None, Ok, Err, Option, Result, sym, refl, ap, ◌∙◌, subst, ap₂, inl, inr, suc-add, zero-add, add-one, arith}
use Rattle.std.proofs.ByRecursion.{All-take, All-weaker}
use Rattle.std.proofs.lemmas.List.{length-drop, length-take-le, take-append-drop, take-append-le}
use Rattle.std.proofs.lemmas.Bool.{cases_lt, ltb-true, ltb-false}
use Rattle.std.proofs.lemmas.Bool.Decides.{nat_tests}
use Rattle.std.specs.List.{AllByRecursion}
use Rattle.letters.specs.declared.token.Token.{Token}
use Rattle.letters.specs.declared.misspelt.Misspelt.{Misspelt}
use Rattle.letters.specs.declared.misspelt.Misspelt.TheVariants.{Length, Letter, Brackets}
use Rattle.letters.specs.Bytes.{is_blank, is_letter, is_digit, is_opening, is_closing, opened, open_in, EachLetter}
use Rattle.letters.specs.Cuts.{piece_of, open_after, Cut, stop, cut_from, answer_by}
use Rattle.letters.specs.Spelling.{Spelt, name, numeral, fixed, Bracketed}
use Rattle.letters.proofs.Good.{Good, part-good}
use Rattle.letters.proofs.Sorts.{Sort, bare, keyword, lone, pair, sort-of}
use Rattle.letters.proofs.Steps.{front-blank, front-bad, front-full, front-part, cut-none}
use Rattle.letters.proofs.Telling.{blank-first, bad-letter, open-err}

-- bytes that are no brackets
Plain : List ℕ → Type 0
Plain v = AllByRecursion (λ b. (is_opening b ≡ false) × (is_closing b ≡ false)) v

plain-nil : Plain []
unfolding Plain
plain-nil = tt

opened-plain : (b d : ℕ) → (is_opening b ≡ false) × (is_closing b ≡ false) → opened b d ≡ d
opened-plain b d h = ap₂ (λ p q. cond p (d + 1) (cond q (d - 1) d)) h.0 h.1

open_plain : (v : List ℕ) (d : ℕ) → Plain v → open_in d v ≡ d
unfolding open_in Plain
open_plain [] d a = refl
open_plain (b ∷ v) d a = ap (λ e. open_in e v) (opened-plain b d a.0) ∙ open_plain v d a.1

open-append : (v u : List ℕ) (d : ℕ) → open_in d (v ++ u) ≡ open_in (open_in d v) u
unfolding open_in
open-append [] u d = refl
open-append (b ∷ v) u d = open-append v u (opened b d)

take-append-add : (v u : List ℕ) (m : ℕ) → take (length v + m) (v ++ u) ≡ v ++ take m u
take-append-add [] u m = ap (λ n. take n u) (zero-add m)
take-append-add (b ∷ v) u m = ap (λ n. take n (b ∷ (v ++ u))) (suc-add (length v) m) ∙ ap (λ (l : List ℕ). b ∷ l) (take-append-add v u m)

-- what is told from place i on, where d brackets are open
Held : Option Misspelt → ℕ → ℕ → List ℕ → Type 0
Held None i d bs = (k : ℕ) → open_in d (take k bs) ≤ 64
Held (Some Length) i d bs = Unit {0}
Held (Some (Letter j)) i d bs = (k : ℕ) → i + k ≤ j → open_in d (take k bs) ≤ 64
Held (Some (Brackets j)) i d bs = (i ≤ j) × (open_in d (take (j - i) bs) ≡ 64) × ((k : ℕ) → i + k ≤ j → open_in d (take k bs) ≤ 64)

module _ (d e : ℕ) (w bs : List ℕ) (small : (k : ℕ) → open_in d (take k w) ≤ 64) (all : open_in d w ≡ e) where
  on-past : (m : ℕ) → open_in d (take (length w + m) (w ++ bs)) ≡ open_in e (take m bs)
  on-past m = ap (open_in d) (take-append-add w bs m) ∙ open-append w (take m bs) d ∙ ap (λ c. open_in c (take m bs)) all

  on-by : (k : ℕ) → ((m : ℕ) → k ≡ length w + m → open_in e (take m bs) ≤ 64) → open_in d (take k (w ++ bs)) ≤ 64
  on-by k h = go (cases_lt k (length w))
    where
      go : (k < length w) ⊎ (length w ≤ k) → open_in d (take k (w ++ bs)) ≤ 64
      go (inl l) = subst (λ (u : List ℕ). open_in d u ≤ 64) (sym (take-append-le k w bs (omega arith))) (small k)
      go (inr l) = let z : k ≡ length w + (k - length w) = omega arith in subst (λ n. open_in d (take n (w ++ bs)) ≤ 64) (sym z) (let p = on-past (k - length w) in let q = h (k - length w) z in omega arith)

  held_on : (f : Option Misspelt) (i : ℕ) → Held f (i + length w) e bs → Held f i d (w ++ bs)
  unfolding Held
  held_on None i h = λ k. on-by k (λ m _. h m)
  held_on (Some Length) i h = tt
  held_on (Some (Letter j)) i h = λ k l. on-by k (λ m q. h m (omega arith))
  held_on (Some (Brackets j)) i h =
      let le : i + length w ≤ j = h.0 in
      let z : length w + (j - (i + length w)) ≡ j - i = omega arith in
      (omega arith, sym (ap (λ n. open_in d (take n (w ++ bs))) z) ∙ on-past (j - (i + length w)) ∙ h.1, λ k l. on-by k (λ m q. h.2 m (omega arith)))

letter-plain : (b : ℕ) → is_letter b ≡ true → (is_opening b ≡ false) × (is_closing b ≡ false)
letter-plain b e = (grind (arith, nat_tests), grind (arith, nat_tests))

digit-plain : (b : ℕ) → is_digit b ≡ true → (is_opening b ≡ false) × (is_closing b ≡ false)
digit-plain b e = (grind (arith, nat_tests), grind (arith, nat_tests))

blank-plain : (b : ℕ) → is_blank b ≡ true → (is_opening b ≡ false) × (is_closing b ≡ false)
blank-plain b e = (grind (arith, nat_tests), grind (arith, nat_tests))

-- only the first byte of a token is a bracket
spelt-plain : (t : Token) (x : ℕ) (v : List ℕ) → Spelt t (x ∷ v) → Plain v
unfolding Plain
spelt-plain t x v (name k a l e u) = All-weaker (λ b. is_letter b ≡ true) (λ b. (is_opening b ≡ false) × (is_closing b ≡ false)) letter-plain v a.1
spelt-plain t x v (numeral k a l u) = All-weaker (λ b. is_digit b ≡ true) (λ b. (is_opening b ≡ false) × (is_closing b ≡ false)) digit-plain v a.1
spelt-plain t x v (fixed e u) = go (sort-of t.kind)
  where
    go : Sort t.kind → Plain v
    go (bare h) = let q = e ∙ h in let no : ◌≡◌ {A = ℕ} 0 1 = cc in let bad : ⊥ = omega arith in absurd bad
    go (keyword a l h) = All-weaker (λ b. is_letter b ≡ true) (λ b. (is_opening b ≡ false) × (is_closing b ≡ false)) letter-plain v (subst EachLetter (sym e) a).1
    go (lone c h f) = let q = e ∙ h in let z : v ≡ [] = cc in subst Plain (sym z) tt
    go (pair c m h f) = let q = e ∙ h in let z : v ≡ 61 ∷ [] = cc in subst Plain (sym z) ((refl, refl), tt)

module _ (x d : ℕ) (v : List ℕ) (plain : Plain v) where
  open-token : open_in d (x ∷ v) ≡ opened x d
  unfolding open_in
  open-token = open_plain v (opened x d) plain

  open-within : d ≤ 64 → opened x d ≤ 64 → (k : ℕ) → open_in d (take k (x ∷ v)) ≤ 64
  unfolding open_in Plain
  open-within a b zero = a
  open-within a b (suc k) = let e = open_plain (take k v) (opened x d) (All-take (λ b. (is_opening b ≡ false) × (is_closing b ≡ false)) k v plain) in omega arith

module _ (b d i : ℕ) where
  open-ok : (o : ℕ) → Ok o ≡ open_after b d i → d ≤ 64 → (opened b d ≡ o) × (o ≤ 64)
  open-ok o e h = go (is_opening b) (ltb d 64) (is_closing b) refl e
    where
      go : (p q r : Bool) → ltb d 64 ≡ q → Ok o ≡ cond p (cond q (Ok (d + 1)) (Err (Brackets i))) (Ok (cond r (d - 1) d)) → (cond p (d + 1) (cond r (d - 1) d) ≡ o) × (o ≤ 64)
      go true true r s k = let z : o ≡ d + 1 = cc in let l = ltb-true d 64 s in (sym z, omega arith)
      go true false r s k = (cc, let no : ◌≡◌ {A = ℕ} 0 1 = cc in omega arith)
      go false q true s k = let z : o ≡ d - 1 = cc in (sym z, omega arith)
      go false q false s k = let z : o ≡ d = cc in (sym z, omega arith)

  open_full : (m : Misspelt) → Err m ≡ open_after b d i → 64 ≤ d
  open_full m e = go (is_opening b) (ltb d 64) refl e
    where
      go : (p q : Bool) → ltb d 64 ≡ q → Err m ≡ cond p (cond q (Ok (d + 1)) (Err (Brackets i))) (Ok (cond (is_closing b) (d - 1) d)) → 64 ≤ d
      go true true s k = let no : ◌≡◌ {A = ℕ} 0 1 = cc in omega arith
      go true false s k = ltb-false d 64 s
      go false q s k = let no : ◌≡◌ {A = ℕ} 0 1 = cc in omega arith

open_none : (d : ℕ) → d ≤ 64 → (bs : List ℕ) (k : ℕ) → k ≡ 0 → open_in d (take k bs) ≤ 64
unfolding open_in
open_none d h bs k e = subst (λ n. open_in d (take n bs) ≤ 64) (sym e) h

open-nil : (d : ℕ) → d ≤ 64 → (k : ℕ) → open_in d (take k []) ≤ 64
unfolding open_in
open-nil d h zero = h
open-nil d h (suc k) = h

at-letter : (i d : ℕ) (bs : List ℕ) → d ≤ 64 → Held (Some (Letter i)) i d bs
unfolding Held
at-letter i d bs h = λ k l. open_none d h bs k (omega arith)

at_bracket : (i d : ℕ) (bs : List ℕ) → d ≤ 64 → 64 ≤ d → Held (Some (Brackets i)) i d bs
unfolding Held open_in
at_bracket i d bs h l = let z : 0 ≡ i - i = omega arith in (omega arith, ap (λ n. open_in d (take n bs)) (sym z) ∙ omega arith, λ k e. open_none d h bs k (omega arith))

module _ (n d i b : ℕ) (bs : List ℕ) (short : length bs ≤ n) (deep : d ≤ 64) (rest : (d i : ℕ) (l : List ℕ) → length l ≤ n → d ≤ 64 → Held (cut_from 0 d i l).fault i d l) where
  ended : (c : Cut) → cut_from 0 d i (b ∷ bs) ≡ c → Held c.fault i d (b ∷ bs) → Held (cut_from 0 d i (b ∷ bs)).fault i d (b ∷ bs)
  ended c e h = subst (λ (c : Cut). Held c.fault i d (b ∷ bs)) (sym e) h

  token-step : (t : Token) (r : Result ℕ Misspelt) → Ok (Some t) ≡ piece_of i (b ∷ bs) → Good i (b ∷ bs) t → r ≡ open_after b d i → Held (cut_from 0 d i (b ∷ bs)).fault i d (b ∷ bs)
  token-step t (Ok o) e g q =
      let some = g.some in let ok = open-ok b d i o q deep in
      let v = take (t.size - 1) bs in
      let z : suc (t.size - 1) ≡ t.size = omega arith in
      let w : take t.size (b ∷ bs) ≡ b ∷ v = ap (λ k. take k (b ∷ bs)) (sym z) in
      let plain = spelt-plain t b v (subst (Spelt t) w g.spelt) in
      let fits = g.fits in let l = length-drop t.size (b ∷ bs) in let m = length-take-le t.size (b ∷ bs) g.fits in let s = ap length w in
      ended _ (front-part i d (b ∷ bs) (omega arith) t o e g.some q)
      (subst (Held _ i d) (ap (λ (u : List ℕ). u ++ drop t.size (b ∷ bs)) (sym w) ∙ take-append-drop t.size (b ∷ bs))
      (held_on d o (b ∷ v) (drop t.size (b ∷ bs)) (open-within b d v plain deep (omega (arith, ok.0, ok.1))) (open-token b d v plain ∙ ok.0) _ i
      (subst (λ k. Held (cut_from 0 o (i + t.size) (drop t.size (b ∷ bs))).fault (i + k) o (drop t.size (b ∷ bs))) (sym m ∙ s) (rest o (i + t.size) (drop t.size (b ∷ bs)) (omega arith) ok.1))))
  token-step t (Err m) e g q =
      ended _ (front-full i d (b ∷ bs) (omega arith) t m e q) (subst (λ (m : Misspelt). Held (Some m) i d (b ∷ bs)) (sym (open-err b d i m q).0) (at_bracket i d (b ∷ bs) deep (open_full b d i m q)))

  step : (p : Result (Option Token) Misspelt) → p ≡ piece_of i (b ∷ bs) → Held (cut_from 0 d i (b ∷ bs)).fault i d (b ∷ bs)
  step (Ok None) e =
      let p = opened-plain b d (blank-plain b (blank-first i (b ∷ bs) e)) in
      ended _ (front-blank i d (b ∷ bs) (omega arith) e)
      (held_on d d (b ∷ []) bs (open-within b d [] plain-nil deep (omega arith)) (open-token b d [] plain-nil ∙ p) _ i
      (subst (λ j. Held (cut_from 0 d (suc i) bs).fault j d bs) (sym (add-one i)) (rest d (suc i) bs short deep)))
  step (Ok (Some t)) e = token-step t (open_after b d i) e (part-good i (b ∷ bs) (omega arith) t (sym e)) refl
  step (Err m) e = ended _ (front-bad i d (b ∷ bs) (omega arith) m e ∙ ap stop (bad-letter i (b ∷ bs) m e)) (at-letter i d (b ∷ bs) deep)

held : (n d i : ℕ) (bs : List ℕ) → length bs ≤ n → d ≤ 64 → Held (cut_from 0 d i bs).fault i d bs
unfolding Held
held n d i [] h s = subst (λ (c : Cut). Held c.fault i d []) (sym (cut-none i d)) (open-nil d s)
held zero d i (b ∷ bs) h s = let bad : ⊥ = omega arith in absurd bad
held (suc n) d i (b ∷ bs) h s = step n d i b bs (omega arith) s (λ d j l q r. held n d j l q r) (piece_of i (b ∷ bs)) refl

by-fault : (text : List ℕ) (f : Option Misspelt) (n : ℕ) → Held f 0 0 text → Bracketed text (answer_by f n)
unfolding Held
by-fault text None n h = λ k _. h k
by-fault text (Some Length) n h = tt
by-fault text (Some (Letter j)) n h = λ k l. h k (omega arith)
by-fault text (Some (Brackets j)) n h = let z : j - 0 ≡ j = omega arith in (λ k l. h.2 k (omega arith), sym (ap (λ m. open_in 0 (take m text)) z) ∙ h.1)

pub bracketed : (text : List ℕ) (f : Option Misspelt) (n : ℕ) → (cut_from 0 0 0 text).fault ≡ f → Bracketed text (answer_by f n)
bracketed text f n e = by-fault text f n (subst (λ (g : Option Misspelt). Held g 0 0 text) e (held (length text) 0 0 text (omega arith) (omega arith)))
