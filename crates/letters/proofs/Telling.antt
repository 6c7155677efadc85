-- The tokens of a cut read the text up to the end or the fault.
use Rattle.std.proofs.Common.{◌≡◌, ℕ, zero, suc, ◌+◌, ◌-◌, ◌<◌, ◌≤◌, Bool, true, false, cond, ltb, List, [], ◌∷◌, ◌++◌, length, get_or, take, drop, Some, None, Ok, Err, Option, Result, sym, refl, ap, ◌∙◌, subst, ap₂, add-one, arith}
use Rattle.std.proofs.lemmas.List.{drop_at, drop-drop, length-append, length-drop, length-take-le, take-append-drop}
use Rattle.letters.specs.declared.kind.Kind.{Kind}
use Rattle.letters.specs.declared.token.Token.{Token}
use Rattle.letters.specs.declared.misspelt.Misspelt.{Misspelt}
use Rattle.letters.specs.declared.misspelt.Misspelt.TheVariants.{Length, Letter, Brackets}
use Rattle.letters.specs.Bytes.{is_blank, is_letter, is_digit, is_opening, is_closing, Gap, Word, Number, Sign}
use Rattle.letters.specs.Cuts.{sign_by, some_token, piece_by, piece_of, open_after, Cut, stop, put, cut_from, answer_by}
use Rattle.letters.specs.Spelling.{Reads, end, blank, token, Told}
use Rattle.letters.proofs.Exact.{spelt-piece, blank-piece, stuck}
use Rattle.letters.proofs.Good.{Good, part-good}
use Rattle.letters.proofs.Pieces.{first-at}
use Rattle.letters.proofs.Steps.{front-blank, front-bad, front-full, front-part, cut-none}

-- why the cut ends where it does
abbrev pub Why : Misspelt → ℕ → List ℕ → Type 0
Why Length j left = ⊥
Why (Letter i) j left = (j ≡ i) × (Err (Letter i) ≡ piece_of i left)
Why (Brackets i) j left = (j ≡ i) × (is_opening (get_or left 0 0) ≡ true)

-- what is left, from place i on, at the end or the fault
abbrev pub Leaves : Option Misspelt → ℕ → List ℕ → List ℕ → Type 0
Leaves None i bs left = left ≡ []
Leaves (Some m) i bs left = (j : ℕ) × (i ≤ j) × (left ≡ drop (j - i) bs) × (0 < length left) × Why m j left

pub record Outcome (i : ℕ) (bs : List ℕ) (c : Cut) : Type 0 where
  pub left : List ℕ
  pub reads : Reads i bs c.tokens left
  pub leaves : Leaves c.fault i bs left

leaves-on : (f : Option Misspelt) (i n : ℕ) (bs left : List ℕ) → Leaves f (i + n) (drop n bs) left → Leaves f i bs left
leaves-on None i n bs left h = h
leaves-on (Some m) i n bs left h =
    let j = h.0 in let le : i + n ≤ h.0 = h.1 in
    (h.0, omega arith, h.2 ∙ drop-drop (h.0 - (i + n)) n bs ∙ ap (λ k. drop k bs) (omega arith), h.3, h.4)

pub blank-first : (i : ℕ) (bs : List ℕ) → Ok None ≡ piece_of i bs → is_blank (get_or bs 0 0) ≡ true
unfolding piece_of
blank-first i bs e = go (is_blank (get_or bs 0 0)) (is_letter (get_or bs 0 0)) (is_digit (get_or bs 0 0)) e
  where
    no_word : (s : Bool) (t : Token) → Ok None ≡ some_token (cond s (Ok t) (Err (Letter i))) → ⊥
    no_word true t h = let no : ◌≡◌ {A = ℕ} 0 1 = cc in omega arith
    no_word false t h = let no : ◌≡◌ {A = ℕ} 0 1 = cc in omega arith

    no_sign : (o : Option Kind) → Ok None ≡ some_token (sign_by i o) → ⊥
    no_sign None h = let no : ◌≡◌ {A = ℕ} 0 1 = cc in omega arith
    no_sign (Some k) h = let no : ◌≡◌ {A = ℕ} 0 1 = cc in omega arith

    go : (p q r : Bool) → Ok None ≡ piece_by (cond p Gap (cond q Word (cond r Number Sign))) i bs → p ≡ true
    go true q r h = refl
    go false true r h = absurd (no_word _ _ h)
    go false false true h = absurd (no_word _ _ h)
    go false false false h = absurd (no_sign _ h)

pub bad-letter : (i : ℕ) (bs : List ℕ) (m : Misspelt) → Err m ≡ piece_of i bs → m ≡ Letter i
unfolding piece_of
bad-letter i bs m e = go (is_blank (get_or bs 0 0)) (is_letter (get_or bs 0 0)) (is_digit (get_or bs 0 0)) e
  where
    on-run : (s : Bool) (t : Token) → Err m ≡ some_token (cond s (Ok t) (Err (Letter i))) → m ≡ Letter i
    on-run true t h = cc
    on-run false t h = cc

    on-sign : (o : Option Kind) → Err m ≡ some_token (sign_by i o) → m ≡ Letter i
    on-sign None h = cc
    on-sign (Some k) h = cc

    go : (p q r : Bool) → Err m ≡ piece_by (cond p Gap (cond q Word (cond r Number Sign))) i bs → m ≡ Letter i
    go true q r h = cc
    go false true r h = on-run _ _ h
    go false false true h = on-run _ _ h
    go false false false h = on-sign _ h

pub open-err : (b d i : ℕ) (m : Misspelt) → Err m ≡ open_after b d i → (m ≡ Brackets i) × (is_opening b ≡ true)
open-err b d i m e = go (is_opening b) (ltb d 64) e
  where
    go : (p q : Bool) → Err m ≡ cond p (cond q (Ok (d + 1)) (Err (Brackets i))) (Ok (cond (is_closing b) (d - 1) d)) → (m ≡ Brackets i) × (p ≡ true)
    go true q h = (elim q as (λ v. Err m ≡ cond v (Ok (d + 1)) (Err (Brackets i)) → m ≡ Brackets i) [ true ↦ λ h. cc | false ↦ λ h. cc ] h, refl)
    go false q h = (cc, cc)

module _ (i : ℕ) (bs : List ℕ) (full : 0 < length bs) where
  on-token : (t : Token) (c : Cut) → Good i bs t → Outcome (i + t.size) (drop t.size bs) c → Outcome i bs (put t c)
  on-token t c g o =
      let w = length-take-le t.size bs g.fits in
      record {
        left = o.left;
        reads = subst (λ (l : List ℕ). Reads i l (t ∷ c.tokens) o.left) (take-append-drop t.size bs)
            (token g.place (sym w) (omega (arith, g.some)) g.spelt g.longest (subst (λ n. Reads (i + n) (drop t.size bs) c.tokens o.left) (sym w) o.reads));
        leaves = leaves-on c.fault i t.size bs o.left o.leaves;
      }

  stopped : (m : Misspelt) → Why m i bs → Outcome i bs (stop m)
  stopped m w = let z : 0 ≡ i - i = omega arith in record { left = bs; reads = end; leaves = (i, omega arith, ap (λ k. drop k bs) z, full, w) }

on-blank : (i b : ℕ) (bs : List ℕ) (c : Cut) → is_blank b ≡ true → Outcome (suc i) bs c → Outcome i (b ∷ bs) c
on-blank i b bs c e o = record { left = o.left; reads = blank e o.reads; leaves = leaves-on c.fault i 1 (b ∷ bs) o.left (subst (λ j. Leaves c.fault j bs o.left) (sym (add-one i)) o.leaves) }

module _ (n d i b : ℕ) (bs : List ℕ) (short : length bs ≤ n) (rest : (d i : ℕ) (l : List ℕ) → length l ≤ n → Outcome i l (cut_from 0 d i l)) where
  token-step : (t : Token) (r : Result ℕ Misspelt) → Ok (Some t) ≡ piece_of i (b ∷ bs) → Good i (b ∷ bs) t → r ≡ open_after b d i → Outcome i (b ∷ bs) (cut_from 0 d i (b ∷ bs))
  token-step t (Ok o) e g q =
      let some = g.some in
      let l = length-drop t.size (b ∷ bs) in
      subst (Outcome i (b ∷ bs)) (sym (front-part i d (b ∷ bs) (omega arith) t o e g.some q)) (on-token i (b ∷ bs) (omega arith) t _ g (rest o (i + t.size) (drop t.size (b ∷ bs)) (omega arith)))
  token-step t (Err m) e g q =
      let o = open-err b d i m q in
      subst (Outcome i (b ∷ bs)) (ap stop (sym o.0) ∙ sym (front-full i d (b ∷ bs) (omega arith) t m e q)) (stopped i (b ∷ bs) (omega arith) (Brackets i) (refl, o.1))

  step : (p : Result (Option Token) Misspelt) → p ≡ piece_of i (b ∷ bs) → Outcome i (b ∷ bs) (cut_from 0 d i (b ∷ bs))
  step (Ok None) e = subst (Outcome i (b ∷ bs)) (sym (front-blank i d (b ∷ bs) (omega arith) e)) (on-blank i b bs _ (blank-first i (b ∷ bs) e) (rest d (suc i) bs short))
  step (Ok (Some t)) e = token-step t (open_after b d i) e (part-good i (b ∷ bs) (omega arith) t (sym e)) refl
  step (Err m) e = subst (Outcome i (b ∷ bs)) (sym (front-bad i d (b ∷ bs) (omega arith) m e ∙ ap stop (bad-letter i (b ∷ bs) m e))) (stopped i (b ∷ bs) (omega arith) (Letter i) (refl, ap Err (sym (bad-letter i (b ∷ bs) m e)) ∙ e))

pub outcome : (n d i : ℕ) (bs : List ℕ) → length bs ≤ n → Outcome i bs (cut_from 0 d i bs)
outcome n d i [] h = subst (Outcome i []) (sym (cut-none i d)) (record { left = []; reads = end; leaves = refl })
outcome zero d i (b ∷ bs) h = let bad : ⊥ = omega arith in absurd bad
outcome (suc n) d i (b ∷ bs) h = step n d i b bs (omega arith) (λ d j l q. outcome n d j l q) (piece_of i (b ∷ bs)) refl

-- a text that is cut to its end is read in this way only
pub only : {i : ℕ} {bs left : List ℕ} {ts : List Token} → Reads i bs ts left → (d : ℕ) → left ≡ [] → (cut_from 0 d i bs).fault ≡ None → ts ≡ (cut_from 0 d i bs).tokens
only (end {i} {left}) d e f = sym (ap (λ (l : List ℕ). (cut_from 0 d i l).tokens) e ∙ ap (λ (c : Cut). c.tokens) (cut-none i d))
only (blank {i} {b} {bs} q r) d e f =
    let s = front-blank i d (b ∷ bs) (omega arith) (blank-piece i (b ∷ bs) q) in
    only r d e (ap (λ (c : Cut). c.fault) (sym s) ∙ f) ∙ ap (λ (c : Cut). c.tokens) (sym s)
only (token {i} {w} {bs} {left} {t} {ts} place size some spelt far r) d e f = go (open_after (get_or (w ++ bs) 0 0) d i) refl (λ o q. only r o e q)
  where
    go : (a : Result ℕ Misspelt) → a ≡ open_after (get_or (w ++ bs) 0 0) d i → ((o : ℕ) → (cut_from 0 o (i + length w) bs).fault ≡ None → ts ≡ (cut_from 0 o (i + length w) bs).tokens) → t ∷ ts ≡ (cut_from 0 d i (w ++ bs)).tokens
    go (Ok o) q rest =
        let long = length-append w bs in
        let s = front-part i d (w ++ bs) (omega arith) t o (spelt-piece i t w bs place size some spelt far) (omega arith) q ∙ ap₂ (λ n (l : List ℕ). put t (cut_from 0 o (i + n) l)) size (drop_at w bs t.size (sym size)) in
        ap (λ (us : List Token). t ∷ us) (rest o (ap (λ (c : Cut). c.fault) (sym s) ∙ f)) ∙ ap (λ (c : Cut). c.tokens) (sym s)
    go (Err m) q rest =
        let long = length-append w bs in
        let s = front-full i d (w ++ bs) (omega arith) t m (spelt-piece i t w bs place size some spelt far) q in
        let stops : ◌≡◌ {A = Option Misspelt} (Some m) None = ap (λ (c : Cut). c.fault) (sym s) ∙ f in
        let no : ◌≡◌ {A = ℕ} 0 1 = cc in let bad : ⊥ = omega arith in absurd bad

pub told-by : (text : List ℕ) (ts new : List Token) (f : Option Misspelt) (left : List ℕ) → take (length ts) new ≡ ts → (f ≡ None → (us : List Token) → Reads 0 text us [] → us ≡ ts) → Reads 0 text ts left → Leaves f 0 text left → Told text (answer_by f (length ts)) new
told-by text ts new None left e sole r l = (subst (λ (us : List Token). Reads 0 text us []) (sym e) (subst (Reads 0 text ts) l r), λ us h. sole refl us h ∙ sym e)
told-by text ts new (Some Length) left e sole r l = absurd l.4
told-by text ts new (Some (Letter i)) left e sole r l =
    let p : left ≡ drop i text = l.2 ∙ ap (λ k. drop k text) (omega (arith, l.4.0)) in
    let n = ap length p ∙ length-drop i text in
    (omega (arith, l.3), (length ts, subst (λ (us : List Token). Reads 0 text us (drop i text)) (sym e) (subst (Reads 0 text ts) p r)), stuck i (drop i text) (l.4.1 ∙ ap (piece_of i) p))
told-by text ts new (Some (Brackets i)) left e sole r l =
    let p : left ≡ drop i text = l.2 ∙ ap (λ k. drop k text) (omega (arith, l.4.0)) in
    let n = ap length p ∙ length-drop i text in (
      omega (arith, l.3),
      (length ts, subst (λ (us : List Token). Reads 0 text us (drop i text)) (sym e) (subst (Reads 0 text ts) p r)),
      ap is_opening (sym (first-at text i) ∙ ap (λ (l : List ℕ). get_or l 0 0) (sym p)) ∙ l.4.1,
    )
