-- A token that is spelt at the front, and could not be longer, is the piece there.
use Rattle.std.proofs.Common.{◌≡◌, ℕ, ◌<◌, ◌≤◌, Bool, true, false, cond, List, [], ◌∷◌, ◌++◌, length, get_or, sym, refl, ap, ◌∙◌, subst, ap₂, arith, Ok, Some, None, Err}
use Rattle.std.proofs.ByRecursion.{All-get_or}
use Rattle.std.proofs.lemmas.List.{get_or_append_left, take_at}
use Rattle.std.proofs.lemmas.Bool.{le-leb}
use Rattle.std.proofs.lemmas.Bool.Decides.{nat_tests}
use Rattle.std.specs.Str.Parse.{digits_value}
use Rattle.std.specs.List.{AllByRecursion}
use Rattle.letters.specs.declared.kind.Kind.{Kind}
use Rattle.letters.specs.declared.kind.Kind.TheVariants.{Name, Numeral}
use Rattle.letters.specs.declared.token.Token.{Token}
use Rattle.letters.specs.declared.misspelt.Misspelt.TheVariants.{Letter}
use Rattle.letters.specs.Bytes.{is_blank, is_letter, is_digit, EachLetter, EachDigit, lead_of, Gap, Word, Number, Sign}
use Rattle.letters.specs.Cuts.{word_by, numeral_by, some_token, piece_by, piece_of}
use Rattle.letters.specs.Kinds.{word, keyword_of}
use Rattle.letters.specs.Spelling.{Spelt, name, numeral, fixed, by-letter, by-digit, Longest, Stuck}
use Rattle.letters.specs.Tokens.{token_of}
use Rattle.letters.proofs.Running.{run-exact}
use Rattle.letters.proofs.Sorts.{Sort, bare, keyword, lone, pair, sort-of}

-- what holds of a token's bytes holds of the first byte there
first_of : (P : ℕ → Type 0) (w after : List ℕ) → 0 < length w → AllByRecursion P w → P (get_or (w ++ after) 0 0)
first_of P w after h a = subst P (sym (get_or_append_left w after 0 0 h)) (All-get_or P w 0 0 h a)

letter-leads : (b : ℕ) → is_letter b ≡ true → lead_of b ≡ Word
letter-leads b e = grind (arith, nat_tests)

digit-leads : (b : ℕ) → is_digit b ≡ true → lead_of b ≡ Number
digit-leads b e = grind (arith, nat_tests)

-- the byte after a token does not go on with it
ends-run : (p : ℕ → Bool) (after : List ℕ) → ((b : ℕ) (more : List ℕ) → after ≡ b ∷ more → p b ≡ true → ⊥) → (b : ℕ) (more : List ℕ) → after ≡ b ∷ more → p b ≡ false
ends-run p after h b more e = go (p b) refl
  where
    go : (t : Bool) → p b ≡ t → t ≡ false
    go true q = absurd (h b more e q)
    go false q = refl

module _ (i : ℕ) (w after : List ℕ) (some : 0 < length w) (far : Longest w after) where
  word_piece : EachLetter w → length w ≤ 16 → piece_of i (w ++ after) ≡ Ok (Some (token_of (keyword_of w) i (length w) 0))
  unfolding piece_of
  word_piece a l =
      let n = run-exact is_letter w after a (ends-run is_letter after (λ b more e h. far b more e (by-letter a h))) in
      ap (λ d. piece_by d i (w ++ after)) (letter-leads (get_or (w ++ after) 0 0) (first_of (λ b. is_letter b ≡ true) w after some a))
      ∙ ap (λ m. some_token (word_by i (w ++ after) m)) n
      ∙ ap₂ (λ t (v : List ℕ). some_token (cond t (Ok (token_of (keyword_of v) i (length w) 0)) (Err (Letter i)))) (le-leb (length w) 16 l) (take_at w after (length w) refl)

  numeral-piece : EachDigit w → length w ≤ 6 → piece_of i (w ++ after) ≡ Ok (Some (token_of Numeral i (length w) (digits_value 10 w)))
  unfolding piece_of
  numeral-piece a l =
      let n = run-exact is_digit w after a (ends-run is_digit after (λ b more e h. far b more e (by-digit a h))) in
      ap (λ d. piece_by d i (w ++ after)) (digit-leads (get_or (w ++ after) 0 0) (first_of (λ b. is_digit b ≡ true) w after some a))
      ∙ ap (λ m. some_token (numeral_by i (w ++ after) m)) n
      ∙ ap₂ (λ t (v : List ℕ). some_token (cond t (Ok (token_of Numeral i (length w) (digits_value 10 v))) (Err (Letter i)))) (le-leb (length w) 6 l) (take_at w after (length w) refl)

-- a keyword or a sign
fixed-piece : (i : ℕ) (after : List ℕ) (k : Kind) → 0 < length (word k) → Longest (word k) after → piece_of i (word k ++ after) ≡ Ok (Some (token_of k i (length (word k)) 0))
fixed-piece i after k some far = go (sort-of k)
  where
    written : (w : List ℕ) → word k ≡ w → piece_of i (w ++ after) ≡ Ok (Some (token_of k i (length w) 0)) → piece_of i (word k ++ after) ≡ Ok (Some (token_of k i (length (word k)) 0))
    written w e h = subst (λ (v : List ℕ). piece_of i (v ++ after) ≡ Ok (Some (token_of k i (length v) 0))) (sym e) h

    go : Sort k → piece_of i (word k ++ after) ≡ Ok (Some (token_of k i (length (word k)) 0))
    go (bare h) = let n = ap length h in let bad : ⊥ = omega arith in absurd bad
    go (keyword a l h) = word_piece i (word k) after some far a l ∙ ap (λ j. Ok (Some (token_of j i (length (word k)) 0))) h
    go (lone c h f) = written (c ∷ []) h (f i after (subst (λ (v : List ℕ). Longest v after) h far))
    go (pair c m h f) = written (c ∷ 61 ∷ []) h (f i after)

token-is : (t : Token) (k : Kind) (i n v : ℕ) → t.kind ≡ k → t.place ≡ i → t.size ≡ n → t.value ≡ v → t ≡ token_of k i n v
token-is t k i n v a b c d = ap₂ (λ k i. token_of k i t.size t.value) a b ∙ ap₂ (λ n v. token_of k i n v) c d

pub spelt-piece : (i : ℕ) (t : Token) (w after : List ℕ) → t.place ≡ i → t.size ≡ length w → 0 < length w → Spelt t w → Longest w after → Ok (Some t) ≡ piece_of i (w ++ after)
spelt-piece i t w after p s some (name k a l e v) far =
    ap (λ u. Ok (Some u)) (token-is t Name i (length w) 0 k p s v) ∙ ap (λ j. Ok (Some (token_of j i (length w) 0))) (sym e) ∙ sym (word_piece i w after some far a l)
spelt-piece i t w after p s some (numeral k a l v) far =
    ap (λ u. Ok (Some u)) (token-is t Numeral i (length w) (digits_value 10 w) k p s v) ∙ sym (numeral-piece i w after some far a l)
spelt-piece i t w after p s some (fixed e v) far =
    ap (λ u. Ok (Some u)) (token-is t t.kind i (length (word t.kind)) 0 refl p (s ∙ ap length e) v)
    ∙ sym (fixed-piece i after t.kind (subst (λ (u : List ℕ). 0 < length u) e some) (subst (λ (u : List ℕ). Longest u after) e far))
    ∙ ap (λ (u : List ℕ). piece_of i (u ++ after)) (sym e)

pub blank-piece : (i : ℕ) (bs : List ℕ) → is_blank (get_or bs 0 0) ≡ true → Ok None ≡ piece_of i bs
unfolding piece_of
blank-piece i bs e = sym (ap (λ t. piece_by (cond t Gap (cond (is_letter (get_or bs 0 0)) Word (cond (is_digit (get_or bs 0 0)) Number Sign))) i bs) e)

-- the spelling says nothing of the place
respelt : (t : Token) (i : ℕ) (w : List ℕ) → Spelt t w → Spelt (token_of t.kind i (length w) t.value) w
respelt t i w (name k a l e v) = name k a l e v
respelt t i w (numeral k a l v) = numeral k a l v
respelt t i w (fixed e v) = fixed e v

-- where no piece is, nothing is spelt
pub stuck : (i : ℕ) (left : List ℕ) → Err (Letter i) ≡ piece_of i left → Stuck left
stuck i left bad = (go (is_blank (get_or left 0 0)) refl, no-token)
  where
    go : (t : Bool) → is_blank (get_or left 0 0) ≡ t → t ≡ false
    go true q = let e = blank-piece i left q ∙ sym bad in cc
    go false q = refl

    no-token : (t : Token) (w after : List ℕ) → left ≡ w ++ after → 0 < length w → Spelt t w → Longest w after → ⊥
    no-token t w after e some spelt far =
        let p = spelt-piece i (token_of t.kind i (length w) t.value) w after refl refl some (respelt t i w spelt) far ∙ ap (piece_of i) (sym e) ∙ sym bad in
        let no : ◌≡◌ {A = ℕ} 0 1 = cc in omega arith
