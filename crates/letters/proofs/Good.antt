-- The token at a place is spelt there, and could not be longer.
use Rattle.std.proofs.Common.{◌≡◌, ℕ, ◌+◌, ◌<◌, ◌≤◌, Bool, true, false, cond, eqb, leb, ◌⊎◌, List, [], ◌∷◌, ◌++◌, length, get_or, take, drop, Some, None, Option, sym, refl, ap, ◌∙◌, subst, ap₂, inl, inr, arith, Ok, Err}
use Rattle.std.proofs.ByRecursion.{All-get_or}
use Rattle.std.proofs.lemmas.List.{length-drop, length-take-le, get_or-take, get_or-drop, get_or_past, take_more}
use Rattle.std.proofs.lemmas.List.Sums.{prefix_len-le-length}
use Rattle.std.proofs.lemmas.Bool.{leb-true, both_ways, eqb-true, eq-eqb, cases_lt}
use Rattle.std.proofs.lemmas.Bool.Decides.{nat_tests}
use Rattle.std.specs.Str.Parse.{digits_value}
use Rattle.std.specs.List.{prefix_len, AllByRecursion}
use Rattle.letters.specs.declared.kind.Kind.{Kind}
use Rattle.letters.specs.declared.kind.Kind.TheVariants.{Name, Numeral}
use Rattle.letters.specs.declared.token.Token.{Token}
use Rattle.letters.specs.declared.misspelt.Misspelt.TheVariants.{Letter}
use Rattle.letters.specs.Bytes.{is_blank, is_letter, is_digit, EachLetter, EachDigit, Gap, Word, Number, Sign}
use Rattle.letters.specs.Cuts.{word_at, numeral_at, sign_of, sign_by, sign_at, some_token, piece_by, piece_of}
use Rattle.letters.specs.Kinds.{word, keyword_of, keywords, written_so}
use Rattle.letters.specs.Spelling.{Spelt, name, numeral, fixed, Grows, by-letter, by-digit, to-sign, Longest}
use Rattle.letters.specs.Tokens.{token_of}
use Rattle.letters.proofs.Running.{run-passes, run_ends, run-some}
use Rattle.letters.proofs.Signs.{short, long, sign-is, Longer, letters, equals, longer}
use Rattle.letters.proofs.Signs as signs
use Rattle.letters.proofs.Sorts.{Mark}
use Rattle.letters.proofs.Writing.{written_as}

pub record Good (i : ℕ) (bs : List ℕ) (t : Token) : Type 0 where
  pub place : t.place ≡ i
  pub some : 0 < t.size
  pub fits : t.size ≤ length bs
  pub spelt : Spelt t (take t.size bs)
  pub longest : Longest (take t.size bs) (drop t.size bs)

letter-digit : (x : ℕ) → is_letter x ≡ true → is_digit x ≡ true → ⊥
letter-digit x l d = let no : ◌≡◌ {A = ℕ} 0 1 = grind (arith, nat_tests) in omega arith

not-mark : (x c : ℕ) → x ≡ c → Mark c → (x ≡ 60 → ⊥) × (x ≡ 33 → ⊥) × (x ≡ 58 → ⊥) → ⊥
not-mark x c e (inl h) n = n.0 (e ∙ h)
not-mark x c e (inr (inl h)) n = n.1 (e ∙ h)
not-mark x c e (inr (inr h)) n = n.2 (e ∙ h)

-- a byte that is no letter, digit or = makes nothing longer, and these only what they go on with
module _ (w : List ℕ) (b : ℕ) (some : 0 < length w) (nl : EachLetter w → is_letter b ≡ true → ⊥) (nd : EachDigit w → is_digit b ≡ true → ⊥) (ns : (c : ℕ) → w ≡ c ∷ [] → Mark c → b ≡ 61 → ⊥) where
  no_sign : Longer w b → ⊥
  no_sign (letters l h) = nl l h
  no_sign (equals c e m h) = ns c e m h

  no-growth : Grows w b → ⊥
  no-growth (by-letter l h) = nl l h
  no-growth (by-digit d h) = nd d h
  no-growth (to-sign k e) = no_sign (longer w b some k e)

module _ (i : ℕ) (bs : List ℕ) (full : 0 < length bs) where
  -- what holds of all bytes of a token holds of its first
  first-kept : (n : ℕ) → 0 < n → n ≤ length bs → (P : ℕ → Type 0) → AllByRecursion P (take n bs) → P (get_or bs 0 0)
  first-kept n h l P a = subst P (get_or-take n bs 0 0 h) (All-get_or P (take n bs) 0 0 (let e = length-take-le n bs l in omega arith) a)

  -- the only byte of a token of one byte
  only_kept : (n : ℕ) → 0 < n → n ≤ length bs → (c : ℕ) → take n bs ≡ c ∷ [] → get_or bs 0 0 ≡ c
  only_kept n h l c e = first-kept n h l (λ y. y ≡ c) (subst (AllByRecursion (λ y. y ≡ c)) (sym e) (refl, tt))

  word-longest : is_letter (get_or bs 0 0) ≡ true → Longest (take (prefix_len is_letter bs) bs) (drop (prefix_len is_letter bs) bs)
  word-longest f b more e =
      let n = prefix_len is_letter bs in
      let some = run-some is_letter bs full f in
      let fits = prefix_len-le-length is_letter bs in
      let after = run_ends is_letter bs b more e in
      let long = length-take-le n bs fits in
      no-growth (take n bs) b (omega arith)
      (λ l h. both_ways (is_letter b) after h)
      (λ d h. letter-digit (get_or bs 0 0) f (first-kept n some fits (λ y. is_digit y ≡ true) d))
      (λ c q m h. let x = only_kept n some fits c q in let no : ◌≡◌ {A = ℕ} 0 1 = grind (arith, nat_tests) in omega arith)

  numeral-longest : is_digit (get_or bs 0 0) ≡ true → Longest (take (prefix_len is_digit bs) bs) (drop (prefix_len is_digit bs) bs)
  numeral-longest f b more e =
      let n = prefix_len is_digit bs in
      let some = run-some is_digit bs full f in
      let fits = prefix_len-le-length is_digit bs in
      let after = run_ends is_digit bs b more e in
      let long = length-take-le n bs fits in
      no-growth (take n bs) b (omega arith)
      (λ l h. letter-digit (get_or bs 0 0) (first-kept n some fits (λ y. is_letter y ≡ true) l) f)
      (λ d h. both_ways (is_digit b) after h)
      (λ c q m h. let x = only_kept n some fits c q in let no : ◌≡◌ {A = ℕ} 0 1 = grind (arith, nat_tests) in omega arith)

  word-spelt : (w : List ℕ) (n : ℕ) → EachLetter w → length w ≤ 16 → (written_so w keywords ≡ Name) ⊎ (w ≡ word (written_so w keywords)) → Spelt (token_of (keyword_of w) i n 0) w
  word-spelt w n a l (inl h) = name h a l h refl
  word-spelt w n a l (inr h) = fixed h refl

  word_good : is_letter (get_or bs 0 0) ≡ true → (t : Token) → some_token (word_at i bs) ≡ Ok (Some t) → Good i bs t
  word_good f t e = go (leb (prefix_len is_letter bs) 16) refl e
    where
      go : (s : Bool) → leb (prefix_len is_letter bs) 16 ≡ s → some_token (cond s (Ok (token_of (keyword_of (take (prefix_len is_letter bs) bs)) i (prefix_len is_letter bs) 0)) (Err (Letter i))) ≡ Ok (Some t) → Good i bs t
      go true q h =
          let fits = prefix_len-le-length is_letter bs in
          let long = length-take-le (prefix_len is_letter bs) bs fits in
          let small = leb-true _ _ q in
          let same : token_of (keyword_of (take (prefix_len is_letter bs) bs)) i (prefix_len is_letter bs) 0 ≡ t = cc in
          subst (Good i bs) same (record { place = refl; some = run-some is_letter bs full f; fits = fits; spelt = word-spelt (take (prefix_len is_letter bs) bs) _ (run-passes is_letter bs) (omega arith) (written_as (take (prefix_len is_letter bs) bs) keywords); longest = word-longest f })
      go false q h = let no : ◌≡◌ {A = ℕ} 0 1 = cc in let bad : ⊥ = omega arith in absurd bad

  numeral-good : is_digit (get_or bs 0 0) ≡ true → (t : Token) → some_token (numeral_at i bs) ≡ Ok (Some t) → Good i bs t
  numeral-good f t e = go (leb (prefix_len is_digit bs) 6) refl e
    where
      go : (s : Bool) → leb (prefix_len is_digit bs) 6 ≡ s → some_token (cond s (Ok (token_of Numeral i (prefix_len is_digit bs) (digits_value 10 (take (prefix_len is_digit bs) bs)))) (Err (Letter i))) ≡ Ok (Some t) → Good i bs t
      go true q h =
          let fits = prefix_len-le-length is_digit bs in
          let long = length-take-le (prefix_len is_digit bs) bs fits in
          let small = leb-true _ _ q in
          let same : token_of Numeral i (prefix_len is_digit bs) (digits_value 10 (take (prefix_len is_digit bs) bs)) ≡ t = cc in
          subst (Good i bs) same (record { place = refl; some = run-some is_digit bs full f; fits = fits; spelt = numeral refl (run-passes is_digit bs) (omega arith) refl; longest = numeral-longest f })
      go false q h = let no : ◌≡◌ {A = ℕ} 0 1 = cc in let bad : ⊥ = omega arith in absurd bad

  fixed-good : (k : Kind) (w : List ℕ) → word k ≡ w → take (length w) bs ≡ w → 0 < length w → length w ≤ length bs → Longest w (drop (length w) bs) → Good i bs (token_of k i (length (word k)) 0)
  fixed-good k w e f some fits far =
      let n : length (word k) ≡ length w = ap length e in
      let here : take (length (word k)) bs ≡ w = ap (λ m. take m bs) n ∙ f in
      record {
        place = refl;
        some = omega arith;
        fits = omega arith;
        spelt = fixed (here ∙ sym e) refl;
        longest = λ b more q g. far b more (ap (λ m. drop m bs) (sym n) ∙ q) (subst (λ (v : List ℕ). Grows v b) here g);
      }

  module _ (f : is_letter (get_or bs 0 0) ≡ false) (g : is_digit (get_or bs 0 0) ≡ false) where
    no-letter : (n : ℕ) → 0 < n → n ≤ length bs → EachLetter (take n bs) → ⊥
    no-letter n h l a = both_ways (is_letter (get_or bs 0 0)) f (first-kept n h l (λ y. is_letter y ≡ true) a)

    no_digit : (n : ℕ) → 0 < n → n ≤ length bs → EachDigit (take n bs) → ⊥
    no_digit n h l a = both_ways (is_digit (get_or bs 0 0)) g (first-kept n h l (λ y. is_digit y ≡ true) a)

    second_fits : eqb (get_or bs 1 0) 61 ≡ true → 1 < length bs
    second_fits e = go (cases_lt 1 (length bs))
      where
        go : (1 < length bs) ⊎ (length bs ≤ 1) → 1 < length bs
        go (inl h) = h
        go (inr h) = let p = get_or_past bs 1 0 h in let q = eqb-true _ _ e in let bad : ⊥ = omega arith in absurd bad

    sign-tok : (k : Kind) → signs.Sign (get_or bs 0 0) (eqb (get_or bs 1 0) 61) k → Good i bs (token_of k i (length (word k)) 0)
    sign-tok k (short e n) =
        let one : take 1 bs ≡ (get_or bs 0 0) ∷ [] = take_more bs 0 0 full in
        fixed-good k ((get_or bs 0 0) ∷ []) e one (omega arith) full
        (λ b more q. no-growth ((get_or bs 0 0) ∷ []) b (omega arith)
        (λ l h. no-letter 1 (omega arith) full (subst EachLetter (sym one) l))
        (λ d h. no_digit 1 (omega arith) full (subst EachDigit (sym one) d))
        (λ c p m h. not-mark (get_or bs 0 0) c (cc) m (n (eq-eqb _ _ (sym (get_or-drop 1 bs 0 0) ∙ ap (λ (l : List ℕ). get_or l 0 0) q ∙ h)))))
    sign-tok k (long e n) =
        let fits = second_fits n in
        let two : take 2 bs ≡ get_or bs 0 0 ∷ 61 ∷ [] = take_more bs 1 0 fits ∙ ap₂ (λ (l : List ℕ) b. l ++ b ∷ []) (take_more bs 0 0 full) (eqb-true _ _ n) in
        fixed-good k ((get_or bs 0 0) ∷ 61 ∷ []) e two (omega arith) fits
        (λ b more q. no-growth ((get_or bs 0 0) ∷ 61 ∷ []) b (omega arith)
        (λ l h. no-letter 2 (omega arith) fits (subst EachLetter (sym two) l))
        (λ d h. no_digit 2 (omega arith) fits (subst EachDigit (sym two) d))
        (λ c p m h. let no : ◌≡◌ {A = ℕ} 2 1 = ap length p in omega arith))

    sign-good : (t : Token) → some_token (sign_at i bs) ≡ Ok (Some t) → Good i bs t
    sign-good t e = go (sign_of (get_or bs 0 0) (eqb (get_or bs 1 0) 61)) refl e
      where
        go : (o : Option Kind) → sign_of (get_or bs 0 0) (eqb (get_or bs 1 0) 61) ≡ o → some_token (sign_by i o) ≡ Ok (Some t) → Good i bs t
        go None q h = let no : ◌≡◌ {A = ℕ} 0 1 = cc in let bad : ⊥ = omega arith in absurd bad
        go (Some k) q h = let same : token_of k i (length (word k)) 0 ≡ t = cc in subst (Good i bs) same (sign-tok k (sign-is (get_or bs 0 0) (eqb (get_or bs 1 0) 61) k q))

  pub part-good : (t : Token) → piece_of i bs ≡ Ok (Some t) → Good i bs t
  unfolding piece_of
  part-good t e = go (is_blank (get_or bs 0 0)) (is_letter (get_or bs 0 0)) (is_digit (get_or bs 0 0)) refl refl e
    where
      go : (p q r : Bool) → is_letter (get_or bs 0 0) ≡ q → is_digit (get_or bs 0 0) ≡ r → piece_by (cond p Gap (cond q Word (cond r Number Sign))) i bs ≡ Ok (Some t) → Good i bs t
      go true q r f g h = let no : ◌≡◌ {A = ℕ} 0 1 = cc in let bad : ⊥ = omega arith in absurd bad
      go false true r f g h = word_good f t h
      go false false true f g h = numeral-good g t h
      go false false false f g h = sign-good f g t h

-- a token has a byte, and lies in the text
pub part-fits : (xs : List ℕ) (i : ℕ) (t : Token) → i < length xs → Ok (Some t) ≡ piece_of i (drop i xs) → (0 < t.size) × (i + t.size ≤ length xs)
part-fits xs i t h e = let l = length-drop i xs in let g = part-good i (drop i xs) (omega arith) t (sym e) in (g.some, omega (arith, g.fits))
