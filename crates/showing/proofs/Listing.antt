-- Kinds in words, one after the other.
use Rattle.std.proofs.Common.{◌≡◌, ℕ, ◌+◌, ◌-◌, ◌<◌, Bool, true, false, cond, List, ◌∷◌, ◌++◌, length, get_or, drop, count_by, sym, refl, ap, ◌∙◌, arith}
use Rattle.std.proofs.lemmas.List.{append_assoc, at_drop_more}
use Rattle.std.proofs.lemmas.List.Sums.{sum_by-drop_more}
use Rattle.std.proofs.lemmas.Bool.{cond-true, cond-false}
use Rattle.letters.specs.declared.kind.Kind.{Kind}
use Rattle.letters.specs.declared.kind.Kind.TheVariants.{Name, Numeral, End, Open, Close, OpenSquare, CloseSquare, Comma, Semicolon, Plus, Minus, Times, Less, AtMost, Equal, Unequal, Becomes}
use Rattle.letters.specs.Every.{kinds}
use Rattle.letters.specs.Kinds.{keywords}
use Rattle.showing.specs.Kinds.{kind_text, joint, listed}

-- every kind, written out
pub every : Name ∷ Numeral ∷ End ∷ Open ∷ Close ∷ OpenSquare ∷ CloseSquare ∷ Comma ∷ Semicolon ∷ Plus ∷ Minus ∷ Times ∷ Less ∷ AtMost ∷ Equal ∷ Unequal ∷ Becomes ∷ keywords ≡ kinds
unfolding kinds
every = refl

pub all_kinds : length kinds ≡ 28
unfolding kinds
all_kinds = refl

module _ (p : Kind → Bool) (xs : List Kind) (i : ℕ) (d : Kind) (h : i < length xs) where
  pub count_yes : p (get_or xs i d) ≡ true → count_by p (drop i xs) ≡ 1 + count_by p (drop (i + 1) xs)
  count_yes e = sum_by-drop_more (λ x. cond (p x) 1 0) xs i d h ∙ ap (λ b. cond b 1 0 + count_by p (drop (i + 1) xs)) e

  count_no : p (get_or xs i d) ≡ false → count_by p (drop i xs) ≡ 0 + count_by p (drop (i + 1) xs)
  count_no e = sum_by-drop_more (λ x. cond (p x) 1 0) xs i d h ∙ ap (λ b. cond b 1 0 + count_by p (drop (i + 1) xs)) e

  listed-yes : p (get_or xs i d) ≡ true → listed p (drop i xs) ≡ kind_text (get_or xs i d) ++ (joint (count_by p (drop (i + 1) xs)) ++ listed p (drop (i + 1) xs))
  unfolding listed
  listed-yes e = at_drop_more (listed p) xs i d h ∙ cond-true (p (get_or xs i d)) _ _ e

  listed-no : p (get_or xs i d) ≡ false → listed p (drop i xs) ≡ listed p (drop (i + 1) xs)
  unfolding listed
  listed-no e = at_drop_more (listed p) xs i d h ∙ cond-false (p (get_or xs i d)) _ _ e

  -- a turn of the loop that writes them: what is written, followed by what is left, stays the same
  pub turn-yes : (n : ℕ) (t u whole : List ℕ) → p (get_or xs i d) ≡ true → n ≡ count_by p (drop i xs) → t ++ listed p (drop i xs) ≡ whole → u ≡ t ++ (kind_text (get_or xs i d) ++ joint (n - 1))
      → (n - 1 ≡ count_by p (drop (i + 1) xs)) × (u ++ listed p (drop (i + 1) xs) ≡ whole)
  turn-yes n t u whole e a b c =
      let y = count_yes e in
      let left : n - 1 ≡ count_by p (drop (i + 1) xs) = omega arith in
      let rest = listed p (drop (i + 1) xs) in
      let word = kind_text (get_or xs i d) in (
        left,
        ap (λ v. v ++ rest) (c ∙ ap (λ m. t ++ (word ++ joint m)) left)
            ∙ append_assoc t (word ++ joint (count_by p (drop (i + 1) xs))) rest
            ∙ ap (λ v. t ++ v) (append_assoc word (joint (count_by p (drop (i + 1) xs))) rest ∙ sym (listed-yes e))
            ∙ b,
      )

  pub turn-no : (n : ℕ) (t whole : List ℕ) → p (get_or xs i d) ≡ false → n ≡ count_by p (drop i xs) → t ++ listed p (drop i xs) ≡ whole → (n ≡ count_by p (drop (i + 1) xs)) × (t ++ listed p (drop (i + 1) xs) ≡ whole)
  turn-no n t whole e a b = let y = count_no e in (omega arith, ap (λ v. t ++ v) (sym (listed-no e)) ∙ b)
