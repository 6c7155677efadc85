-- How signs are written, and which bytes make a keyword or a sign longer.
use Rattle.std.proofs.Common.{◌≡◌, ℕ, ◌<◌, Bool, true, false, cond, ◌&&◌, eqb, List, [], ◌∷◌, ◌++◌, length, Some, Option, sym, refl, ap, ◌∙◌, subst, arith}
use Rattle.std.proofs.lemmas.List.{length_push, same_from_push}
use Rattle.std.proofs.lemmas.Bool.{eqb-true, and_parts, and_from, both_ways}
use Rattle.std.specs.List.{AllByRecursion}
use Rattle.letters.specs.declared.kind.Kind.{Kind}
use Rattle.letters.specs.declared.kind.Kind.TheVariants.{Open, Close, OpenSquare, CloseSquare, Comma, Semicolon, Plus, Minus, Times, Less, AtMost, Equal, Unequal, Becomes}
use Rattle.letters.specs.Bytes.{is_letter, EachLetter}
use Rattle.letters.specs.Cuts.{sign_of}
use Rattle.letters.specs.Kinds.{word}
use Rattle.letters.proofs.Sorts.{Mark, Sort, bare, keyword, lone, pair, sort-of}

-- a sign of one byte, with which no equals sign goes, or of two
pub data Sign (x : ℕ) (e : Bool) (k : Kind) : Type 0 where
  short : word k ≡ x ∷ [] → (e ≡ true → (x ≡ 60 → ⊥) × (x ≡ 33 → ⊥) × (x ≡ 58 → ⊥)) → Sign x e k
  long : word k ≡ x ∷ 61 ∷ [] → e ≡ true → Sign x e k

pick : {P : Type 0} (b : Bool) (j : Kind) (y : Option Kind) (k : Kind) → cond b (Some j) y ≡ Some k → (b ≡ true → j ≡ k → P) → (b ≡ false → y ≡ Some k → P) → P
pick true j y k h f g = let e : j ≡ k = cc in f refl e
pick false j y k h f g = g refl h

module _ (x : ℕ) (e : Bool) (k : Kind) where
  two : (c : ℕ) (j : Kind) → word j ≡ c ∷ 61 ∷ [] → (eqb x c && e) ≡ true → j ≡ k → Sign x e k
  two c j w t q = let p = and_parts (eqb x c) e t in long (ap word (sym q) ∙ w ∙ ap (λ y. y ∷ 61 ∷ []) (sym (eqb-true x c p.0))) p.1

  one : (c : ℕ) (j : Kind) → word j ≡ c ∷ [] → (c ≡ 60 → ⊥) → (c ≡ 33 → ⊥) → (c ≡ 58 → ⊥) → eqb x c ≡ true → j ≡ k → Sign x e k
  one c j w n m o t q = let h = eqb-true x c t in short (ap word (sym q) ∙ w ∙ ap (λ y. y ∷ []) (sym h)) (λ _. (λ z. n (sym h ∙ z), λ z. m (sym h ∙ z), λ z. o (sym h ∙ z)))

  less : (eqb x 60 && e) ≡ false → eqb x 60 ≡ true → Less ≡ k → Sign x e k
  less f t q = let h = eqb-true x 60 t in short (ap word (sym q) ∙ ap (λ y. y ∷ []) (sym h)) (λ s. (λ z. both_ways (eqb x 60 && e) f (and_from (eqb x 60) e t s), λ z. omega arith, λ z. omega arith))

  pub sign-is : sign_of x e ≡ Some k → Sign x e k
  sign-is h =
      pick (eqb x 60 && e) AtMost _ k h (two 60 AtMost refl) (λ f h.
      pick (eqb x 33 && e) Unequal _ k h (two 33 Unequal refl) (λ _ h.
      pick (eqb x 58 && e) Becomes _ k h (two 58 Becomes refl) (λ _ h.
      pick (eqb x 40) Open _ k h (one 40 Open refl (λ z. omega arith) (λ z. omega arith) (λ z. omega arith)) (λ _ h.
      pick (eqb x 41) Close _ k h (one 41 Close refl (λ z. omega arith) (λ z. omega arith) (λ z. omega arith)) (λ _ h.
      pick (eqb x 91) OpenSquare _ k h (one 91 OpenSquare refl (λ z. omega arith) (λ z. omega arith) (λ z. omega arith)) (λ _ h.
      pick (eqb x 93) CloseSquare _ k h (one 93 CloseSquare refl (λ z. omega arith) (λ z. omega arith) (λ z. omega arith)) (λ _ h.
      pick (eqb x 44) Comma _ k h (one 44 Comma refl (λ z. omega arith) (λ z. omega arith) (λ z. omega arith)) (λ _ h.
      pick (eqb x 59) Semicolon _ k h (one 59 Semicolon refl (λ z. omega arith) (λ z. omega arith) (λ z. omega arith)) (λ _ h.
      pick (eqb x 43) Plus _ k h (one 43 Plus refl (λ z. omega arith) (λ z. omega arith) (λ z. omega arith)) (λ _ h.
      pick (eqb x 45) Minus _ k h (one 45 Minus refl (λ z. omega arith) (λ z. omega arith) (λ z. omega arith)) (λ _ h.
      pick (eqb x 42) Times _ k h (one 42 Times refl (λ z. omega arith) (λ z. omega arith) (λ z. omega arith)) (λ _ h.
      pick (eqb x 60) Less _ k h (less f) (λ _ h.
      pick (eqb x 61) Equal _ k h (one 61 Equal refl (λ z. omega arith) (λ z. omega arith) (λ z. omega arith)) (λ _ h.
      let no : ◌≡◌ {A = ℕ} 0 1 = cc in let bad : ⊥ = omega arith in absurd bad))))))))))))))

-- bytes that a byte makes into a keyword or a sign: letters and a letter, or one of < ! : and =
pub data Longer (w : List ℕ) (b : ℕ) : Type 0 where
  letters : EachLetter w → is_letter b ≡ true → Longer w b
  equals : (c : ℕ) → w ≡ c ∷ [] → Mark c → b ≡ 61 → Longer w b

push-parts : (P : ℕ → Type 0) (w : List ℕ) (b : ℕ) → AllByRecursion P (w ++ b ∷ []) → AllByRecursion P w × P b
push-parts P [] b h = (tt, h.0)
push-parts P (x ∷ w) b h = let p = push-parts P w b h.1 in ((h.0, p.0), p.1)

pub longer : (w : List ℕ) (b : ℕ) → 0 < length w → (k : Kind) → w ++ b ∷ [] ≡ word k → Longer w b
longer w b some k e = go (sort-of k)
  where
    go : Sort k → Longer w b
    go (bare h) = let l = length_push w b in let n = ap length (e ∙ h) in let bad : ⊥ = omega arith in absurd bad
    go (keyword a l h) = let p = push-parts (λ y. is_letter y ≡ true) w b (subst EachLetter (sym e) a) in letters p.0 p.1
    go (lone c h f) = let n = ap length (same_from_push w [] b c (e ∙ h)).0 in let bad : ⊥ = omega arith in absurd bad
    go (pair c m h f) = let p = same_from_push w (c ∷ []) b 61 (e ∙ h) in equals c p.0 m p.1
