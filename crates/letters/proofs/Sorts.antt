-- The kinds by how they are written, one line for each.
use Rattle.std.proofs.Common.{◌≡◌, ℕ, ◌≤◌, Bool, true, false, eqb, ◌⊎◌, List, [], ◌∷◌, length, refl, ap, inl, inr, arith, Ok, Some}
use Rattle.std.proofs.lemmas.Bool.{eqb-true}
use Rattle.letters.specs.declared.kind.Kind.{Kind}
use Rattle.letters.specs.declared.kind.Kind.TheVariants.{Name, Numeral, End, Open, Close, OpenSquare, CloseSquare, Comma, Semicolon, Plus, Minus, Times, Less, AtMost, Equal, Unequal, Becomes, Rule, Needs, Gives, Let, In, If, Then, Else, Put, As, TheResult}
use Rattle.letters.specs.Bytes.{EachLetter}
use Rattle.letters.specs.Cuts.{sign_of, sign_by, some_token, piece_of}
use Rattle.letters.specs.Kinds.{word, written_so, keyword_of}
use Rattle.letters.specs.Spelling.{Longest, to-sign}
use Rattle.letters.specs.Tokens.{token_of}

-- < ! : begin the signs of two bytes
abbrev pub Mark : ℕ → Type 0
Mark c = (c ≡ 60) ⊎ ((c ≡ 33) ⊎ (c ≡ 58))

-- no bytes of its own, a keyword, a sign of one byte, a sign of two
pub data Sort (k : Kind) : Type 0 where
  bare : word k ≡ [] → Sort k
  keyword : EachLetter (word k) → length (word k) ≤ 16 → keyword_of (word k) ≡ k → Sort k
  lone : (c : ℕ) → word k ≡ c ∷ [] → ((i : ℕ) (after : List ℕ) → Longest (c ∷ []) after → piece_of i (c ∷ after) ≡ Ok (Some (token_of k i 1 0))) → Sort k
  pair : (c : ℕ) → Mark c → word k ≡ c ∷ 61 ∷ [] → ((i : ℕ) (after : List ℕ) → piece_of i (c ∷ 61 ∷ after) ≡ Ok (Some (token_of k i 2 0))) → Sort k

-- an equals sign after < would make it longer
less-piece : (i : ℕ) (after : List ℕ) → Longest (60 ∷ []) after → piece_of i (60 ∷ after) ≡ Ok (Some (token_of Less i 1 0))
unfolding piece_of
less-piece i [] far = refl
less-piece i (b ∷ more) far = ap (λ t. some_token (sign_by i (sign_of 60 t))) (go (eqb b 61) refl)
  where
    go : (t : Bool) → eqb b 61 ≡ t → t ≡ false
    go true q = absurd (far b more refl (to-sign AtMost (ap (λ x. 60 ∷ x ∷ []) (eqb-true b 61 q))))
    go false q = refl

pub sort-of : (k : Kind) → Sort k
unfolding piece_of written_so
sort-of Name = bare refl
sort-of Numeral = bare refl
sort-of End = bare refl
sort-of Open = lone 40 refl (λ _ _ _. refl)
sort-of Close = lone 41 refl (λ _ _ _. refl)
sort-of OpenSquare = lone 91 refl (λ _ _ _. refl)
sort-of CloseSquare = lone 93 refl (λ _ _ _. refl)
sort-of Comma = lone 44 refl (λ _ _ _. refl)
sort-of Semicolon = lone 59 refl (λ _ _ _. refl)
sort-of Plus = lone 43 refl (λ _ _ _. refl)
sort-of Minus = lone 45 refl (λ _ _ _. refl)
sort-of Times = lone 42 refl (λ _ _ _. refl)
sort-of Less = lone 60 refl less-piece
sort-of AtMost = pair 60 (inl refl) refl (λ _ _. refl)
sort-of Equal = lone 61 refl (λ _ _ _. refl)
sort-of Unequal = pair 33 (inr (inl refl)) refl (λ _ _. refl)
sort-of Becomes = pair 58 (inr (inr refl)) refl (λ _ _. refl)
sort-of Rule = keyword (refl, (refl, (refl, (refl, tt)))) (omega arith) refl
sort-of Needs = keyword (refl, (refl, (refl, (refl, (refl, tt))))) (omega arith) refl
sort-of Gives = keyword (refl, (refl, (refl, (refl, (refl, tt))))) (omega arith) refl
sort-of Let = keyword (refl, (refl, (refl, tt))) (omega arith) refl
sort-of In = keyword (refl, (refl, tt)) (omega arith) refl
sort-of If = keyword (refl, (refl, tt)) (omega arith) refl
sort-of Then = keyword (refl, (refl, (refl, (refl, tt)))) (omega arith) refl
sort-of Else = keyword (refl, (refl, (refl, (refl, tt)))) (omega arith) refl
sort-of Put = keyword (refl, (refl, (refl, tt))) (omega arith) refl
sort-of As = keyword (refl, (refl, tt)) (omega arith) refl
sort-of TheResult = keyword (refl, (refl, (refl, (refl, (refl, (refl, tt)))))) (omega arith) refl
