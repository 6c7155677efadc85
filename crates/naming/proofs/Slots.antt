-- Looking for a name.
use Rattle.std.proofs.Common.{◌≡◌, ℕ, suc, ◌+◌, ◌<◌, ◌≤◌, ◌⊎◌, Bool, true, false, cond, not, ◌||◌, ltb, List, [], ◌∷◌, map, length, is_some, Some, None, Option, sym, refl, ap, ◌∙◌, inl, inr, arith}
use Rattle.std.proofs.lemmas.Bool.{cases_lt, lt-ltb, le-ltb}
use Rattle.std.specs.Bool.{then_some}
use Rattle.std.specs.List.{position_or_len}
use Rattle.letters.specs.declared.token.Token.{Token}
use Rattle.letters.specs.Tokens.{same_name}
use Rattle.naming.specs.Faults.{found}
use Rattle.naming.specs.Least.{least}
use Rattle.naming.specs.Scopes.{next, slot_in}

pub none-is : (o : Option ℕ) → is_some o ≡ false → None ≡ o
none-is None e = refl
none-is (Some i) e = cc

within_suc : (q p n : ℕ) → q ≡ suc p → cond (ltb q (suc n)) (Some q) None ≡ next (cond (ltb p n) (Some p) None)
within_suc q p n e = go (cases_lt p n)
  where
    go : (p < n) ⊎ (n ≤ p) → cond (ltb q (suc n)) (Some q) None ≡ next (cond (ltb p n) (Some p) None)
    go (inl h) = ap (λ b. cond b (Some q) None) (lt-ltb q (suc n) (omega arith)) ∙ ap Some e ∙ sym (ap (λ b. next (cond b (Some p) None)) (lt-ltb p n h))
    go (inr h) = ap (λ b. cond b (Some q) None) (le-ltb q (suc n) (omega arith)) ∙ sym (ap (λ b. next (cond b (Some p) None)) (le-ltb p n h))

-- it is found by going through them
pub slot_position : (text : List ℕ) (look : ℕ → Token) (t : Token) (ns : List ℕ) → cond (ltb (position_or_len (λ n. same_name text (look n) t) ns) (length ns)) (Some (position_or_len (λ n. same_name text (look n) t) ns)) None ≡ slot_in text (map look ns) t
unfolding slot_in
slot_position text look t [] = ap (λ b. cond b (Some 0) None) (le-ltb 0 0 (omega arith))
slot_position text look t (n ∷ ns) = go (slot_position text look t ns) (same_name text (look n) t)
  where
    p : ℕ
    p = position_or_len (λ n. same_name text (look n) t) ns

    go : cond (ltb p (length ns)) (Some p) None ≡ slot_in text (map look ns) t → (b : Bool) → cond (ltb (cond (not b) (1 + p) 0) (suc (length ns))) (Some (cond (not b) (1 + p) 0)) None ≡ cond b (Some 0) (next (slot_in text (map look ns) t))
    go e true = ap (λ b. cond b (Some 0) None) (lt-ltb 0 (suc (length ns)) (omega arith))
    go e false = within_suc (1 + p) p (length ns) (omega arith) ∙ ap next e

-- an unknown name is at fault
pub found-when : (o : Option ℕ) (t : Token) (b : Bool) → b ≡ is_some o → then_some (not b) t.place ≡ least (found o t)
unfolding least
found-when None t b e = rw e
found-when (Some i) t b e = rw e

-- what a test that is cut short decides
pub either_first : (a b : Bool) → a ≡ true → a ≡ (a || b)
either_first a b e = rw e

pub either_second : (a b : Bool) → a ≡ false → b ≡ (a || b)
either_second a b e = rw e

-- a place is at fault where a test says so
pub least_when : (b : Bool) (p : ℕ) → then_some b p ≡ least (cond b (p ∷ []) [])
unfolding least
least_when true p = refl
least_when false p = refl

-- what a test decides
pub least-if : (b : Bool) (p : ℕ) → b ≡ true → Some p ≡ least (cond b (p ∷ []) [])
unfolding least
least-if b p e = rw e

pub least-else : (b : Bool) (xs : List ℕ) → b ≡ false → None ≡ least (cond b xs [])
unfolding least
least-else b xs e = rw e
