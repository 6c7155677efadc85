-- The run of bytes at the front of a text, and the number that digits write.
use Rattle.std.proofs.Common.{◌≡◌, ℕ, suc, ◌+◌, ◌-◌, ◌*◌, ◌<◌, ◌≤◌, Bool, true, false, cond, leb, List, [], ◌∷◌, ◌++◌, length, get_or, take, drop, sym, refl, ap, ◌∙◌, subst, one-add, arith, rules}
use Rattle.std.proofs.lemmas.Int.Digits.{digits_value_more}
use Rattle.std.proofs.ByRecursion.{All-take, All-get_or}
use Rattle.std.proofs.lemmas.List.{length-take}
use Rattle.std.proofs.lemmas.Str.Parse.{IsDigitsTest, IsNumeralModel, numerals_by_value, digits_value_short}
use Rattle.std.proofs.lemmas.List.Sums.{prefix_len-drop_yes}
use Rattle.std.proofs.lemmas.Bool.{and_parts, leb-true}
use Rattle.std.proofs.lemmas.Str.{digit_value_digit}
use Rattle.std.proofs.lemmas.Bool.Decides.{nat_tests}
use Rattle.std.specs.Str.Parse.{digits_value}
use Rattle.std.specs.Int.{IsInRange}
use Rattle.std.specs.List.{prefix_len, AllByRecursion}
use Rattle.letters.specs.Bytes.{is_digit, EachDigit}

-- each of the run passes
pub run-passes : {X : Type 0} (p : X → Bool) (xs : List X) → AllByRecursion (λ b. p b ≡ true) (take (prefix_len p xs) xs)
run-passes p [] = tt
run-passes p (x ∷ xs) = go (p x) refl (run-passes p xs)
  where
    go : (t : Bool) → p x ≡ t → AllByRecursion (λ b. p b ≡ true) (take (prefix_len p xs) xs) → AllByRecursion (λ b. p b ≡ true) (take (cond t (1 + prefix_len p xs) 0) (x ∷ xs))
    go true e h = subst (λ n. AllByRecursion (λ b. p b ≡ true) (take n (x ∷ xs))) (sym (one-add (prefix_len p xs))) (e, h)
    go false e h = tt

-- the byte after the run does not
pub run_ends : (p : ℕ → Bool) (xs : List ℕ) (b : ℕ) (more : List ℕ) → drop (prefix_len p xs) xs ≡ b ∷ more → p b ≡ false
run_ends p [] b more e = let no : ◌≡◌ {A = ℕ} 0 1 = cc in let bad : ⊥ = omega arith in absurd bad
run_ends p (x ∷ xs) b more e = go (p x) refl (run_ends p xs b more) e
  where
    go : (t : Bool) → p x ≡ t → (drop (prefix_len p xs) xs ≡ b ∷ more → p b ≡ false) → drop (cond t (1 + prefix_len p xs) 0) (x ∷ xs) ≡ b ∷ more → p b ≡ false
    go true q f h = f (ap (λ n. drop n (x ∷ xs)) (sym (one-add (prefix_len p xs))) ∙ h)
    go false q f h = let s : x ≡ b = cc in ap p (sym s) ∙ q

-- a run is all of what passes
pub run-exact : (p : ℕ → Bool) (w after : List ℕ) → AllByRecursion (λ b. p b ≡ true) w → ((b : ℕ) (more : List ℕ) → after ≡ b ∷ more → p b ≡ false) → prefix_len p (w ++ after) ≡ length w
run-exact p [] [] a h = refl
run-exact p [] (b ∷ more) a h = ap (λ t. cond t (1 + prefix_len p more) 0) (h b more refl)
run-exact p (x ∷ w) after a h = ap (λ t. cond t (1 + prefix_len p (w ++ after)) 0) a.0 ∙ one-add _ ∙ ap suc (run-exact p w after a.1 h)

pub run-some : (p : ℕ → Bool) (xs : List ℕ) → 0 < length xs → p (get_or xs 0 0) ≡ true → 0 < prefix_len p xs
run-some p xs h e = let s = prefix_len-drop_yes p xs 0 0 h e in omega arith

tells-each : IsDigitsTest EachDigit
tells-each = search (rules, nat_tests)

own : IsNumeralModel EachDigit (digits_value 10)
own = numerals_by_value EachDigit tells-each

pub digit-range : (ds : List ℕ) (i : ℕ) → i < length ds → EachDigit ds → IsInRange 48 57 (get_or ds i 0)
digit-range ds i h e = let d : is_digit (get_or ds i 0) ≡ true = All-get_or (λ b. is_digit b ≡ true) ds i 0 h e in let p = and_parts (leb 48 (get_or ds i 0)) (leb (get_or ds i 0) 57) d in (leb-true _ _ p.0, leb-true _ _ p.1)

pub value-small : (ds : List ℕ) → length ds ≤ 6 → EachDigit ds → digits_value 10 ds < 1000000
value-small ds h e = digits_value_short own ds 6 e h

pub value-front : (ds : List ℕ) (i : ℕ) → i ≤ 6 → EachDigit ds → digits_value 10 (take i ds) < 1000000
value-front ds i h e = value-small (take i ds) (simp length-take (omega arith)) (All-take (λ b. is_digit b ≡ true) i ds e)

pub value-step : (ds : List ℕ) (i : ℕ) → i < length ds → EachDigit ds → digits_value 10 (take (i + 1) ds) ≡ digits_value 10 (take i ds) * 10 + (get_or ds i 0 - 48)
value-step ds i h e = let d = digit_value_digit (get_or ds i 0) (digit-range ds i h e) in digits_value_more 10 ds i h ∙ ap (λ n. digits_value 10 (take i ds) * 10 + n) (omega arith)
