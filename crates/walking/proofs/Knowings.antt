-- How rows become facts, one after another.
use Rattle.std.proofs.Common.{◌≡◌, true, is_ok, IsErrAnd, ℕ, ◌<◌, ◌≤◌, ltb, List, [], ◌∷◌, ◌++◌, length, Some, None, Ok, Err, Option, Result, sym, refl, ap, ◌∙◌, subst}
use Rattle.std.proofs.lemmas.List.{append-nil, append_assoc}
use Rattle.std.specs.Option.{ok_or}
use Rattle.std.proofs.lemmas.Result.{err_from_is_err_and}
use Rattle.std.proofs.lemmas.Bool.{lt-ltb, le-ltb}
use Rattle.rows.specs.declared.row.Row.{Row}
use Rattle.language.specs.declared.refusal.Refusal.{Refusal}
use Rattle.language.specs.declared.refusal.Refusal.TheVariants.{Full, Large}
use Rattle.language.specs.Walking.{limit, assume, first_fault}
use Rattle.language.proofs.Laws.{fault-first, fault-next}
use Rattle.walking.specs.Knowing.{Took}

-- what went well has nothing to give
pub went_well : (r : Result (Unit {0}) Refusal) → is_ok r ≡ true → r ≡ Ok tt
went_well (Ok tt) e = refl
went_well (Err r) e = cc

-- what the exit of a `?` gives
pub refused : {T : Type 0} → (result : Result T Refusal) (e : Refusal) → IsErrAnd result (λ f. f ≡ e) → result ≡ Err e
refused result e w = let given = err_from_is_err_and result w in given.1 ∙ ap Err given.2

-- nothing was given, and so it is refused
pub refused_as : {X T : Type 0} → (o : Option X) (r e : Refusal) (result : Result T Refusal) → IsErrAnd result (λ f. f ≡ e) → Err e ≡ ok_or o r → o ≡ None → result ≡ Err r
refused_as {X = X} o r e result w v n =
    let same : ◌≡◌ {A = Result X Refusal} (Err e) (Err r) = v ∙ ap (λ o. ok_or o r) n in
    let there : e ≡ r = cc in
    refused result e w ∙ ap Err there

module _ (place : ℕ) (facts : List Row) where
  pub large : first_fault (assume place facts (None ∷ [])).notes ≡ Some (Large place)
  unfolding assume first_fault
  large = refl

  -- past the last fact that there is room for
  pub crowded : (row : Row) → 24 ≤ length facts → first_fault (assume place facts (Some row ∷ [])).notes ≡ Some (Full place)
  unfolding assume limit first_fault
  crowded row h = ap (λ b. first_fault (limit b (Full place) ++ [])) (le-ltb (length facts) 24 h)

  pub roomy : (row : Row) → length facts < 24 → first_fault (assume place facts (Some row ∷ [])).notes ≡ None
  unfolding assume limit first_fault
  roomy row h = ap (λ b. first_fault (limit b (Full place) ++ [])) (lt-ltb (length facts) 24 h)

  pub grown : (row : Row) → (assume place facts (Some row ∷ [])).facts ≡ facts ++ row ∷ []
  unfolding assume
  grown row = refl

  -- one row, and then the others
  pub facts-then : (o : Option Row) (rs : List (Option Row)) → (assume place facts (o ∷ rs)).facts ≡ (assume place (assume place facts (o ∷ [])).facts rs).facts
  unfolding assume
  facts-then None rs = refl
  facts-then (Some row) rs = refl

  pub notes-then : (o : Option Row) (rs : List (Option Row)) → (assume place facts (o ∷ rs)).notes ≡ (assume place facts (o ∷ [])).notes ++ (assume place (assume place facts (o ∷ [])).facts rs).notes
  unfolding assume
  notes-then None rs = refl
  notes-then (Some row) rs = ap (λ ns. ns ++ (assume place (facts ++ row ∷ []) rs).notes) (sym (append-nil (limit (ltb (length facts) 24) (Full place))))

  pub took-stop : (r : Refusal) (o : Option Row) (rs : List (Option Row)) (after : List Row) → Took (Err r) (assume place facts (o ∷ [])) facts after → Took (Err r) (assume place facts (o ∷ rs)) facts after
  took-stop r o rs after t = (ap first_fault (notes-then o rs) ∙ fault-first (assume place facts (o ∷ [])).notes (assume place (assume place facts (o ∷ [])).facts rs).notes r t.0, t.1)

  pub took-then : (u : Unit {0}) (r : Result (Unit {0}) Refusal) (o : Option Row) (rs : List (Option Row)) (here after : List Row) → ((more : List Row) × (here ≡ facts ++ more)) → Took (Ok u) (assume place facts (o ∷ [])) facts here → Took r (assume place here rs) here after → Took r (assume place facts (o ∷ rs)) facts after
  took-then u r o rs here after m s t = went r (subst (λ fs. Took r (assume place fs rs) here after) s.1 t)
    where
      notes : first_fault (assume place facts (o ∷ rs)).notes ≡ first_fault (assume place (assume place facts (o ∷ [])).facts rs).notes
      notes = ap first_fault (notes-then o rs) ∙ fault-next (assume place facts (o ∷ [])).notes (assume place (assume place facts (o ∷ [])).facts rs).notes s.0

      went : (r : Result (Unit {0}) Refusal) → Took r (assume place (assume place facts (o ∷ [])).facts rs) here after → Took r (assume place facts (o ∷ rs)) facts after
      went (Ok v) t = (notes ∙ t.0, t.1 ∙ sym (facts-then o rs))
      went (Err e) t = (notes ∙ t.0, (m.0 ++ t.1.0, t.1.1 ∙ ap (λ xs. xs ++ t.1.0) m.1 ∙ append_assoc facts m.0 t.1.0))

  pub took-none : Took (Ok tt) (assume place facts []) facts facts
  unfolding assume first_fault
  took-none = (refl, refl)

  -- one row that was taken is at the end
  pub one-more : (o : Option Row) → (more : List Row) × ((assume place facts (o ∷ [])).facts ≡ facts ++ more)
  unfolding assume
  one-more None = ([], sym (append-nil facts))
  one-more (Some row) = (row ∷ [], refl)

-- the next quantity, while there is one
pub none_left : (place n : ℕ) → 16 ≤ n → first_fault (limit (ltb n 16) (Full place)) ≡ Some (Full place)
unfolding limit first_fault
none_left place n h = ap (λ b. first_fault (limit b (Full place))) (le-ltb n 16 h)

pub some_left : (place n : ℕ) → n < 16 → first_fault (limit (ltb n 16) (Full place)) ≡ None
unfolding limit first_fault
some_left place n h = ap (λ b. first_fault (limit b (Full place))) (lt-ltb n 16 h)
