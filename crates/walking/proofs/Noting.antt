-- What small steps note: no obligations where a quantity or a fact is taken, and the same after other notes.
use Rattle.std.proofs.Common.{◌≡◌, ℕ, Bool, true, false, ltb, List, [], ◌∷◌, ◌++◌, length, Some, None, Option, sym, refl, ap, ◌∙◌}
use Rattle.std.proofs.lemmas.List.{append-nil, append_assoc}
use Rattle.rows.specs.declared.row.Row.{Row}
use Rattle.language.specs.declared.refusal.Refusal.{Refusal}
use Rattle.language.specs.declared.refusal.Refusal.TheVariants.{Full}
use Rattle.language.specs.declared.term.Term.{Term}
use Rattle.language.specs.Comparing.{condition_rows}
use Rattle.language.specs.Limits.{quantities, most_facts}
use Rattle.language.specs.Terms.{quantity}
use Rattle.language.specs.Tree as Tree
use Rattle.language.specs.Walking.{Note, Stand, limit, assume, assume_all, fresh, fresh_with, or_fresh, obligations_of}
use Rattle.walking.proofs.Owings.{owed-append}
use Rattle.walking.proofs.Taking.{facts-more}

pub limit-owes : (b : Bool) (r : Refusal) → obligations_of (limit b r) ≡ []
unfolding limit obligations_of
limit-owes true r = refl
limit-owes false r = refl

pub assume-owes : (place : ℕ) (facts : List Row) (rs : List (Option Row)) → obligations_of (assume place facts rs).notes ≡ []
unfolding assume obligations_of
assume-owes place facts [] = refl
assume-owes place facts (None ∷ rs) = assume-owes place facts rs
assume-owes place facts (Some row ∷ rs) = owed-append (limit (ltb (length facts) most_facts) (Full place)) _ ∙ ap (λ os. os ++ obligations_of (assume place (facts ++ row ∷ []) rs).notes) (limit-owes (ltb (length facts) most_facts) (Full place)) ∙ assume-owes place (facts ++ row ∷ []) rs

module _ (at : Tree.Condition → ℕ) (ts : List Term) (r : Term) where
  pub all-owes : (facts : List Row) (cs : List Tree.Condition) → obligations_of (assume_all at ts r facts cs).notes ≡ []
  unfolding assume_all obligations_of
  all-owes facts [] = refl
  all-owes facts (c ∷ cs) =
      let k = assume (at c) facts (condition_rows ts r c) in
      owed-append k.notes _ ∙ ap (λ os. os ++ obligations_of (assume_all at ts r k.facts cs).notes) (assume-owes (at c) facts (condition_rows ts r c)) ∙ all-owes k.facts cs

  pub all-more : (facts : List Row) (cs : List Tree.Condition) → (more : List Row) × ((assume_all at ts r facts cs).facts ≡ facts ++ more)
  unfolding assume_all
  all-more facts [] = ([], sym (append-nil facts))
  all-more facts (c ∷ cs) =
      let k = assume (at c) facts (condition_rows ts r c) in
      let m = facts-more (at c) facts (condition_rows ts r c) in
      let n = all-more k.facts cs in
      (m.0 ++ n.0, n.1 ∙ ap (λ xs. xs ++ n.0) m.1 ∙ append_assoc facts m.0 n.0)

module _ (place : ℕ) (s : Stand) where
  pub fresh-term : (fresh place s []).term ≡ quantity s.next
  unfolding fresh
  fresh-term = refl

  pub fresh-notes : (ns : List Note) → (fresh place s ns).notes ≡ ns ++ (fresh place s []).notes
  unfolding fresh
  fresh-notes ns = refl

  pub or-notes : (o : Option Term) (ns : List Note) → (or_fresh place o s ns).notes ≡ ns ++ (or_fresh place o s []).notes
  unfolding or_fresh
  or-notes (Some t) ns = sym (append-nil ns)
  or-notes None ns = fresh-notes ns

  pub or-term : (o : Option Term) (ns : List Note) → (or_fresh place o s ns).term ≡ (or_fresh place o s []).term
  unfolding or_fresh fresh
  or-term (Some t) ns = refl
  or-term None ns = refl

  pub or-stand : (o : Option Term) (ns : List Note) → (or_fresh place o s ns).stand ≡ (or_fresh place o s []).stand
  unfolding or_fresh fresh
  or-stand (Some t) ns = refl
  or-stand None ns = refl

  module _ (ts : List Term) (cs : List Tree.Condition) where
    pub with-notes : (ns : List Note) → (fresh_with place ts cs s ns).notes ≡ ns ++ (fresh_with place ts cs s []).notes
    unfolding fresh_with fresh
    with-notes ns = append_assoc ns (limit (ltb s.next quantities) (Full place)) _

    pub with-term : (ns : List Note) → (fresh_with place ts cs s ns).term ≡ (fresh_with place ts cs s []).term
    unfolding fresh_with fresh
    with-term ns = refl

    pub with-stand : (ns : List Note) → (fresh_with place ts cs s ns).stand ≡ (fresh_with place ts cs s []).stand
    unfolding fresh_with fresh
    with-stand ns = refl
