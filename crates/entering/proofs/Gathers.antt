-- Values that are gathered one after the other.
use Rattle.std.proofs.Common.{◌≡◌, ◌<◌, List, [], ◌∷◌, ◌++◌, length, ℤ, pos, Some, None, Option, sym, ap, ◌∙◌, subst, arith}
use Rattle.std.proofs.lemmas.List.{append-nil, append_assoc}
use Rattle.language.specs.declared.part.Part.{Part}
use Rattle.language.specs.Tree.{Param, a_number, a_list}
use Rattle.language.specs.Running.{length_of}
use Rattle.language.specs.Entering.{gathered}
use Rattle.entering.specs.Gathering.{Gathered}

-- nothing is left, or something is
pub number_left : (numbers : List ℤ) (parts : List Part) (old : List ℤ) → 0 < length numbers → Gathered None (gathered [] numbers parts) parts old old
unfolding gathered
number_left [] parts old h = let no : ⊥ = omega arith in absurd no
number_left (x ∷ xs) parts old h = tt

pub part_left : (numbers : List ℤ) (parts : List Part) (old : List ℤ) → 0 < length parts → Gathered None (gathered [] numbers parts) parts old old
unfolding gathered
part_left [] [] old h = let no : ⊥ = omega arith in absurd no
part_left [] (p ∷ ps) old h = tt
part_left (x ∷ xs) ps old h = tt

pub all_taken : (numbers : List ℤ) (parts : List Part) (old : List ℤ) → length numbers ≡ 0 → length parts ≡ 0 → Gathered (Some tt) (gathered [] numbers parts) parts old old
unfolding gathered
all_taken [] [] old h k = λ s. sym (append-nil old)
all_taken [] (p ∷ ps) old h k = let no : ⊥ = omega arith in absurd no
all_taken (x ∷ xs) ps old h k = let no : ⊥ = omega arith in absurd no

joined : (old mid new vs : List ℤ) (x : ℤ) → mid ≡ old ++ x ∷ [] → new ≡ mid ++ vs → new ≡ old ++ x ∷ vs
joined old mid new vs x m n = n ∙ ap (λ l. l ++ vs) m ∙ append_assoc old (x ∷ []) vs

module _ (parts : List Part) (qs : List Param) (old : List ℤ) where
  pub no_number : (numbers : List ℤ) → length numbers ≡ 0 → (new : List ℤ) → Gathered None (gathered (a_number ∷ qs) numbers parts) parts old new
  unfolding gathered
  no_number [] e new = tt
  no_number (x ∷ xs) e new = let no : ⊥ = omega (arith, e) in absurd no

  pub one_number : (numbers rest : List ℤ) (x : ℤ) → numbers ≡ x ∷ rest → (mid new : List ℤ) → mid ≡ old ++ x ∷ [] → (r : Option (Unit {0})) → Gathered r (gathered qs rest parts) parts mid new → Gathered r (gathered (a_number ∷ qs) numbers parts) parts old new
  unfolding gathered
  one_number numbers rest x e mid new m r g = subst (λ xs. Gathered r (gathered (a_number ∷ qs) xs parts) parts old new) (sym e) (go r (gathered qs rest parts) g)
    where
      go : (r : Option (Unit {0})) (vs : Option (List ℤ)) → Gathered r vs parts mid new → Gathered r (elim vs [ None ↦ None | Some vs ↦ Some (x ∷ vs) ]) parts old new
      go (Some u) (Some vs) g = λ s. joined old mid new vs x m (g s)
      go (Some u) None g = g
      go None (Some vs) g = g
      go None None g = g

module _ (numbers : List ℤ) (qs : List Param) (old : List ℤ) where
  pub no_part : (parts : List Part) → length parts ≡ 0 → (new : List ℤ) → Gathered None (gathered (a_list ∷ qs) numbers parts) parts old new
  unfolding gathered
  no_part [] e new = tt
  no_part (p ∷ ps) e new = let no : ⊥ = omega (arith, e) in absurd no

  pub one_part : (parts rest : List Part) (p : Part) → parts ≡ p ∷ rest → (x : ℤ) → (p.length < 2147483648 → x ≡ pos p.length) → (mid new : List ℤ) → mid ≡ old ++ x ∷ [] → (r : Option (Unit {0})) → Gathered r (gathered qs numbers rest) rest mid new → Gathered r (gathered (a_list ∷ qs) numbers parts) parts old new
  unfolding gathered
  one_part parts rest p e x is mid new m r g = subst (λ ps. Gathered r (gathered (a_list ∷ qs) numbers ps) ps old new) (sym e) (go r (gathered qs numbers rest) g)
    where
      go : (r : Option (Unit {0})) (vs : Option (List ℤ)) → Gathered r vs rest mid new → Gathered r (elim vs [ None ↦ None | Some vs ↦ Some (length_of p ∷ vs) ]) (p ∷ rest) old new
      go (Some u) (Some vs) g = λ s. joined old mid new vs (length_of p) (m ∙ ap (λ y. old ++ y ∷ []) (is s.0)) (g s.1)
      go (Some u) None g = g
      go None (Some vs) g = g
      go None None g = g
