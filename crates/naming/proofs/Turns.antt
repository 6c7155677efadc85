-- The smallest place of one after another.
use Rattle.std.proofs.Common.{◌≡◌, ℕ, List, [], ◌∷◌, ◌++◌, None, Option, sym, refl, ap, ◌∙◌}
use Rattle.std.specs.List.{fold}
use Rattle.letters.specs.declared.token.Token.{Token}
use Rattle.naming.specs.Faults.{atom_faults, side_faults, condition_faults}
use Rattle.naming.specs.Least.{merged, least}
use Rattle.naming.proofs.Smallest.{merged-none, merged-assoc, least-append}

-- faults that are those of one after another
pub record Each {X : Type 0} (F : List X → List ℕ) (G : X → List ℕ) : Type 0 where
  pub none : F [] ≡ []
  pub more : (x : X) (xs : List X) → F (x ∷ xs) ≡ G x ++ F xs

pub each-side : (text : List ℕ) (ns : List Token) → Each (side_faults text ns) (λ i. atom_faults text ns i.atom)
unfolding side_faults
each-side text ns = record { none = refl; more = λ x xs. refl }

pub each-condition : (text : List ℕ) (ns : List Token) → Each (condition_faults text ns) (λ c. side_faults text ns c.left ++ side_faults text ns c.right)
unfolding condition_faults
each-condition text ns = record { none = refl; more = λ x xs. refl }

-- all of them were looked at, one after another
pub folded : {X : Type 0} (F : List X → List ℕ) (G : X → List ℕ) → Each F G → (xs : List X) → fold (λ a x. merged a (least (G x))) None xs ≡ least (F xs)
unfolding least
folded F G e [] = ap least (sym e.none)
folded {X} F G e (x ∷ xs) = from (least (G x)) xs ∙ ap (merged (least (G x))) (folded F G e xs) ∙ sym (least-append (G x) (F xs)) ∙ ap least (sym (e.more x xs))
  where
    from : (a : Option ℕ) (ys : List X) → fold (λ b y. merged b (least (G y))) a ys ≡ merged a (fold (λ b y. merged b (least (G y))) None ys)
    from a [] = sym (merged-none a)
    from a (y ∷ ys) = from (merged a (least (G y))) ys ∙ merged-assoc a (least (G y)) (fold (λ b z. merged b (least (G z))) None ys) ∙ ap (merged a) (sym (from (least (G y)) ys))
