-- The lists and the numbers of a head.
use Rattle.std.proofs.Common.{◌≡◌, ℕ, suc, ◌+◌, Bool, true, false, cond, is_some, List, [], ◌∷◌, ◌++◌, length, Some, None, Option, refl, ap, ◌∙◌, arith}
use Rattle.std.specs.List.{filter_map, cons_option}
use Rattle.std.specs.Option.{option_map}
use Rattle.grammar.specs.Raw as Raw
use Rattle.counting.specs.Counts.{same, place_if, places_of, listed}

-- the parameters that are such, one after another
pub places_found : (list : Bool) (ps : List Raw.Param) → filter_map (place_if list) ps ≡ places_of list ps
unfolding places_of
places_found list [] = refl
places_found list (p ∷ ps) = ap (cons_option (place_if list p)) (places_found list ps) ∙ go (place_if list p)
  where
    go : (o : Option ℕ) → cons_option o (places_of list ps) ≡ listed o ++ places_of list ps
    go None = refl
    go (Some q) = refl

pub kept : (o : Option ℕ) → o ≡ option_map (λ (p : ℕ). p) o
kept None = refl
kept (Some p) = refl

-- each parameter is a list or a number
pub lists-and-numbers : (ps : List Raw.Param) → length ps ≡ length (places_of true ps) + length (places_of false ps)
unfolding places_of
lists-and-numbers [] = refl
lists-and-numbers (p ∷ ps) = let h = lists-and-numbers ps in let e = one (is_some p.length) (places_of true ps) (places_of false ps) in omega arith
  where
    one : (list : Bool) (xs ys : List ℕ) → length (listed (cond (same true list) (Some p.name.place) None) ++ xs) + length (listed (cond (same false list) (Some p.name.place) None) ++ ys) ≡ suc (length xs + length ys)
    one true xs ys = omega arith
    one false xs ys = omega arith
