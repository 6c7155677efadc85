-- The smallest of places taken together.
use Rattle.std.proofs.Common.{◌≡◌, ℕ, min, List, [], ◌∷◌, ◌++◌, Some, None, Option, sym, refl, ap, ◌∙◌, arith}
use Rattle.naming.specs.Least.{merged, least}

pub merged-none : (a : Option ℕ) → merged a None ≡ a
merged-none None = refl
merged-none (Some p) = refl

pub merged-assoc : (a b c : Option ℕ) → merged (merged a b) c ≡ merged a (merged b c)
merged-assoc None b c = refl
merged-assoc (Some p) None c = refl
merged-assoc (Some p) (Some q) None = refl
merged-assoc (Some p) (Some q) (Some r) = let e : min (min p q) r ≡ min p (min q r) = omega arith in ap Some e

pub least-append : (xs ys : List ℕ) → least (xs ++ ys) ≡ merged (least xs) (least ys)
unfolding least
least-append [] ys = refl
least-append (x ∷ xs) ys = ap (λ o. merged (Some x) o) (least-append xs ys) ∙ sym (merged-assoc (Some x) (least xs) (least ys))

-- from the smallest of each
pub least-both : (xs ys : List ℕ) {a b r : Option ℕ} → r ≡ merged a b → a ≡ least xs → b ≡ least ys → r ≡ least (xs ++ ys)
least-both xs ys e f g = let h = least-append xs ys in cc
