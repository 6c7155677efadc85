-- The tests decide what they stand for.
use Rattle.std.proofs.Common.{◌≡◌, Bool, true, false, not, ◌&&◌, List, [], ◌∷◌, ℤ, sym, refl, ap, ◌∙◌, arith}
use lib.Signed.{le_z}
use Rattle.std.specs.List.{list_all}
use Rattle.std.proofs.lemmas.Int.{ints}
use Rattle.std.proofs.lemmas.Bool.{and_parts, and_from}
use Rattle.ints.specs.Tests.{eq_z}
use Rattle.rows.specs.declared.row.Row.{Row}
use Rattle.rows.specs.declared.row.Kind.{Kind}
use Rattle.rows.specs.declared.row.Kind.TheVariants.{AtMost, Unequal}
use Rattle.rows.specs.Meaning.{Assignment, Holds, MeetsAll}
use Rattle.rows.specs.Testing.{holds, meets, meets_all}

pub holds-is : (k : Kind) (v b : ℤ) → holds k v b ≡ true → Holds k v b
holds-is AtMost v b h = omega (arith, ints, h)
holds-is Unequal v b h = λ e. let k : not (eq_z b b) ≡ true = ap (λ x. not (eq_z x b)) (sym e) ∙ h in grind (arith, ints)

unlike : (b : Bool) → (b ≡ true → ⊥) → not b ≡ true
unlike true h = absurd (h refl)
unlike false h = refl

pub is-holds : (k : Kind) (v b : ℤ) → Holds k v b → holds k v b ≡ true
is-holds AtMost v b h = grind (arith, ints)
is-holds Unequal v b h = unlike (eq_z v b) (λ e. let p = and_parts (le_z v b) (le_z b v) e in h (omega (arith, ints, p.0, p.1)))

pub meets-all-is : (q : Assignment) (rs : List Row) → meets_all q rs ≡ true → MeetsAll q rs
unfolding meets_all
meets-all-is q [] h = tt
meets-all-is q (r ∷ rs) h = let p = and_parts _ _ h in (holds-is _ _ _ p.0, meets-all-is q rs p.1)

pub is-meets-all : (q : Assignment) (rs : List Row) → MeetsAll q rs → meets_all q rs ≡ true
unfolding meets_all
is-meets-all q [] h = refl
is-meets-all q (r ∷ rs) h = and_from _ _ (is-holds _ _ _ h.0) (is-meets-all q rs h.1)

pub meets_each : (q : Assignment) (rs : List Row) → meets_all q rs ≡ list_all (meets q) rs
unfolding meets_all
meets_each q [] = refl
meets_each q (r ∷ rs) = ap (λ b. meets q r && b) (meets_each q rs)
