-- What keeps a row's value, and what keeps rows met.
use Rattle.std.proofs.Common.{◌≡◌, ℕ, zero, suc, List, [], ◌∷◌, get_or, take, pos, ◌*ℤ◌, Some, ap, subst, arith}
use Rattle.std.specs.List.{slice_get}
use Rattle.ints.specs.Sums.{sum_to}
use Rattle.rows.specs.declared.row.Row.{Row}
use Rattle.rows.specs.Meaning.{Assignment, value, Meets, MeetsAll}

pub same-coefs : (r s : Row) (q : Assignment) → r.coefs ≡ s.coefs → value r q ≡ value s q
same-coefs r s q e = ap (λ cs. sum_to (λ j. get_or cs j (pos 0) *ℤ q j) 16) e

pub meets-nth : (q : Assignment) (rs : List Row) (k : ℕ) (r : Row) → slice_get rs k ≡ Some r → MeetsAll q rs → Meets q r
meets-nth q [] k r e h = let no : ◌≡◌ {A = ℕ} 0 1 = cc in let bad : ⊥ = omega arith in absurd bad
meets-nth q (s ∷ rs) zero r e h = let p : s ≡ r = cc in subst (Meets q) p h.0
meets-nth q (s ∷ rs) (suc k) r e h = meets-nth q rs k r e h.1

pub meets-take : (q : Assignment) (n : ℕ) (rs : List Row) → MeetsAll q rs → MeetsAll q (take n rs)
meets-take q zero rs h = tt
meets-take q (suc n) [] h = tt
meets-take q (suc n) (r ∷ rs) h = (h.0, meets-take q n rs h.1)
