-- Marks: which are true, and how the marks of a draft stand before others, which are false.
use Rattle.std.proofs.Common.{◌≡◌, ℕ, zero, suc, ◌+◌, ◌-◌, ◌≤◌, ⊎_elim, Bool, false, List, ◌++◌, length, get_or, replicate, sym, refl, ap, ◌∙◌, arith}
use Rattle.std.proofs.lemmas.List.{length-replicate, replicate-append-replicate, get_or_append_left, get_or-append_right, get_or_past}
use Rattle.std.proofs.lemmas.Bool.{cases_lt}

-- where none is true, none is found
pub unmarked : (k n : ℕ) → get_or (replicate k false) n false ≡ false
unmarked zero n = refl
unmarked (suc k) zero = refl
unmarked (suc k) (suc n) = unmarked k n

-- as many as there are obligations, and the rest
pub marks_split : (m : ℕ) → m ≤ 128 → replicate 128 false ≡ replicate m false ++ replicate (128 - length (replicate m false)) false
marks_split m h =
    let e : m + (128 - m) ≡ 128 = omega arith in
    sym (ap (λ n. replicate m false ++ replicate (128 - n) false) (length-replicate m false) ∙ replicate-append-replicate m (128 - m) false ∙ ap (λ n. replicate n false) e)

-- the marks that stand behind those of the obligations are false, as where there are none
pub marked_front : (marks ms : List Bool) (k n : ℕ) → marks ≡ ms ++ replicate k false → get_or marks n false ≡ get_or ms n false
marked_front marks ms k n e = ap (λ xs. get_or xs n false) e ∙ ⊎_elim
    (λ h. get_or_append_left ms (replicate k false) false n h)
    (λ h. get_or-append_right ms (replicate k false) (length ms) n false refl h ∙ unmarked k (n - length ms) ∙ sym (get_or_past ms n false h))
    (cases_lt n (length ms))
