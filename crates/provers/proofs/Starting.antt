-- The multipliers of a row that stands for itself.
use Rattle.std.proofs.Common.{◌≡◌, ℕ, ◌<◌, true, cond, eqb, map, get_or, set, replicate, sym, ap, ◌∙◌, ⊎_elim, arith}
use Rattle.std.specs.List.{range_with_len}
use Rattle.std.proofs.lemmas.List.{length-set, length-replicate, get_or-replicate, get_or-set_same, get_or-set_other}
use Rattle.std.proofs.lemmas.List.FromFn.{fill_by_all}
use Rattle.std.proofs.lemmas.Bool.{cases_eq, ne_eqb}
use Rattle.std.proofs.lemmas.Bool.Decides.{nat_tests}

set_at : (i k : ℕ) → k < 25 → get_or {A = ℕ} (set (replicate 25 0) i 1) k 0 ≡ cond (eqb k i) 1 0
set_at i k h =
    ⊎_elim
    (λ e. ap (λ j. get_or (set (replicate 25 0) i 1) j 0) e ∙ get_or-set_same (replicate 25 0) i 1 0 (let l = length-replicate {A = ℕ} 25 0 in omega arith) ∙ sym (let t : eqb k i ≡ true = grind (arith, nat_tests) in ap (λ b. cond b 1 0) t))
    (λ ne. get_or-set_other (replicate 25 0) i k 1 0 ne ∙ get_or-replicate 25 k 0 0 h ∙ sym (ap (λ b. cond b 1 0) (ne_eqb k i ne)))
    (cases_eq k i)

pub single : (i : ℕ) → map {B = ℕ} (λ k. cond (eqb k i) 1 0) (range_with_len 0 25) ≡ set (replicate 25 0) i 1
single i = sym (fill_by_all (λ k. cond (eqb k i) 1 0) (set (replicate 25 0) i 1) 25 0 (simp length-set (length-replicate {A = ℕ} 25 0)) (set_at i))
