-- Arrays that `from_fn` makes, where its closure computes a function and stays as it is.
use Rattle.std.proofs.Common.{◌≡◌, ℕ, zero, suc, ◌+◌, ◌<◌, ◌≤◌, List, map, get_or, sym, ap, subst, ◌∙◌, ⊎_elim, arith}
use Rattle.std.specs.Array.{IsFromFnResult, IsFromFnResultFrom}
use Rattle.std.specs.Fn.{Called}
use Rattle.std.specs.List.{range_with_len}
use denote.Param.Members.{Mut}
use Rattle.std.proofs.lemmas.Bool.{cases_eq}
use Rattle.std.proofs.lemmas.List.FromFn.{fill_by_all}

module _ {F B : Type 0} (g : Mut F (ℕ × Unit {0}) B) (f : F) (h : ℕ → B) (n : ℕ) (acts : (i : ℕ) (y : B) (q : F) → i < n → Called g f (i, tt) y q → (q ≡ f) × (y ≡ h i)) (ys : List B) (d : B) where
  each_is : (m i : ℕ) → i + m ≤ n → IsFromFnResultFrom g f ys i m → (k : ℕ) → i ≤ k → k < i + m → get_or ys k d ≡ h k
  each_is zero i w r k l u = let no : ⊥ = omega arith in absurd no
  each_is (suc m) i w r k l u =
      let a = acts i r.1 r.0 (omega arith) r.3 in
      ⊎_elim
      (λ e. ap (λ j. get_or ys j d) e ∙ r.2.1 d ∙ a.1 ∙ ap h (sym e))
      (λ ne. each_is m (i + 1) (omega arith) (subst (λ (q : F). IsFromFnResultFrom g q ys (i + 1) m) a.0 r.4) k (omega arith) (omega arith))
      (cases_eq k i)

  pub made_by : IsFromFnResult g f ys n → ys ≡ map h (range_with_len 0 n)
  made_by r = fill_by_all h ys n d r.long (λ k u. each_is n 0 (omega arith) r.each k (omega arith) (omega arith))
