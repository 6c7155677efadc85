-- An entry of a list is replaced.
use Rattle.std.proofs.Common.{◌≡◌, ◌≢◌, ℕ, ◌<◌, List, length, set, Some, sym, ap, ◌∙◌, ⊎_elim, arith}
use Rattle.std.proofs.lemmas.Bool.{cases_lt}
use Rattle.std.proofs.lemmas.List.{length-set, get_or-set_same, get_or-set_other}
use Rattle.std.proofs.lemmas.Option.{slice_get-get_or, slice_get_past}
use Rattle.std.specs.List.{slice_get}

module _ {X : Type 0} (xs : List X) (i : ℕ) (x : X) where
  pub set_here : i < length xs → slice_get (set xs i x) i ≡ Some x
  set_here l = let e = length-set xs i x in slice_get-get_or (set xs i x) i x (omega arith) ∙ ap Some (get_or-set_same xs i x x l)

  pub set_elsewhere : (k : ℕ) → k ≢ i → slice_get (set xs i x) k ≡ slice_get xs k
  set_elsewhere k ne =
      let e = length-set xs i x in
      ⊎_elim (λ l. slice_get-get_or (set xs i x) k x (omega arith) ∙ ap Some (get_or-set_other xs i k x x ne) ∙ sym (slice_get-get_or xs k x l)) (λ l. slice_get_past (set xs i x) k (omega arith) ∙ sym (slice_get_past xs k l)) (cases_lt k (length xs))
