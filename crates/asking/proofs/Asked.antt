-- What the buffer holds after a prover answered.
use Rattle.std.proofs.Common.{◌≡◌, ℕ, Bool, true, false, cond, leb, List, length, take, drop, Some, None, Option, sym, ap, ◌∙◌}
use Rattle.std.proofs.lemmas.List.{take_at}
use Rattle.provers.specs.Proposals.{counted, written, answer, filled}

-- where the answer is a count, the proposal is the buffer's front
pub asked_is : (p : Option (List ℕ)) (before after : List ℕ) (n : ℕ) → answer p before ≡ Some n → after ≡ filled p before → p ≡ Some (take n after)
asked_is None before after n h e = cc
asked_is (Some xs) before after n h e = by-fit (leb (length xs) (length before)) h e
  where
    by-fit : (b : Bool) → counted (cond b (Some xs) None) ≡ Some n → after ≡ written (cond b (Some xs) None) before → Some xs ≡ Some (take n after)
    by-fit true h e = let k : length xs ≡ n = cc in ap Some (sym (ap (take n) e ∙ take_at xs (drop (length xs) before) n k))
    by-fit false h e = cc
