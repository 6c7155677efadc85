-- The search for the first guard that is not settled.
use Rattle.std.proofs.Common.{◌≡◌, ℕ, suc, ◌+◌, ◌<◌, ◌≤◌, Bool, true, false, cond, not, ◌&&◌, List, [], ◌∷◌, length, drop, Some, None, Option, sym, refl, ap, ◌∙◌, inl, inr, arith}
use Rattle.std.specs.List.{slice_get}
use Rattle.std.proofs.lemmas.List.{drop_all}
use Rattle.std.proofs.Math.Seq.{drop-cons}
use Rattle.std.proofs.lemmas.Option.{slice_get-get_or, slice_get_cases, same_Some, none-some}
use Rattle.language.specs.declared.refusal.Refusal.{Refusal}
use Rattle.language.specs.declared.refusal.Refusal.TheVariants.{Closed}
use Rattle.language.specs.Walking.{Obligation}
use Rattle.language.specs.Running.{Dropped}
use Rattle.language.specs.Drafts.{is_guard, first_open}
use Rattle.records.specs.declared.record.Record.{Record}
use Rattle.records.specs.Owing.{Owes, OwesAll}
use Rattle.records.proofs.Asking.{owes_at}
use Rattle.engine.specs.Guarding.{open_at}

-- the search from a number on
abbrev pub from : ℕ → List Obligation → Dropped → Option Refusal
from n os S = first_open n (drop n os) S

found : (b : Bool) (r c : Refusal) (rest : Option Refusal) → Some r ≡ cond b (Some c) None → Some r ≡ cond b (Some c) rest
found true r c rest e = e
found false r c rest e = absurd (none-some r (sym e))

passed : (b : Bool) (c : Refusal) (rest : Option Refusal) → None ≡ cond b (Some c) None → cond b (Some c) rest ≡ rest
passed true c rest e = absurd (none-some c e)
passed false c rest e = refl

module _ (os : List Obligation) (S : Dropped) (records : List Record) (all : OwesAll records os) (n : ℕ) (below : n < length os) where
  -- at the obligation with this number
  here : (o : Obligation) → slice_get os n ≡ Some o → from n os S ≡ cond (is_guard o.duty && not (S n)) (Some (Closed n o.place)) (from (suc n) os S)
  unfolding first_open
  here o e = ap (λ xs. first_open n xs S) (drop-cons os n o below ∙ ap (λ x. x ∷ drop (suc n) os) (same_Some _ _ (sym (slice_get-get_or os n o below) ∙ e)))

  pub opened_here : (r : Refusal) → ((o : Obligation) → Owes records n o → Some r ≡ open_at n o (S n)) → Some r ≡ from n os S
  opened_here r h =
      elim (slice_get_cases os n).1 [
        | inl (o, within, is, same) ↦ found (is_guard o.duty && not (S n)) r (Closed n o.place) (from (suc n) os S) (h o (owes_at records os n o all is)) ∙ sym (here o is)
        | inr (past, none) ↦ let no : ⊥ = omega arith in absurd no
      ]

  pub closed_here : ((o : Obligation) → Owes records n o → None ≡ open_at n o (S n)) → from n os S ≡ from (n + 1) os S
  closed_here h =
      elim (slice_get_cases os n).1 [
        | inl (o, within, is, same) ↦ here o is ∙ passed (is_guard o.duty && not (S n)) (Closed n o.place) (from (suc n) os S) (h o (owes_at records os n o all is)) ∙ ap (λ k. from k os S) (let e : suc n ≡ n + 1 = omega arith in e)
        | inr (past, none) ↦ let no : ⊥ = omega arith in absurd no
      ]

pub closed_after : (os : List Obligation) (S : Dropped) (n : ℕ) → length os ≤ n → None ≡ from n os S
unfolding first_open
closed_after os S n h = ap (λ xs. first_open n xs S) (sym (drop_all n os h))

-- the same answer by marks that say the same
pub same_open : (k : ℕ) (os : List Obligation) (S M : Dropped) → ((n : ℕ) → S n ≡ M n) → first_open k os S ≡ first_open k os M
unfolding first_open
same_open k [] S M same = refl
same_open k (o ∷ os) S M same =
    ap (λ b. cond (is_guard o.duty && not b) (Some (Closed k o.place)) (first_open (suc k) os S)) (same k)
    ∙ ap (cond (is_guard o.duty && not (M k)) (Some (Closed k o.place))) (same_open (suc k) os S M same)
