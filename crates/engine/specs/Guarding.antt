-- Guards that are not settled.
use Rattle.std.specs.Prelude.{ℕ, Bool, cond, not, ◌&&◌, Some, None, Option}
use Rattle.language.specs.declared.refusal.Refusal.{Refusal}
use Rattle.language.specs.declared.refusal.Refusal.TheVariants.{Closed}
use Rattle.language.specs.Drafts.{is_guard}
use Rattle.language.specs.Walking.{Obligation}

-- the refusal for an obligation, if it is a guard without a mark
abbrev pub open_at : ℕ → Obligation → Bool → Option Refusal
open_at number o mark = cond (is_guard o.duty && not mark) (Some (Closed number o.place)) None
