-- What a good outcome says of the tests before it.
use Rattle.std.specs.Prelude.{◌≡◌, Bool, true, false, cond, Ok, Err, refl}
use Rattle.std.proofs.Common.{sym}
use Rattle.domains.specs.declared.fault.Reason.{Reason}
use Rattle.std.proofs.lemmas.Bool.{true≢false}
use Rattle.domains.specs.Faults.{Outcome, Good, fault, raised}

pub good-parts : (b : Bool) (x : Outcome) (r : Reason) → Good (cond b x (fault r)) → (b ≡ true) × Good x
good-parts true x r g = (refl, g)
good-parts false x r g = absurd g

-- and the way back
pub good-at : (b : Bool) (x : Outcome) (r : Reason) → b ≡ true → Good x → Good (cond b x (fault r))
good-at true x r e g = g
good-at false x r e g = absurd (true≢false (sym e))

-- a layer's good outcome is good below
pub good-below : (o : Outcome) → Good (raised o) → Good o
good-below (Ok u) g = tt
good-below (Err f) g = absurd g
