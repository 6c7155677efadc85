-- What tests that passed, and options that are none, say.
use Rattle.std.proofs.Common.{◌≡◌, Bool, true, false, cond, ◌&&◌, T, Some, None, Option, sym}
use Rattle.std.proofs.lemmas.Option.{none-some}

pub both_left : (a b : Bool) → T (a && b) → T a
both_left true b t = tt
both_left false b t = t

pub both_right : (a b : Bool) → T (a && b) → T b
both_right true b t = t
both_right false b t = absurd t

pub both-from : (a b : Bool) → T a → T b → T (a && b)
both-from true b h k = k
both-from false b h k = absurd h

pub cond-none : {A : Type 0} (b : Bool) (o : Option A) (x : A) → cond b o (Some x) ≡ None → T b × (o ≡ None)
cond-none true o x e = (tt, e)
cond-none false o x e = absurd (none-some x (sym e))

pub cond-some : {A : Type 0} (b : Bool) (o : Option A) (x : A) → cond b o None ≡ Some x → T b × (o ≡ Some x)
cond-some true o x e = (tt, e)
cond-some false o x e = absurd (none-some x e)
