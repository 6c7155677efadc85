-- What an `Option` that is there says of the parts that it is made of.
use Rattle.std.proofs.Common.{◌≡◌, Bool, true, false, cond, Some, None, Option, refl}
use Rattle.std.proofs.lemmas.Option.{none-some}
use Rattle.provers.specs.Elimination.{bind}

pub opened : {X Y : Type 0} (o : Option X) (f : X → Option Y) (y : Y) → bind o f ≡ Some y → (x : X) × ((o ≡ Some x) × (f x ≡ Some y))
opened None f y h = absurd (none-some y h)
opened (Some x) f y h = (x, (refl, h))

pub passed : {X : Type 0} (b : Bool) (o : Option X) (y : X) → cond b o None ≡ Some y → (b ≡ true) × (o ≡ Some y)
passed true o y h = (refl, h)
passed false o y h = absurd (none-some y h)
