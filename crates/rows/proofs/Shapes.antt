-- What the test of a row's kind says.
use Rattle.std.proofs.Common.{◌≡◌, true, refl}
use Rattle.rows.specs.declared.row.Kind.{Kind}
use Rattle.rows.specs.declared.row.Kind.TheVariants.{AtMost, Unequal}
use Rattle.rows.specs.Questions.{is_at_most}

pub at-most-is : (k : Kind) → is_at_most k ≡ true → k ≡ AtMost
at-most-is AtMost h = refl
at-most-is Unequal h = cc
