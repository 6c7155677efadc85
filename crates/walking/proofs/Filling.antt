-- The row that room for facts is filled with.
use Rattle.std.proofs.Common.{◌≡◌, true, pos, replicate, is_some, sym, refl, ap}
use Rattle.rows.specs.declared.row.Kind.TheVariants.{AtMost}
use Rattle.rows.specs.Limits.{all_small}
use Rattle.rows.specs.Rows.{row_of}
use Rattle.rows.proofs.Making.{made_some}

pub any-made : is_some (row_of (replicate 16 (pos 0)) (pos 0) AtMost) ≡ true
unfolding all_small
any-made = ap is_some (sym (made_some (replicate 16 (pos 0)) (pos 0) AtMost refl))
