use Rattle.std.proofs.Common.{sym, refl, arith}
use Rattle.records.proofs.Asking.{copied_more, copied_all, copied_none}
use Rattle.records.proofs.asked.copy_rows.Goals as goal

pub loop-j-init : goal.loop-j-init
loop-j-init c = λ k l. let no : ⊥ = omega arith in absurd no

pub returns-in_err-into : goal.returns-in_err-into
returns-in_err-into c = λ rows e r. absurd (copied_none c.args.records.now c.args.base rows c.loop-j.j (omega arith) r (c.in_err-into.ensures))

pub loop-j-preserved : goal.loop-j-preserved
loop-j-preserved c = copied_more c.args.records.now c.args.base c.loop-j.into c.loop-j.j c.in_ok-into.field-0 (omega arith) (sym c.in_ok-into.ensures) c.loop-j.invariant

pub returns : goal.returns
returns c = λ rows e r. record {
  done = refl;
  held = copied_all c.args.records.now c.args.base c.loop-j.into rows (omega arith) (λ k l. c.loop-j.invariant k (omega arith)) r;
}
