use Rattle.std.proofs.Common.{◌∙◌, sym, arith}
use Rattle.language.specs.Drafts.{marked}
use Rattle.engine.proofs.Opened.{opened_here, closed_here, closed_after}
use Rattle.engine.proofs.guards.first_open.Goals as goal

pub returns-in-Some : goal.returns-in-Some
returns-in-Some c os many all = opened_here os (marked c.args.marks.now) c.args.records.now all c.loop-number.number (omega (arith, many)) c.in-Some.refusal c.in-Some.ensures ∙ sym (c.loop-number.invariant os many all)

pub loop-number-preserved : goal.loop-number-preserved
loop-number-preserved c os many all = c.loop-number.invariant os many all ∙ closed_here os (marked c.args.marks.now) c.args.records.now all c.loop-number.number (omega (arith, many)) c.in_default.ensures

pub returns : goal.returns
returns c os many all = closed_after os (marked c.args.marks.now) c.loop-number.number (omega (arith, many)) ∙ sym (c.loop-number.invariant os many all)
