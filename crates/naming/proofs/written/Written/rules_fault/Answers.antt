use Rattle.naming.specs.Reaches.{sheet_of}
use Rattle.naming.specs.Sources.{source_of}
use Rattle.naming.proofs.Ruling.{rules-first, rules-next}
use Rattle.naming.proofs.written.Written.rules_fault.Goals as goal

pub loop-at-init : goal.loop-at-init
loop-at-init c = let w = c.args.self in rules-first (sheet_of w) (source_of w) w.nodes.now

pub loop-at-preserved : goal.loop-at-preserved
loop-at-preserved c =
    let w = c.args.self in let h = c.rule_fault-here in
    rules-next (sheet_of w) (source_of w) w.nodes.now c.loop-at.at c.loop-at.fault h.result c.earlier-fault.result c.loop-at.invariant h.ensures c.earlier-fault.ensures
