use Rattle.std.proofs.Common.{◌+◌, ◌∙◌, arith}
use Rattle.naming.specs.Sources.{source_of}
use Rattle.naming.proofs.Called.{named_none, named-next, named-front}
use Rattle.naming.proofs.written.Written.rule_named.Goals as goal

pub loop-at-init : goal.loop-at-init
loop-at-init c = named_none c.args.self.text.now c.args.token (source_of c.args.self) c.args.self.nodes.now

pub returns-in-Some : goal.returns-in-Some
returns-in-Some c =
    let w = c.args.self in let s = source_of w in
    named-front w.text.now c.args.token s w.nodes.now _ (c.loop-at.at + 1) c.args.count (omega arith) (named-next w.text.now c.args.token s w.nodes.now c.loop-at.at c.loop-at.invariant ∙ c.in-Some.ensures)

pub loop-at-preserved : goal.loop-at-preserved
loop-at-preserved c =
    let w = c.args.self in let s = source_of w in
    named-next w.text.now c.args.token s w.nodes.now c.loop-at.at c.loop-at.invariant ∙ c.in_default.ensures
