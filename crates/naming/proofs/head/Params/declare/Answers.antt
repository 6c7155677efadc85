use Rattle.std.proofs.Common.{◌≡◌, [], ◌∷◌, length, ap, ◌∙◌, arith}
use Rattle.pile.specs.Entries.{entries}
use Rattle.grammar.specs.Trees.{look_of}
use Rattle.naming.specs.Reaches.{scope_of}
use Rattle.naming.specs.Sources.{source_of}
use Rattle.naming.specs.Stretching.{left, written}
use Rattle.naming.specs.declared.written.Written.{Written}
use Rattle.naming.proofs.Scoping.{head-turn, scope-turn, head-end, scope-end}
use Rattle.naming.proofs.head.Params.declare.Goals as goal

pub loop-param-preserved : goal.loop-param-preserved
loop-param-preserved c =
    let w = c.args.self.sheet in let l = look_of (source_of w) in let p = written l c.in-Some.param in let i = c.loop-param.invariant in let d = c.declare_param-twice in
    let Γ = scope_of w (entries c.loop-param.names) (entries c.loop-param.lists) in let ps = left c.next.new.self in
    let e : left c.loop-param.param-iterator ≡ p ∷ ps = c.in-Some.ensures.steps.0 ∙ ap (λ (v : Written). written (look_of (source_of v)) c.in-Some.param ∷ ps) i.sheet in
    let n = ap length e in record {
      fault = head-turn w.text.now Γ _ p ps (left c.loop-param.param-iterator) _ c.loop-param.fault d.result c.earlier-fault.result i.fault e d.ensures.value d.ensures.scope c.earlier-fault.ensures;
      scope = scope-turn _ Γ _ p ps (left c.loop-param.param-iterator) i.scope e d.ensures.scope;
      more = omega (arith, i.more, d.ensures.more);
      few = omega (arith, i.few, d.ensures.few);
      names = d.ensures.room.0 ∙ i.names;
      lists = d.ensures.room.1 ∙ i.lists;
      sheet = c.in-Some.ensures.steps.1 ∙ i.sheet;
    }

pub returns : goal.returns
returns c =
    let w = c.args.self.sheet in let i = c.loop-param.invariant in let it = c.loop-param.param-iterator in
    let Γ = scope_of w (entries c.loop-param.names) (entries c.loop-param.lists) in
    let none : left it ≡ [] = c.in-None.ensures.steps.0.0 in
    let n = ap length none in record {
      value = head-end w.text.now Γ (left it) _ c.loop-param.fault i.fault none;
      scope = scope-end _ Γ (left it) i.scope none;
      more = omega (arith, i.more);
      room = (i.names, i.lists);
    }
