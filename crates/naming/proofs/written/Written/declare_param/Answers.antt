use Rattle.std.specs.Prelude.{is_ok}
use Rattle.std.proofs.Common.{length, ap, ◌∙◌, arith}
use Rattle.std.proofs.lemmas.List.{length_push}
use Rattle.pile.specs.Entries.{entries, room}
use Rattle.grammar.specs.Trees.{look_of}
use Rattle.naming.specs.Faults.{fresh}
use Rattle.naming.specs.Least.{least}
use Rattle.naming.specs.Reaches.{scope_of}
use Rattle.naming.specs.Scopes.{Scope, naming}
use Rattle.naming.specs.Sources.{source_of}
use Rattle.naming.proofs.Scoping.{pushed, name-pushed, list_pushed, fresh_in, list-faults, list-scope}
use Rattle.naming.proofs.written.Written.declare_param.Goals as goal

pub returns-in-Some : goal.returns-in-Some
returns-in-Some c =
    let w = c.args.self in let l = look_of (source_of w) in let p = c.args.param in let m = c.in-Some.length in
    let ns = entries c.args.names.now in let ls = entries c.args.lists.now in
    let d = pushed ls _ p.name (is_ok c.push-in-Some.result) (room c.args.lists.now) c.push-in-Some.ensures.value c.requires.lists c.push-in-Some.ensures.held in
    let e = pushed ns _ m (is_ok c.push-in-Some-2.result) (room c.args.names.now) c.push-in-Some-2.ensures.value c.requires.names c.push-in-Some-2.ensures.held in
    let s = list_pushed w ns ls _ p.name d in record {
      value = list-faults w.text.now (scope_of w ns ls) l p m _ _ _ c.in-Some.is c.earlier.ensures (fresh_in w _ ns _ ls _ (l p.name) _ c.declared-twice.ensures c.as_slice.ensures c.as_slice-2.ensures c.token.ensures)
          (fresh_in w _ ns _ _ _ (l m) _ c.declared-again.ensures c.as_slice-in-Some.ensures c.as_slice-in-Some-2.ensures c.token-in-Some.ensures ∙ ap (λ (Γ : Scope). least (fresh w.text.now Γ (l m))) s);
      scope = name-pushed w ns _ _ m e ∙ ap (λ (Γ : Scope). naming Γ (l m)) s ∙ list-scope (scope_of w ns ls) l p m c.in-Some.is;
      more = ap length e ∙ length_push ns m;
      few = omega (arith, ap length d ∙ length_push ls p.name);
      room = (c.push-in-Some-2.ensures.room, c.push-in-Some.ensures.room);
    }
