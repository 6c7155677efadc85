use Rattle.std.specs.Prelude.{is_ok}
use Rattle.std.proofs.Common.{◌≡◌, ℕ, ◌++◌, map, length, sym, refl, ap, ◌∙◌, arith}
use Rattle.std.proofs.lemmas.List.{length_push}
use Rattle.grammar.specs.Raw as Raw
use Rattle.grammar.specs.Trees.{look_of, rules_to}
use Rattle.pile.specs.declared.Pile.{Pile}
use Rattle.pile.specs.Entries.{entries, room}
use Rattle.naming.specs.Reaches.{tokens_of}
use Rattle.naming.specs.Sources.{source_of}
use Rattle.naming.proofs.Grown.{rule-here, rule-not}
use Rattle.resolving.specs.Ruling.{rule_by}
use Rattle.resolving.proofs.Adding.{pushed}
use Rattle.resolving.proofs.Ruling.{rules-zero, rules-next, rules-same, name-joins}
use Rattle.resolving.proofs.rules.rule_names.Goals as goal
use Rattle.resolving.proofs.rules.rule_names.Goals.{in-Some, in_default}

pub loop-at-init : goal.loop-at-init
loop-at-init c =
    let w = c.args.sheet in (
      ap (tokens_of w) c.fall_back.ensures.held ∙ sym (ap (map (λ (r : Raw.Rule). r.name)) (rules-zero (source_of w) w.nodes.now)),
      omega (arith, ap length c.fall_back.ensures.held),
      refl,
    )

pub loop-at-preserved : goal.loop-at-preserved
loop-at-preserved c =
    let w = c.args.sheet in let s = source_of w in let ns = w.nodes.now in let at = c.loop-at.at in let i = c.loop-at.invariant in
    elim c.match-rule.branch [
      | in-Some v ↦
          let k = v.in-Some.ruled in let q = v.push in
          let here = rules-next s ns at ∙ ap (λ xs. rules_to s at ns ++ xs) (rule-here s ns at k v.in-Some.ensures) in
          let p = pushed (entries c.loop-at.names) _ k.name (is_ok q.result) (room c.loop-at.names) q.ensures.value (omega (arith, i.1, i.2, c.fall_back.ensures.room, c.requires, w.few, c.loop-at-test.true)) q.ensures.held in
          let e = ap length p ∙ length_push (entries c.loop-at.names) k.name in (
            ap (λ (x : Pile ℕ). tokens_of w (entries x)) v.names-is ∙ name-joins (look_of s) (entries c.loop-at.names) _ (rules_to s at ns) _ (rule_by w at k) k.name i.0 p here refl,
            omega (arith, i.1, ap (λ (x : Pile ℕ). length (entries x)) v.names-is),
            ap room v.names-is ∙ q.ensures.room ∙ i.2,
          )
      | in_default v ↦ (
        ap (λ (x : Pile ℕ). tokens_of w (entries x)) v.names-is ∙ i.0 ∙ sym (ap (map (λ (r : Raw.Rule). r.name)) (rules-same s ns at (rule-not s ns at v.in_default.ensures))),
        omega (arith, i.1, ap (λ (x : Pile ℕ). length (entries x)) v.names-is),
        ap room v.names-is ∙ i.2,
      )
    ]

pub returns : goal.returns
returns c =
    let w = c.args.sheet in let s = source_of w in let ns = w.nodes.now in
    c.loop-at.invariant.0 ∙ ap (λ n. map (λ (r : Raw.Rule). r.name) (rules_to s n ns)) (let e : c.loop-at.at ≡ length ns = omega (arith, c.loop-at-test.false, c.loop-at.auto.at-end) in e)
