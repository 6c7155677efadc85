use Rattle.std.specs.Prelude.{is_ok}
use Rattle.std.proofs.Common.{◌≡◌, ◌+◌, [], ◌∷◌, ◌++◌, length, sym, refl, ap, ◌∙◌, subst, arith, lt-ltb}
use Rattle.std.proofs.lemmas.List.Sums.{sum_by_push}
use Rattle.grammar.specs.Trees.{rules_to}
use Rattle.grammar.specs.Weights.{rule_weight, weight_of}
use Rattle.naming.specs.Reaches.{sheet_of}
use Rattle.naming.specs.Sources.{source_of}
use Rattle.naming.proofs.Grown.{rule-here, rule-not}
use Rattle.records.specs.declared.entry.Entry.{Entry}
use Rattle.records.specs.Columns.{Column}
use Rattle.records.specs.Kept.{entry_laws}
use Rattle.records.proofs.Lawful.{taken}
use Rattle.records.specs.Laying.{columns_of, owed_of}
use Rattle.resolving.specs.Ruling.{SameRooms}
use Rattle.resolving.specs.Ruling.{rule_by}
use Rattle.resolving.proofs.Ruling.{rooms_none, rooms_turn, rules-none, rules-turn, rules-in, rules-zero, rules-next, rules-same, weight-front}
use Rattle.resolving.proofs.context.Context.all_rules.Goals as goal
use Rattle.resolving.proofs.context.Context.all_rules.Goals.{in-Some, in_default}

pub loop-at-init : goal.loop-at-init
loop-at-init c =
    let w = c.args.self.now.sheet in (
      rules-in (sheet_of w) [] _ _ _ (rules-none (sheet_of w) (columns_of c.args.tables.now) c.requires.empty) (rules-zero (source_of w) w.nodes.now) refl,
      rooms_none,
      refl,
    )

pub rule-entry-requires : goal.rule-entry-requires
rule-entry-requires c =
    let w = c.args.self.now.sheet in let s = source_of w in let ns = w.nodes.now in let at = c.loop-at.at in let i = c.loop-at.invariant in let k = c.in-Some.ruled in
    let here : rules_to s (at + 1) ns ≡ rules_to s at ns ++ rule_by w at k ∷ [] = rules-next s ns at ∙ ap (λ xs. rules_to s at ns ++ xs) (rule-here s ns at k c.in-Some.ensures) in
    let h = ap weight_of here ∙ sum_by_push rule_weight (rules_to s at ns) (rule_by w at k) in
    let f = weight-front s ns (at + 1) (length ns) (omega (arith, c.loop-at-test.true)) in
    let m = i.0 in let a = c.requires.ample in let r = i.1 in record {
      top = omega (arith, w.few, c.loop-at-test.true);
      roomy = record {
        nodes = omega (arith, m.nodes, a.nodes, r.nodes);
        conditions = omega (arith, m.conditions, a.conditions, r.conditions);
        items = omega (arith, m.items, a.items, r.items);
      };
      params = omega (arith, m.params, a.params, r.params);
    }

pub unwrap-requires : goal.unwrap-requires
unwrap-requires c =
    let w = c.args.self.now.sheet in let s = source_of w in let ns = w.nodes.now in let at = c.loop-at.at in let i = c.loop-at.invariant in let k = c.in-Some.ruled in
    let here : rules_to s (at + 1) ns ≡ rules_to s at ns ++ rule_by w at k ∷ [] = rules-next s ns at ∙ ap (λ xs. rules_to s at ns ++ xs) (rule-here s ns at k c.in-Some.ensures) in
    let h = ap weight_of here ∙ sum_by_push rule_weight (rules_to s at ns) (rule_by w at k) in
    let f = weight-front s ns (at + 1) (length ns) (omega (arith, c.loop-at-test.true)) in
    let same = c.rule-entry.ensures.made.made.others.1 in
    c.push.ensures.value ∙ lt-ltb _ _ (omega (arith, i.0.rules, c.requires.ample.rules, i.1.entries, ap (λ (c : Column Entry). length c.entries) same, ap (λ (c : Column Entry). c.room) same))

pub loop-at-preserved : goal.loop-at-preserved
loop-at-preserved c =
    let w = c.args.self.now.sheet in let s = source_of w in let ns = w.nodes.now in let at = c.loop-at.at in let i = c.loop-at.invariant in
    elim c.match-rule.branch [
      | in-Some v ↦
          let k = v.in-Some.ruled in let q = v.push in let r = v.rule-entry in
          let here : rules_to s (at + 1) ns ≡ rules_to s at ns ++ rule_by w at k ∷ [] = rules-next s ns at ∙ ap (λ xs. rules_to s at ns ++ xs) (rule-here s ns at k v.in-Some.ensures) in
          let h = ap weight_of here ∙ sum_by_push rule_weight (rules_to s at ns) (rule_by w at k) in
          let f = weight-front s ns (at + 1) (length ns) (omega (arith, c.loop-at-test.true)) in
          let m = r.ensures.made in
          let same = m.made.others.1 in
          let p = taken entry_laws (columns_of r.new.tables) (columns_of q.new.self) r.result (is_ok q.result) q.ensures.value
          (omega (arith, i.0.rules, c.requires.ample.rules, i.1.entries, ap (λ (c : Column Entry). length c.entries) same, ap (λ (c : Column Entry). c.room) same)) q.ensures.held in
          let z = ap columns_of v.tables-is ∙ p in (
            rules-in (sheet_of w) _ _ _ _
                (rules-turn (sheet_of w) (rules_to s at ns) (rule_by w at k) r.result (columns_of c.loop-at.tables) (columns_of r.new.tables) i.0 m)
                here z,
            subst (SameRooms (columns_of c.args.tables.now)) (sym z) (rooms_turn (sheet_of w) (rule_by w at k) r.result (columns_of c.args.tables.now) (columns_of c.loop-at.tables) (columns_of r.new.tables) i.1 m),
            ap owed_of v.tables-is ∙ q.ensures.owed ∙ r.ensures.owed ∙ i.2,
          )
      | in_default v ↦ (
        rules-in (sheet_of w) _ _ _ _ i.0 (rules-same s ns at (rule-not s ns at v.in_default.ensures)) (ap columns_of v.tables-is),
        subst (SameRooms (columns_of c.args.tables.now)) (sym (ap columns_of v.tables-is)) i.1,
        ap owed_of v.tables-is ∙ i.2,
      )
    ]

pub returns : goal.returns
returns c =
    let w = c.args.self.now.sheet in let s = source_of w in let ns = w.nodes.now in record {
      made = rules-in (sheet_of w) _ _ _ _ c.loop-at.invariant.0 (ap (λ n. rules_to s n ns) (let e : length ns ≡ c.loop-at.at = omega (arith, c.loop-at-test.false, c.loop-at.auto.at-end) in e)) refl;
      rooms = c.loop-at.invariant.1;
      owed = c.loop-at.invariant.2;
    }
