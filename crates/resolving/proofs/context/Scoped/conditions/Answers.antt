use Rattle.std.specs.Prelude.{is_ok}
use Rattle.std.proofs.Common.{◌≡◌, [], ◌∷◌, ◌++◌, length, sym, refl, ap, ◌∙◌, subst, arith, lt-ltb}
use Rattle.std.proofs.lemmas.List.{length_push}
use Rattle.std.proofs.lemmas.List.Sums.{sum_by-cons}
use Rattle.grammar.specs.Weights.{condition_weight, conditions_weight}
use Rattle.records.specs.declared.condition.Condition.{Condition}
use Rattle.records.specs.Columns.{Column, Columns}
use Rattle.records.specs.Kept.{condition_laws}
use Rattle.records.specs.Laying.{columns_of}
use Rattle.records.proofs.Lawful.{taken}
use Rattle.naming.specs.Reaches.{scope_of}
use Rattle.naming.specs.Resolving.{condition_of}
use Rattle.naming.specs.declared.condition.Conditions.{Conditions}
use Rattle.naming.specs.Sides.{raw_condition, conditions_left}
use Rattle.resolving.proofs.Listings.{Under, under_none, under-turn, under_all, under-in}
use Rattle.resolving.proofs.Alone.{items_alone, condition_alone, conditions_then, conditions_none}
use Rattle.resolving.proofs.context.Scoped.conditions.Goals as goal

pub loop-condition-init : goal.loop-condition-init
loop-condition-init c =
    let w = c.args.self.sheet in let P = columns_of c.args.tables.now in let F = condition_of w.text.now (scope_of w c.args.self.names.now []) in
    let e = c.into_iter-condition-iterator.ensures.into_iter_gives in let cs = conditions_left c.args.conditions in
    let n = ap (λ (s : Conditions). conditions_weight (conditions_left s)) e in record {
      under = subst (λ (s : Conditions). Under F cs (conditions_left s) P.conditions.entries P.conditions.entries P.items.entries P.items.entries) (sym e) (under_none F cs P.conditions.entries P.items.entries);
      conditions = omega (arith, c.requires.conditions, n);
      items = omega (arith, c.requires.items, n);
      size = omega (arith, n);
      others = conditions_none;
      owed = refl;
      sheet = ap (λ (s : Conditions). s.sheet) e ∙ c.requires.sheet;
    }

pub condition-resolved-requires : goal.condition-resolved-requires
condition-resolved-requires c =
    let i = c.loop-condition.invariant in let s = c.in-Some.ensures.steps in
    let k = ap conditions_weight s.conditions ∙ sum_by-cons condition_weight (raw_condition c.in-Some.condition) (conditions_left c.next.new.self) in record {
      sheets = (s.sheets.0 ∙ i.sheet, s.sheets.1 ∙ i.sheet);
      room = omega (arith, i.items);
    }

pub unwrap-requires : goal.unwrap-requires
unwrap-requires c =
    let i = c.loop-condition.invariant in let s = c.in-Some.ensures.steps in let f = c.condition-resolved in
    let k = ap conditions_weight s.conditions ∙ sum_by-cons condition_weight (raw_condition c.in-Some.condition) (conditions_left c.next.new.self) in
    let same : (columns_of f.new.tables).conditions ≡ (columns_of c.loop-condition.tables).conditions = ap (λ (c : Columns). c.conditions) f.ensures.others.rest in
    c.push.ensures.value ∙ lt-ltb _ _ (omega (arith, i.conditions, ap (λ (d : Column Condition). length d.entries) same, ap (λ (d : Column Condition). d.room) same))

pub loop-condition-preserved : goal.loop-condition-preserved
loop-condition-preserved c =
    let w = c.args.self.sheet in let i = c.loop-condition.invariant in let s = c.in-Some.ensures.steps in let f = c.condition-resolved in let q = c.push in
    let F = condition_of w.text.now (scope_of w c.args.self.names.now []) in let d = raw_condition c.in-Some.condition in
    let k = ap conditions_weight s.conditions ∙ sum_by-cons condition_weight d (conditions_left c.next.new.self) in
    let same : (columns_of f.new.tables).conditions ≡ (columns_of c.loop-condition.tables).conditions = ap (λ (c : Columns). c.conditions) f.ensures.others.rest in
    let g = taken condition_laws (columns_of f.new.tables) (columns_of q.new.self) f.result (is_ok q.result) q.ensures.value (omega (arith, i.conditions, ap (λ (d : Column Condition). length d.entries) same, ap (λ (d : Column Condition). d.room) same)) q.ensures.held in
    let p = ap (λ (c : Columns). c.conditions.entries) g ∙ ap (λ (d : Column Condition). d.entries ++ f.result ∷ []) same in
    let m = ap length p ∙ length_push (columns_of c.loop-condition.tables).conditions.entries f.result in record {
      under = under-in F _ _ _ _ (under-turn F _ _ _ d f.result _ (columns_of c.loop-condition.tables).conditions.entries _ _ (columns_of c.loop-condition.tables).items.entries _ i.under s.conditions f.ensures.formed p) refl (ap (λ (c : Columns). c.items.entries) g);
      conditions = omega (arith, i.conditions, ap (λ (c : Columns). c.conditions.room) g, ap (λ (d : Column Condition). d.room) same);
      items = omega (arith, i.items, f.ensures.size, f.ensures.others.room, ap (λ (c : Columns). c.items.room) g, ap (λ (c : Columns). length c.items.entries) g);
      size = omega (arith, i.size, f.ensures.size, ap (λ (c : Columns). length c.items.entries) g);
      others = conditions_then i.others (conditions_then (items_alone f.ensures.others) (condition_alone (columns_of f.new.tables) (columns_of q.new.self) f.result g));
      owed = q.ensures.owed ∙ f.ensures.owed ∙ i.owed;
      sheet = s.sheet ∙ i.sheet;
    }

pub returns : goal.returns
returns c =
    let w = c.args.self.sheet in let i = c.loop-condition.invariant in let F = condition_of w.text.now (scope_of w c.args.self.names.now []) in
    let none = c.in-None.ensures.steps.conditions.0 in let z = ap conditions_weight none in record {
      listing = under_all F (conditions_left c.args.conditions) (conditions_left c.loop-condition.condition-iterator) _ _ _ _ i.under none;
      stretch = (c.count-from.ensures, c.count.ensures);
      size = omega (arith, i.size);
      others = i.others;
      owed = i.owed;
    }
