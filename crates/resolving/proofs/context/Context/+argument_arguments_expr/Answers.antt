-- Each return is one way through the written tree: its parts in the tables, then its node. Each begins with names for the parts of its own goal, which has a type of its own.
use Rattle.std.specs.Prelude.{is_ok}
use Rattle.std.proofs.Common.{◌≡◌, ◌+◌, ◌<◌, [], ◌∷◌, length, take, Some, None, sym, refl, ap, ◌∙◌, subst, ap₂, inl, inr, arith}
use Rattle.std.proofs.lemmas.List.{length_push, take_at}
use Rattle.letters.specs.declared.token.Token.{Token}
use Rattle.grammar.specs.declared.node.Node.{Node}
use Rattle.grammar.specs.Raw as Raw
use Rattle.grammar.specs.Stretches.{conditions_at}
use Rattle.grammar.specs.Trees.{look_of, grown, part_in, raw_at, args_at, no_expr}
use Rattle.grammar.specs.Weights.{expr_weight, args_weight, conditions_weight}
use Rattle.pile.specs.Entries.{entries, room}
use Rattle.naming.specs.Reaches.{tokens_of, scope_of, sheet_of}
use Rattle.naming.specs.Scopes.{Scope, slot_in, naming}
use Rattle.naming.specs.Sides.{conditions_left}
use Rattle.naming.specs.Sources.{source_of, rules_of}
use Rattle.naming.proofs.Grown.{args_more, args_none}
use Rattle.naming.proofs.Scoping.{name-pushed}
use Rattle.naming.specs.Resolving.{slot_of, operator_of, comparison_of, conditions_of}
use Rattle.language.specs.Tree as Tree
use Rattle.resolving.specs.Making.{Listing}
use Rattle.resolving.proofs.Adding.{pushed}
use Rattle.records.specs.declared.node.Node.{Node as Resolved}
use Rattle.records.specs.Columns.{Column, Columns}
use Rattle.records.specs.Laying.{columns_of}
use Rattle.resolving.specs.Growing.{Roomy, Made, ArgsAt, ExprMade, ArgsMade}
use Rattle.resolving.proofs.Growing.{roomy_after, made-listed}
use Rattle.resolving.proofs.Parts.{raw-is, roomy-less, roomy-is, made-is, made_in-law, rule_found, nothing, listed-few}
use Rattle.resolving.proofs.Resolved.{num-made, name-made, calc-made, read_made, bind-made, test-made, put-made, claim-made, end-made, call-made, lent-made, value_made, more-made, none_made, nest-made}
use Rattle.resolving.proofs.context.Context.+argument_arguments_expr.Goals as goal

pub expr-add-requires-in-Num : goal.expr-add-requires-in-Num
unfolding expr_weight
expr-add-requires-in-Num t c =
    let w = c.args.self.now.sheet in let s = source_of w in let ns = w.nodes.now in let S = sheet_of w in let at = c.args.at in let ls = c.args.self.now.lists.now in let xs = entries c.args.names.now in
    let is : raw_at s c.args.top ns at ≡ Raw.num (look_of s c.in-Num.token) = raw-is s c.args.top ns at _ (ap Some (sym c.in-Num.is) ∙ c.in-Some.ensures.read) in
    let R0 = roomy-is _ _ (columns_of c.args.tables.now) c.requires.roomy is in
    let r = R0.nodes in omega arith

pub expr-returns-in-Num : goal.expr-returns-in-Num
expr-returns-in-Num t c =
    let w = c.args.self.now.sheet in let s = source_of w in let ns = w.nodes.now in let S = sheet_of w in let at = c.args.at in let ls = c.args.self.now.lists.now in let xs = entries c.args.names.now in
    let is : raw_at s c.args.top ns at ≡ Raw.num (look_of s c.in-Num.token) = raw-is s c.args.top ns at _ (ap Some (sym c.in-Num.is) ∙ c.in-Some.ensures.read) in
    let A = c.add-in-Num in
    record {
      made = made-is S (scope_of w xs ls) _ _ _ _ _ _ (num-made S (scope_of w xs ls) (look_of s c.in-Num.token) _ _ (columns_of c.args.tables.now) _ c.place-place.ensures (ap (λ (k : Token). k.value) c.token-value.ensures) A.ensures.held) is A.ensures.position;
      names = (refl, refl);
      owed = A.ensures.owed;
    }

pub expr-add-requires-in-Name : goal.expr-add-requires-in-Name
unfolding expr_weight
expr-add-requires-in-Name t c =
    let w = c.args.self.now.sheet in let s = source_of w in let ns = w.nodes.now in let S = sheet_of w in let at = c.args.at in let ls = c.args.self.now.lists.now in let xs = entries c.args.names.now in
    let is : raw_at s c.args.top ns at ≡ Raw.name (look_of s c.in-Name.token) = raw-is s c.args.top ns at _ (ap Some (sym c.in-Name.is) ∙ c.in-Some.ensures.read) in
    let R0 = roomy-is _ _ (columns_of c.args.tables.now) c.requires.roomy is in
    let r = R0.nodes in omega arith

pub expr-returns-in-Name : goal.expr-returns-in-Name
expr-returns-in-Name t c =
    let w = c.args.self.now.sheet in let s = source_of w in let ns = w.nodes.now in let S = sheet_of w in let at = c.args.at in let ls = c.args.self.now.lists.now in let xs = entries c.args.names.now in
    let is : raw_at s c.args.top ns at ≡ Raw.name (look_of s c.in-Name.token) = raw-is s c.args.top ns at _ (ap Some (sym c.in-Name.is) ∙ c.in-Some.ensures.read) in
    let A = c.add-in-Name in
    record {
      made = made-is S (scope_of w xs ls) _ _ _ _ _ _ (name-made S (scope_of w xs ls) (look_of s c.in-Name.token) _ _ (columns_of c.args.tables.now) _ c.place-place-in-Name.ensures (c.slot-slot.ensures ∙ ap₂ (λ zs (k : Token). slot_of (slot_in w.text.now (tokens_of w zs) k)) c.as_slice.ensures c.token.ensures) A.ensures.held) is A.ensures.position;
      names = (refl, refl);
      owed = A.ensures.owed;
    }

pub expr-expr-left-requires : goal.expr-expr-left-requires
unfolding expr_weight
expr-expr-left-requires t c =
    let w = c.args.self.now.sheet in let s = source_of w in let ns = w.nodes.now in let S = sheet_of w in let at = c.args.at in let ls = c.args.self.now.lists.now in let xs = entries c.args.names.now in
    let is : raw_at s c.args.top ns at ≡ Raw.calc (look_of s c.in-Calc.sign) (raw_at s at ns c.in-Calc.left) (raw_at s at ns c.in-Calc.right) = raw-is s c.args.top ns at _ (ap Some (sym c.in-Calc.is) ∙ c.in-Some.ensures.read) in
    let R0 = roomy-is _ _ (columns_of c.args.tables.now) c.requires.roomy is in
    (omega (arith, c.decreases, c.in-Some.ensures.below), (omega (arith, c.requires.names, c.in-Some.ensures.below), roomy-less R0 (omega arith)))

pub expr-expr-right-requires : goal.expr-expr-right-requires
unfolding expr_weight
expr-expr-right-requires t c =
    let w = c.args.self.now.sheet in let s = source_of w in let ns = w.nodes.now in let S = sheet_of w in let at = c.args.at in let ls = c.args.self.now.lists.now in let xs = entries c.args.names.now in
    let is : raw_at s c.args.top ns at ≡ Raw.calc (look_of s c.in-Calc.sign) (raw_at s at ns c.in-Calc.left) (raw_at s at ns c.in-Calc.right) = raw-is s c.args.top ns at _ (ap Some (sym c.in-Calc.is) ∙ c.in-Some.ensures.read) in
    let R0 = roomy-is _ _ (columns_of c.args.tables.now) c.requires.roomy is in
    let R1 = roomy_after {u = 1 + expr_weight (raw_at s at ns c.in-Calc.right)} R0 c.expr-left.ensures.made (omega arith) in
    (omega (arith, c.decreases, c.in-Some.ensures.below), (omega (arith, c.requires.names, c.in-Some.ensures.below, ap length c.expr-left.ensures.names.0, c.expr-left.ensures.names.1), roomy-less R1 (omega arith)))

pub expr-add-requires-in-Calc : goal.expr-add-requires-in-Calc
unfolding expr_weight
expr-add-requires-in-Calc t c =
    let w = c.args.self.now.sheet in let s = source_of w in let ns = w.nodes.now in let S = sheet_of w in let at = c.args.at in let ls = c.args.self.now.lists.now in let xs = entries c.args.names.now in
    let is : raw_at s c.args.top ns at ≡ Raw.calc (look_of s c.in-Calc.sign) (raw_at s at ns c.in-Calc.left) (raw_at s at ns c.in-Calc.right) = raw-is s c.args.top ns at _ (ap Some (sym c.in-Calc.is) ∙ c.in-Some.ensures.read) in
    let R0 = roomy-is _ _ (columns_of c.args.tables.now) c.requires.roomy is in
    let R1 = roomy_after {u = 1 + expr_weight (raw_at s at ns c.in-Calc.right)} R0 c.expr-left.ensures.made (omega arith) in
    let R2 = roomy_after {u = 1} R1 c.expr-right.ensures.made (omega arith) in
    let r = R2.nodes in omega arith

pub expr-returns-in-Calc : goal.expr-returns-in-Calc
expr-returns-in-Calc t c =
    let w = c.args.self.now.sheet in let s = source_of w in let ns = w.nodes.now in let S = sheet_of w in let at = c.args.at in let ls = c.args.self.now.lists.now in let xs = entries c.args.names.now in
    let is : raw_at s c.args.top ns at ≡ Raw.calc (look_of s c.in-Calc.sign) (raw_at s at ns c.in-Calc.left) (raw_at s at ns c.in-Calc.right) = raw-is s c.args.top ns at _ (ap Some (sym c.in-Calc.is) ∙ c.in-Some.ensures.read) in
    let A = c.add-in-Calc in
    record {
      made = made-is S (scope_of w xs ls) _ _ _ _ _ _ (calc-made S (scope_of w xs ls) (look_of s c.in-Calc.sign) _ _ _ _ _ _ (columns_of c.args.tables.now) (columns_of c.expr-left.new.tables) (columns_of c.expr-right.new.tables) _ c.expr-left.ensures.made (made_in-law S w _ xs ls (raw_at s at ns c.in-Calc.right) _ _ _ c.expr-right.ensures.made c.expr-left.ensures.names.0) c.place-place-in-Calc.ensures (c.operator_of-operator.ensures ∙ ap (λ (k : Token). operator_of k.kind) c.token-in-Calc.ensures) A.ensures.held) is A.ensures.position;
      names = (c.expr-right.ensures.names.0 ∙ c.expr-left.ensures.names.0, c.expr-right.ensures.names.1 ∙ c.expr-left.ensures.names.1);
      owed = A.ensures.owed ∙ c.expr-right.ensures.owed ∙ c.expr-left.ensures.owed;
    }

pub expr-expr-index-requires : goal.expr-expr-index-requires
unfolding expr_weight
expr-expr-index-requires t c =
    let w = c.args.self.now.sheet in let s = source_of w in let ns = w.nodes.now in let S = sheet_of w in let at = c.args.at in let ls = c.args.self.now.lists.now in let xs = entries c.args.names.now in
    let is : raw_at s c.args.top ns at ≡ Raw.read (look_of s c.in-Read.name) (raw_at s at ns c.in-Read.index) = raw-is s c.args.top ns at _ (ap Some (sym c.in-Read.is) ∙ c.in-Some.ensures.read) in
    let R0 = roomy-is _ _ (columns_of c.args.tables.now) c.requires.roomy is in
    (omega (arith, c.decreases, c.in-Some.ensures.below), (omega (arith, c.requires.names, c.in-Some.ensures.below), roomy-less R0 (omega arith)))

pub expr-add-requires-in-Read : goal.expr-add-requires-in-Read
unfolding expr_weight
expr-add-requires-in-Read t c =
    let w = c.args.self.now.sheet in let s = source_of w in let ns = w.nodes.now in let S = sheet_of w in let at = c.args.at in let ls = c.args.self.now.lists.now in let xs = entries c.args.names.now in
    let is : raw_at s c.args.top ns at ≡ Raw.read (look_of s c.in-Read.name) (raw_at s at ns c.in-Read.index) = raw-is s c.args.top ns at _ (ap Some (sym c.in-Read.is) ∙ c.in-Some.ensures.read) in
    let R0 = roomy-is _ _ (columns_of c.args.tables.now) c.requires.roomy is in
    let R1 = roomy_after {u = 1} R0 c.expr-index.ensures.made (omega arith) in
    let r = R1.nodes in omega arith

pub expr-returns-in-Read : goal.expr-returns-in-Read
expr-returns-in-Read t c =
    let w = c.args.self.now.sheet in let s = source_of w in let ns = w.nodes.now in let S = sheet_of w in let at = c.args.at in let ls = c.args.self.now.lists.now in let xs = entries c.args.names.now in
    let is : raw_at s c.args.top ns at ≡ Raw.read (look_of s c.in-Read.name) (raw_at s at ns c.in-Read.index) = raw-is s c.args.top ns at _ (ap Some (sym c.in-Read.is) ∙ c.in-Some.ensures.read) in
    let A = c.add-in-Read in
    record {
      made = made-is S (scope_of w xs ls) _ _ _ _ _ _ (read_made S (scope_of w xs ls) (look_of s c.in-Read.name) _ _ _ _ (columns_of c.args.tables.now) (columns_of c.expr-index.new.tables) _ c.expr-index.ensures.made c.place-place-in-Read.ensures (c.slot-list.ensures ∙ ap (λ (k : Token). slot_of (slot_in w.text.now (tokens_of w ls) k)) c.token-in-Read.ensures) A.ensures.held) is A.ensures.position;
      names = (c.expr-index.ensures.names.0, c.expr-index.ensures.names.1);
      owed = A.ensures.owed ∙ c.expr-index.ensures.owed;
    }

pub expr-expr-left-requires-in-Test : goal.expr-expr-left-requires-in-Test
unfolding expr_weight
expr-expr-left-requires-in-Test t c =
    let w = c.args.self.now.sheet in let s = source_of w in let ns = w.nodes.now in let S = sheet_of w in let at = c.args.at in let ls = c.args.self.now.lists.now in let xs = entries c.args.names.now in
    let is : raw_at s c.args.top ns at ≡ Raw.test (look_of s c.in-Test.keyword) (look_of s c.in-Test.sign) (raw_at s at ns c.in-Test.left) (raw_at s at ns c.in-Test.right) (raw_at s at ns c.in-Test.met) (raw_at s at ns c.in-Test.unmet) = raw-is s c.args.top ns at _ (ap Some (sym c.in-Test.is) ∙ c.in-Some.ensures.read) in
    let R0 = roomy-is _ _ (columns_of c.args.tables.now) c.requires.roomy is in
    (omega (arith, c.decreases, c.in-Some.ensures.below), (omega (arith, c.requires.names, c.in-Some.ensures.below), roomy-less R0 (omega arith)))

pub expr-expr-right-requires-in-Test : goal.expr-expr-right-requires-in-Test
unfolding expr_weight
expr-expr-right-requires-in-Test t c =
    let w = c.args.self.now.sheet in let s = source_of w in let ns = w.nodes.now in let S = sheet_of w in let at = c.args.at in let ls = c.args.self.now.lists.now in let xs = entries c.args.names.now in
    let is : raw_at s c.args.top ns at ≡ Raw.test (look_of s c.in-Test.keyword) (look_of s c.in-Test.sign) (raw_at s at ns c.in-Test.left) (raw_at s at ns c.in-Test.right) (raw_at s at ns c.in-Test.met) (raw_at s at ns c.in-Test.unmet) = raw-is s c.args.top ns at _ (ap Some (sym c.in-Test.is) ∙ c.in-Some.ensures.read) in
    let R0 = roomy-is _ _ (columns_of c.args.tables.now) c.requires.roomy is in
    let R1 = roomy_after {u = 1 + expr_weight (raw_at s at ns c.in-Test.right) + expr_weight (raw_at s at ns c.in-Test.met) + expr_weight (raw_at s at ns c.in-Test.unmet)} R0 c.expr-left-in-Test.ensures.made (omega arith) in
    (omega (arith, c.decreases, c.in-Some.ensures.below), (omega (arith, c.requires.names, c.in-Some.ensures.below, ap length c.expr-left-in-Test.ensures.names.0, c.expr-left-in-Test.ensures.names.1), roomy-less R1 (omega arith)))

pub expr-expr-met-requires : goal.expr-expr-met-requires
unfolding expr_weight
expr-expr-met-requires t c =
    let w = c.args.self.now.sheet in let s = source_of w in let ns = w.nodes.now in let S = sheet_of w in let at = c.args.at in let ls = c.args.self.now.lists.now in let xs = entries c.args.names.now in
    let is : raw_at s c.args.top ns at ≡ Raw.test (look_of s c.in-Test.keyword) (look_of s c.in-Test.sign) (raw_at s at ns c.in-Test.left) (raw_at s at ns c.in-Test.right) (raw_at s at ns c.in-Test.met) (raw_at s at ns c.in-Test.unmet) = raw-is s c.args.top ns at _ (ap Some (sym c.in-Test.is) ∙ c.in-Some.ensures.read) in
    let R0 = roomy-is _ _ (columns_of c.args.tables.now) c.requires.roomy is in
    let R1 = roomy_after {u = 1 + expr_weight (raw_at s at ns c.in-Test.right) + expr_weight (raw_at s at ns c.in-Test.met) + expr_weight (raw_at s at ns c.in-Test.unmet)} R0 c.expr-left-in-Test.ensures.made (omega arith) in
    let R2 = roomy_after {u = 1 + expr_weight (raw_at s at ns c.in-Test.met) + expr_weight (raw_at s at ns c.in-Test.unmet)} R1 c.expr-right-in-Test.ensures.made (omega arith) in
    (omega (arith, c.decreases, c.in-Some.ensures.below), (omega (arith, c.requires.names, c.in-Some.ensures.below, ap length c.expr-left-in-Test.ensures.names.0, c.expr-left-in-Test.ensures.names.1, ap length c.expr-right-in-Test.ensures.names.0, c.expr-right-in-Test.ensures.names.1), roomy-less R2 (omega arith)))

pub expr-expr-unmet-requires : goal.expr-expr-unmet-requires
unfolding expr_weight
expr-expr-unmet-requires t c =
    let w = c.args.self.now.sheet in let s = source_of w in let ns = w.nodes.now in let S = sheet_of w in let at = c.args.at in let ls = c.args.self.now.lists.now in let xs = entries c.args.names.now in
    let is : raw_at s c.args.top ns at ≡ Raw.test (look_of s c.in-Test.keyword) (look_of s c.in-Test.sign) (raw_at s at ns c.in-Test.left) (raw_at s at ns c.in-Test.right) (raw_at s at ns c.in-Test.met) (raw_at s at ns c.in-Test.unmet) = raw-is s c.args.top ns at _ (ap Some (sym c.in-Test.is) ∙ c.in-Some.ensures.read) in
    let R0 = roomy-is _ _ (columns_of c.args.tables.now) c.requires.roomy is in
    let R1 = roomy_after {u = 1 + expr_weight (raw_at s at ns c.in-Test.right) + expr_weight (raw_at s at ns c.in-Test.met) + expr_weight (raw_at s at ns c.in-Test.unmet)} R0 c.expr-left-in-Test.ensures.made (omega arith) in
    let R2 = roomy_after {u = 1 + expr_weight (raw_at s at ns c.in-Test.met) + expr_weight (raw_at s at ns c.in-Test.unmet)} R1 c.expr-right-in-Test.ensures.made (omega arith) in
    let R3 = roomy_after {u = 1 + expr_weight (raw_at s at ns c.in-Test.unmet)} R2 c.expr-met.ensures.made (omega arith) in
    (omega (arith, c.decreases, c.in-Some.ensures.below), (omega (arith, c.requires.names, c.in-Some.ensures.below, ap length c.expr-left-in-Test.ensures.names.0, c.expr-left-in-Test.ensures.names.1, ap length c.expr-right-in-Test.ensures.names.0, c.expr-right-in-Test.ensures.names.1, ap length c.expr-met.ensures.names.0, c.expr-met.ensures.names.1), roomy-less R3 (omega arith)))

pub expr-add-requires-in-Test : goal.expr-add-requires-in-Test
unfolding expr_weight
expr-add-requires-in-Test t c =
    let w = c.args.self.now.sheet in let s = source_of w in let ns = w.nodes.now in let S = sheet_of w in let at = c.args.at in let ls = c.args.self.now.lists.now in let xs = entries c.args.names.now in
    let is : raw_at s c.args.top ns at ≡ Raw.test (look_of s c.in-Test.keyword) (look_of s c.in-Test.sign) (raw_at s at ns c.in-Test.left) (raw_at s at ns c.in-Test.right) (raw_at s at ns c.in-Test.met) (raw_at s at ns c.in-Test.unmet) = raw-is s c.args.top ns at _ (ap Some (sym c.in-Test.is) ∙ c.in-Some.ensures.read) in
    let R0 = roomy-is _ _ (columns_of c.args.tables.now) c.requires.roomy is in
    let R1 = roomy_after {u = 1 + expr_weight (raw_at s at ns c.in-Test.right) + expr_weight (raw_at s at ns c.in-Test.met) + expr_weight (raw_at s at ns c.in-Test.unmet)} R0 c.expr-left-in-Test.ensures.made (omega arith) in
    let R2 = roomy_after {u = 1 + expr_weight (raw_at s at ns c.in-Test.met) + expr_weight (raw_at s at ns c.in-Test.unmet)} R1 c.expr-right-in-Test.ensures.made (omega arith) in
    let R3 = roomy_after {u = 1 + expr_weight (raw_at s at ns c.in-Test.unmet)} R2 c.expr-met.ensures.made (omega arith) in
    let R4 = roomy_after {u = 1} R3 c.expr-unmet.ensures.made (omega arith) in
    let r = R4.nodes in omega arith

pub expr-returns-in-Test : goal.expr-returns-in-Test
expr-returns-in-Test t c =
    let w = c.args.self.now.sheet in let s = source_of w in let ns = w.nodes.now in let S = sheet_of w in let at = c.args.at in let ls = c.args.self.now.lists.now in let xs = entries c.args.names.now in
    let is : raw_at s c.args.top ns at ≡ Raw.test (look_of s c.in-Test.keyword) (look_of s c.in-Test.sign) (raw_at s at ns c.in-Test.left) (raw_at s at ns c.in-Test.right) (raw_at s at ns c.in-Test.met) (raw_at s at ns c.in-Test.unmet) = raw-is s c.args.top ns at _ (ap Some (sym c.in-Test.is) ∙ c.in-Some.ensures.read) in
    let A = c.add-in-Test in
    record {
      made = made-is S (scope_of w xs ls) _ _ _ _ _ _ (test-made S (scope_of w xs ls) (look_of s c.in-Test.keyword) (look_of s c.in-Test.sign) _ _ _ _ _ _ _ _ _ _ (columns_of c.args.tables.now) (columns_of c.expr-left-in-Test.new.tables) (columns_of c.expr-right-in-Test.new.tables) (columns_of c.expr-met.new.tables) (columns_of c.expr-unmet.new.tables) _ c.expr-left-in-Test.ensures.made (made_in-law S w _ xs ls (raw_at s at ns c.in-Test.right) _ _ _ c.expr-right-in-Test.ensures.made c.expr-left-in-Test.ensures.names.0) (made_in-law S w _ xs ls (raw_at s at ns c.in-Test.met) _ _ _ c.expr-met.ensures.made (c.expr-right-in-Test.ensures.names.0 ∙ c.expr-left-in-Test.ensures.names.0)) (made_in-law S w _ xs ls (raw_at s at ns c.in-Test.unmet) _ _ _ c.expr-unmet.ensures.made (c.expr-met.ensures.names.0 ∙ c.expr-right-in-Test.ensures.names.0 ∙ c.expr-left-in-Test.ensures.names.0)) c.place-place-in-Test.ensures (c.comparison_of-comparison.ensures ∙ ap (λ (k : Token). comparison_of k.kind) c.token-in-Test.ensures) A.ensures.held) is A.ensures.position;
      names = (c.expr-unmet.ensures.names.0 ∙ c.expr-met.ensures.names.0 ∙ c.expr-right-in-Test.ensures.names.0 ∙ c.expr-left-in-Test.ensures.names.0, c.expr-unmet.ensures.names.1 ∙ c.expr-met.ensures.names.1 ∙ c.expr-right-in-Test.ensures.names.1 ∙ c.expr-left-in-Test.ensures.names.1);
      owed = A.ensures.owed ∙ c.expr-unmet.ensures.owed ∙ c.expr-met.ensures.owed ∙ c.expr-right-in-Test.ensures.owed ∙ c.expr-left-in-Test.ensures.owed;
    }

pub expr-expr-index-requires-in-Put : goal.expr-expr-index-requires-in-Put
unfolding expr_weight
expr-expr-index-requires-in-Put t c =
    let w = c.args.self.now.sheet in let s = source_of w in let ns = w.nodes.now in let S = sheet_of w in let at = c.args.at in let ls = c.args.self.now.lists.now in let xs = entries c.args.names.now in
    let is : raw_at s c.args.top ns at ≡ Raw.put (look_of s c.in-Put.keyword) (look_of s c.in-Put.list) (raw_at s at ns c.in-Put.index) (raw_at s at ns c.in-Put.value) (raw_at s at ns c.in-Put.rest) = raw-is s c.args.top ns at _ (ap Some (sym c.in-Put.is) ∙ c.in-Some.ensures.read) in
    let R0 = roomy-is _ _ (columns_of c.args.tables.now) c.requires.roomy is in
    (omega (arith, c.decreases, c.in-Some.ensures.below), (omega (arith, c.requires.names, c.in-Some.ensures.below), roomy-less R0 (omega arith)))

pub expr-expr-value-requires : goal.expr-expr-value-requires
unfolding expr_weight
expr-expr-value-requires t c =
    let w = c.args.self.now.sheet in let s = source_of w in let ns = w.nodes.now in let S = sheet_of w in let at = c.args.at in let ls = c.args.self.now.lists.now in let xs = entries c.args.names.now in
    let is : raw_at s c.args.top ns at ≡ Raw.put (look_of s c.in-Put.keyword) (look_of s c.in-Put.list) (raw_at s at ns c.in-Put.index) (raw_at s at ns c.in-Put.value) (raw_at s at ns c.in-Put.rest) = raw-is s c.args.top ns at _ (ap Some (sym c.in-Put.is) ∙ c.in-Some.ensures.read) in
    let R0 = roomy-is _ _ (columns_of c.args.tables.now) c.requires.roomy is in
    let R1 = roomy_after {u = 1 + expr_weight (raw_at s at ns c.in-Put.value) + expr_weight (raw_at s at ns c.in-Put.rest)} R0 c.expr-index-in-Put.ensures.made (omega arith) in
    (omega (arith, c.decreases, c.in-Some.ensures.below), (omega (arith, c.requires.names, c.in-Some.ensures.below, ap length c.expr-index-in-Put.ensures.names.0, c.expr-index-in-Put.ensures.names.1), roomy-less R1 (omega arith)))

pub expr-expr-rest-requires : goal.expr-expr-rest-requires
unfolding expr_weight
expr-expr-rest-requires t c =
    let w = c.args.self.now.sheet in let s = source_of w in let ns = w.nodes.now in let S = sheet_of w in let at = c.args.at in let ls = c.args.self.now.lists.now in let xs = entries c.args.names.now in
    let is : raw_at s c.args.top ns at ≡ Raw.put (look_of s c.in-Put.keyword) (look_of s c.in-Put.list) (raw_at s at ns c.in-Put.index) (raw_at s at ns c.in-Put.value) (raw_at s at ns c.in-Put.rest) = raw-is s c.args.top ns at _ (ap Some (sym c.in-Put.is) ∙ c.in-Some.ensures.read) in
    let R0 = roomy-is _ _ (columns_of c.args.tables.now) c.requires.roomy is in
    let R1 = roomy_after {u = 1 + expr_weight (raw_at s at ns c.in-Put.value) + expr_weight (raw_at s at ns c.in-Put.rest)} R0 c.expr-index-in-Put.ensures.made (omega arith) in
    let R2 = roomy_after {u = 1 + expr_weight (raw_at s at ns c.in-Put.rest)} R1 c.expr-value.ensures.made (omega arith) in
    (omega (arith, c.decreases, c.in-Some.ensures.below), (omega (arith, c.requires.names, c.in-Some.ensures.below, ap length c.expr-index-in-Put.ensures.names.0, c.expr-index-in-Put.ensures.names.1, ap length c.expr-value.ensures.names.0, c.expr-value.ensures.names.1), roomy-less R2 (omega arith)))

pub expr-add-requires-in-Put : goal.expr-add-requires-in-Put
unfolding expr_weight
expr-add-requires-in-Put t c =
    let w = c.args.self.now.sheet in let s = source_of w in let ns = w.nodes.now in let S = sheet_of w in let at = c.args.at in let ls = c.args.self.now.lists.now in let xs = entries c.args.names.now in
    let is : raw_at s c.args.top ns at ≡ Raw.put (look_of s c.in-Put.keyword) (look_of s c.in-Put.list) (raw_at s at ns c.in-Put.index) (raw_at s at ns c.in-Put.value) (raw_at s at ns c.in-Put.rest) = raw-is s c.args.top ns at _ (ap Some (sym c.in-Put.is) ∙ c.in-Some.ensures.read) in
    let R0 = roomy-is _ _ (columns_of c.args.tables.now) c.requires.roomy is in
    let R1 = roomy_after {u = 1 + expr_weight (raw_at s at ns c.in-Put.value) + expr_weight (raw_at s at ns c.in-Put.rest)} R0 c.expr-index-in-Put.ensures.made (omega arith) in
    let R2 = roomy_after {u = 1 + expr_weight (raw_at s at ns c.in-Put.rest)} R1 c.expr-value.ensures.made (omega arith) in
    let R3 = roomy_after {u = 1} R2 c.expr-rest.ensures.made (omega arith) in
    let r = R3.nodes in omega arith

pub expr-returns-in-Put : goal.expr-returns-in-Put
expr-returns-in-Put t c =
    let w = c.args.self.now.sheet in let s = source_of w in let ns = w.nodes.now in let S = sheet_of w in let at = c.args.at in let ls = c.args.self.now.lists.now in let xs = entries c.args.names.now in
    let is : raw_at s c.args.top ns at ≡ Raw.put (look_of s c.in-Put.keyword) (look_of s c.in-Put.list) (raw_at s at ns c.in-Put.index) (raw_at s at ns c.in-Put.value) (raw_at s at ns c.in-Put.rest) = raw-is s c.args.top ns at _ (ap Some (sym c.in-Put.is) ∙ c.in-Some.ensures.read) in
    let A = c.add-in-Put in
    record {
      made = made-is S (scope_of w xs ls) _ _ _ _ _ _ (put-made S (scope_of w xs ls) (look_of s c.in-Put.keyword) (look_of s c.in-Put.list) _ _ _ _ _ _ _ _ _ (columns_of c.args.tables.now) (columns_of c.expr-index-in-Put.new.tables) (columns_of c.expr-value.new.tables) (columns_of c.expr-rest.new.tables) _ c.expr-index-in-Put.ensures.made (made_in-law S w _ xs ls (raw_at s at ns c.in-Put.value) _ _ _ c.expr-value.ensures.made c.expr-index-in-Put.ensures.names.0) (made_in-law S w _ xs ls (raw_at s at ns c.in-Put.rest) _ _ _ c.expr-rest.ensures.made (c.expr-value.ensures.names.0 ∙ c.expr-index-in-Put.ensures.names.0)) c.place-place-in-Put.ensures c.place-site.ensures (c.slot-list-in-Put.ensures ∙ ap (λ (k : Token). slot_of (slot_in w.text.now (tokens_of w ls) k)) c.token-in-Put.ensures) A.ensures.held) is A.ensures.position;
      names = (c.expr-rest.ensures.names.0 ∙ c.expr-value.ensures.names.0 ∙ c.expr-index-in-Put.ensures.names.0, c.expr-rest.ensures.names.1 ∙ c.expr-value.ensures.names.1 ∙ c.expr-index-in-Put.ensures.names.1);
      owed = A.ensures.owed ∙ c.expr-rest.ensures.owed ∙ c.expr-value.ensures.owed ∙ c.expr-index-in-Put.ensures.owed;
    }

pub expr-add-requires : goal.expr-add-requires
unfolding expr_weight
expr-add-requires t c =
    let w = c.args.self.now.sheet in let s = source_of w in let ns = w.nodes.now in
    let R0 = roomy-is _ _ (columns_of c.args.tables.now) c.requires.roomy (raw-is s c.args.top ns c.args.at None c.in_default.ensures.read) in
    let r = R0.nodes in omega arith

pub expr-returns-in_default : goal.expr-returns-in_default
expr-returns-in_default t c =
    let w = c.args.self.now.sheet in let s = source_of w in let ns = w.nodes.now in let A = c.add in
    record {
      made = made-is (sheet_of w) (scope_of w (entries c.args.names.now) c.args.self.now.lists.now) _ _ _ _ _ _
          (num-made (sheet_of w) (scope_of w (entries c.args.names.now) c.args.self.now.lists.now) nothing 0 0 (columns_of c.args.tables.now) _ refl refl A.ensures.held)
          (raw-is s c.args.top ns c.args.at None c.in_default.ensures.read) A.ensures.position;
      names = (refl, refl);
      owed = A.ensures.owed;
    }

pub expr-add-requires-in-Blank : goal.expr-add-requires-in-Blank
unfolding expr_weight
expr-add-requires-in-Blank t c =
    let w = c.args.self.now.sheet in let s = source_of w in let ns = w.nodes.now in
    let is : (n : Node) → c.in-Some.node ≡ n → raw_at s c.args.top ns c.args.at ≡ (grown s (part_in s c.args.at ns) (Some n)).expr = λ n e. raw-is s c.args.top ns c.args.at (Some n) (ap Some (sym e) ∙ c.in-Some.ensures.read) in
    let blank : raw_at s c.args.top ns c.args.at ≡ no_expr = elim c.in-Blank.is [
      | inl e ↦ is _ e
      | inr r ↦ elim r [
        | inl e ↦ is _ e
        | inr r ↦ elim r [ inl e ↦ is _ e.2 | inr e ↦ is _ e.6 ]
      ]
    ] in
    let R0 = roomy-is _ _ (columns_of c.args.tables.now) c.requires.roomy blank in
    let r = R0.nodes in omega arith

pub expr-returns-in-Blank : goal.expr-returns-in-Blank
expr-returns-in-Blank t c =
    let w = c.args.self.now.sheet in let s = source_of w in let ns = w.nodes.now in let A = c.add-in-Blank in
    let is : (n : Node) → c.in-Some.node ≡ n → raw_at s c.args.top ns c.args.at ≡ (grown s (part_in s c.args.at ns) (Some n)).expr = λ n e. raw-is s c.args.top ns c.args.at (Some n) (ap Some (sym e) ∙ c.in-Some.ensures.read) in
    let blank : raw_at s c.args.top ns c.args.at ≡ no_expr = elim c.in-Blank.is [
      | inl e ↦ is _ e
      | inr r ↦ elim r [
        | inl e ↦ is _ e
        | inr r ↦ elim r [ inl e ↦ is _ e.2 | inr e ↦ is _ e.6 ]
      ]
    ] in
    record {
      made = made-is (sheet_of w) (scope_of w (entries c.args.names.now) c.args.self.now.lists.now) _ _ _ _ _ _
          (num-made (sheet_of w) (scope_of w (entries c.args.names.now) c.args.self.now.lists.now) nothing 0 0 (columns_of c.args.tables.now) _ refl refl A.ensures.held)
          blank A.ensures.position;
      names = (refl, refl);
      owed = A.ensures.owed;
    }

pub expr-add-none-requires : goal.expr-add-none-requires
unfolding expr_weight
expr-add-none-requires t c =
    let w = c.args.self.now.sheet in let s = source_of w in let ns = w.nodes.now in let S = sheet_of w in let at = c.args.at in let ls = c.args.self.now.lists.now in let xs = entries c.args.names.now in
    let is : raw_at s c.args.top ns at ≡ Raw.call (look_of s c.in-Call.name) (args_at s at ns c.in-Call.args) = raw-is s c.args.top ns at _ (ap Some (sym c.in-Call.is) ∙ c.in-Some.ensures.read) in
    let R0 = roomy-is _ _ (columns_of c.args.tables.now) c.requires.roomy is in
    let r = R0.nodes in omega arith

pub expr-arguments-args-requires : goal.expr-arguments-args-requires
unfolding expr_weight
expr-arguments-args-requires t c =
    let w = c.args.self.now.sheet in let s = source_of w in let ns = w.nodes.now in let S = sheet_of w in let at = c.args.at in let ls = c.args.self.now.lists.now in let xs = entries c.args.names.now in
    let is : raw_at s c.args.top ns at ≡ Raw.call (look_of s c.in-Call.name) (args_at s at ns c.in-Call.args) = raw-is s c.args.top ns at _ (ap Some (sym c.in-Call.is) ∙ c.in-Some.ensures.read) in
    let R0 = roomy-is _ _ (columns_of c.args.tables.now) c.requires.roomy is in
    let E = end-made S (scope_of w xs ls) (columns_of c.args.tables.now) _ c.add-none.ensures.held in
    let R1 = roomy_after {u = 1 + args_weight (args_at s at ns c.in-Call.args)} R0 E (omega arith) in
    (omega (arith, c.decreases, c.in-Some.ensures.below), (omega (arith, c.requires.names, c.in-Some.ensures.below), roomy-less R1 (omega arith)))

pub expr-add-requires-in-Call : goal.expr-add-requires-in-Call
unfolding expr_weight
expr-add-requires-in-Call t c =
    let w = c.args.self.now.sheet in let s = source_of w in let ns = w.nodes.now in let S = sheet_of w in let at = c.args.at in let ls = c.args.self.now.lists.now in let xs = entries c.args.names.now in
    let is : raw_at s c.args.top ns at ≡ Raw.call (look_of s c.in-Call.name) (args_at s at ns c.in-Call.args) = raw-is s c.args.top ns at _ (ap Some (sym c.in-Call.is) ∙ c.in-Some.ensures.read) in
    let R0 = roomy-is _ _ (columns_of c.args.tables.now) c.requires.roomy is in
    let E = end-made S (scope_of w xs ls) (columns_of c.args.tables.now) _ c.add-none.ensures.held in
    let R1 = roomy_after {u = 1 + args_weight (args_at s at ns c.in-Call.args)} R0 E (omega arith) in
    let R2 = roomy_after {u = 1} R1 c.arguments-args.ensures.made.made (omega arith) in
    let r = R2.nodes in omega arith

pub expr-returns-in-Call : goal.expr-returns-in-Call
expr-returns-in-Call t c =
    let w = c.args.self.now.sheet in let s = source_of w in let ns = w.nodes.now in let S = sheet_of w in let at = c.args.at in let ls = c.args.self.now.lists.now in let xs = entries c.args.names.now in
    let is : raw_at s c.args.top ns at ≡ Raw.call (look_of s c.in-Call.name) (args_at s at ns c.in-Call.args) = raw-is s c.args.top ns at _ (ap Some (sym c.in-Call.is) ∙ c.in-Some.ensures.read) in let A = c.add-in-Call in
    let E = end-made S (scope_of w xs ls) (columns_of c.args.tables.now) _ c.add-none.ensures.held in
    let E1 = subst (λ i. Made 1 (λ byte. 0) (λ byte. 0) (λ t. ArgsAt t (length (columns_of c.args.tables.now).nodes.entries) i Tree.end) (columns_of c.args.tables.now) (columns_of c.add-none.new.tables)) (sym c.add-none.ensures.position) E in
    record {
      made = made-is S (scope_of w xs ls) _ _ _ _ _ _
          (call-made S (scope_of w xs ls) (look_of s c.in-Call.name) _ _ _ _ _ (columns_of c.args.tables.now) (columns_of c.add-none.new.tables) (columns_of c.arguments-args.new.tables) _ E1 c.arguments-args.ensures.made c.place-place-in-Call.ensures
          (rule_found w.text.now (tokens_of w c.args.self.now.rules.now) (rules_of w) _ (look_of s c.in-Call.name) _ c.slot-rule.ensures c.args.self.now.named c.token-in-Call.ensures) A.ensures.held)
          is A.ensures.position;
      names = (c.arguments-args.ensures.names.0, c.arguments-args.ensures.names.1);
      owed = A.ensures.owed ∙ c.arguments-args.ensures.owed ∙ c.add-none.ensures.owed;
    }

pub expr-expr-bound-requires : goal.expr-expr-bound-requires
unfolding expr_weight
expr-expr-bound-requires t c =
    let w = c.args.self.now.sheet in let s = source_of w in let ns = w.nodes.now in let S = sheet_of w in let at = c.args.at in let ls = c.args.self.now.lists.now in let xs = entries c.args.names.now in
    let is : raw_at s c.args.top ns at ≡ Raw.bind (look_of s c.in-Bind.keyword) (look_of s c.in-Bind.name) (raw_at s at ns c.in-Bind.bound) (raw_at s at ns c.in-Bind.body) = raw-is s c.args.top ns at _ (ap Some (sym c.in-Bind.is) ∙ c.in-Some.ensures.read) in
    let R0 = roomy-is _ _ (columns_of c.args.tables.now) c.requires.roomy is in
    (omega (arith, c.decreases, c.in-Some.ensures.below), (omega (arith, c.requires.names, c.in-Some.ensures.below), roomy-less R0 (omega arith)))

pub expr-expr-body-requires : goal.expr-expr-body-requires
unfolding expr_weight
expr-expr-body-requires t c =
    let w = c.args.self.now.sheet in let s = source_of w in let ns = w.nodes.now in let S = sheet_of w in let at = c.args.at in let ls = c.args.self.now.lists.now in let xs = entries c.args.names.now in
    let is : raw_at s c.args.top ns at ≡ Raw.bind (look_of s c.in-Bind.keyword) (look_of s c.in-Bind.name) (raw_at s at ns c.in-Bind.bound) (raw_at s at ns c.in-Bind.body) = raw-is s c.args.top ns at _ (ap Some (sym c.in-Bind.is) ∙ c.in-Some.ensures.read) in
    let R0 = roomy-is _ _ (columns_of c.args.tables.now) c.requires.roomy is in
    let m = c.expr-bound in
    let R1 = roomy_after {u = 1 + expr_weight (raw_at s at ns c.in-Bind.body)} R0 m.ensures.made (omega arith) in
    let n = entries m.new.names in
    let fits : length n < room m.new.names = omega (arith, c.requires.names, c.in-Some.ensures.below, ap length m.ensures.names.0, m.ensures.names.1) in
    let e = ap length (pushed n _ c.in-Bind.name (is_ok c.push.result) (room m.new.names) c.push.ensures.value fits c.push.ensures.held) ∙ length_push n c.in-Bind.name in
    (omega (arith, c.decreases, c.in-Some.ensures.below), (omega (arith, c.requires.names, c.in-Some.ensures.below, ap length m.ensures.names.0, m.ensures.names.1, c.push.ensures.room), roomy-less R1 (omega arith)))

pub expr-add-requires-in-Bind : goal.expr-add-requires-in-Bind
unfolding expr_weight
expr-add-requires-in-Bind t c =
    let w = c.args.self.now.sheet in let s = source_of w in let ns = w.nodes.now in let S = sheet_of w in let at = c.args.at in let ls = c.args.self.now.lists.now in let xs = entries c.args.names.now in
    let is : raw_at s c.args.top ns at ≡ Raw.bind (look_of s c.in-Bind.keyword) (look_of s c.in-Bind.name) (raw_at s at ns c.in-Bind.bound) (raw_at s at ns c.in-Bind.body) = raw-is s c.args.top ns at _ (ap Some (sym c.in-Bind.is) ∙ c.in-Some.ensures.read) in
    let R0 = roomy-is _ _ (columns_of c.args.tables.now) c.requires.roomy is in
    let R1 = roomy_after {u = 1 + expr_weight (raw_at s at ns c.in-Bind.body)} R0 c.expr-bound.ensures.made (omega arith) in
    let R2 = roomy_after {u = 1} R1 c.expr-body.ensures.made (omega arith) in
    let r = R2.nodes in omega arith

pub expr-returns-in-Bind : goal.expr-returns-in-Bind
expr-returns-in-Bind t c =
    let w = c.args.self.now.sheet in let s = source_of w in let ns = w.nodes.now in let S = sheet_of w in let at = c.args.at in let ls = c.args.self.now.lists.now in let xs = entries c.args.names.now in
    let is : raw_at s c.args.top ns at ≡ Raw.bind (look_of s c.in-Bind.keyword) (look_of s c.in-Bind.name) (raw_at s at ns c.in-Bind.bound) (raw_at s at ns c.in-Bind.body) = raw-is s c.args.top ns at _ (ap Some (sym c.in-Bind.is) ∙ c.in-Some.ensures.read) in let A = c.add-in-Bind in let m = c.expr-bound in let b = c.expr-body in
    let n = entries m.new.names in
    let fits : length n < room m.new.names = omega (arith, c.requires.names, c.in-Some.ensures.below, ap length m.ensures.names.0, m.ensures.names.1) in
    let e = pushed n _ c.in-Bind.name (is_ok c.push.result) (room m.new.names) c.push.ensures.value fits c.push.ensures.held in
    let kept = c.fall_back.ensures.held ∙ ap (take c.mark-mark.result) (b.ensures.names.0 ∙ e) ∙ take_at n (c.in-Bind.name ∷ []) c.mark-mark.result (sym c.mark-mark.ensures) in
    record {
      made = made-is S (scope_of w xs ls) _ _ _ _ _ _
          (bind-made S (scope_of w xs ls) (look_of s c.in-Bind.keyword) (look_of s c.in-Bind.name) _ _ _ _ _ (columns_of c.args.tables.now) (columns_of c.expr-bound.new.tables) (columns_of c.expr-body.new.tables) _ m.ensures.made
          (subst (λ (Δ : Scope). ExprMade S Δ (raw_at s at ns c.in-Bind.body) b.result (columns_of c.expr-bound.new.tables) (columns_of c.expr-body.new.tables)) (name-pushed w n _ ls c.in-Bind.name e ∙ ap (λ zs. naming (scope_of w zs ls) (look_of s c.in-Bind.name)) m.ensures.names.0) b.ensures.made)
          c.place-place-in-Bind.ensures A.ensures.held)
          is A.ensures.position;
      names = (kept ∙ m.ensures.names.0, c.fall_back.ensures.room ∙ b.ensures.names.1 ∙ c.push.ensures.room ∙ m.ensures.names.1);
      owed = A.ensures.owed ∙ b.ensures.owed ∙ m.ensures.owed;
    }

pub expr-expr-claimed-requires : goal.expr-expr-claimed-requires
unfolding expr_weight
expr-expr-claimed-requires t c =
    let w = c.args.self.now.sheet in let s = source_of w in let ns = w.nodes.now in let S = sheet_of w in let at = c.args.at in let ls = c.args.self.now.lists.now in let xs = entries c.args.names.now in
    let cs = (conditions_at (length w.tokens.now) (look_of s) c.in-Claim.conditions).value in
    let is : raw_at s c.args.top ns at ≡ Raw.claim (look_of s c.in-Claim.keyword) (raw_at s at ns c.in-Claim.inner) cs = raw-is s c.args.top ns at _ (ap Some (sym c.in-Claim.is) ∙ c.in-Some.ensures.read) in
    let R0 = roomy-is _ _ (columns_of c.args.tables.now) c.requires.roomy is in
    (omega (arith, c.decreases, c.in-Some.ensures.below), (omega (arith, c.requires.names, c.in-Some.ensures.below), roomy-less R0 (omega arith)))

pub expr-conditions-conditions-requires : goal.expr-conditions-conditions-requires
unfolding expr_weight
expr-conditions-conditions-requires t c =
    let w = c.args.self.now.sheet in let s = source_of w in let ns = w.nodes.now in let S = sheet_of w in let at = c.args.at in let ls = c.args.self.now.lists.now in let xs = entries c.args.names.now in
    let cs = (conditions_at (length w.tokens.now) (look_of s) c.in-Claim.conditions).value in
    let is : raw_at s c.args.top ns at ≡ Raw.claim (look_of s c.in-Claim.keyword) (raw_at s at ns c.in-Claim.inner) cs = raw-is s c.args.top ns at _ (ap Some (sym c.in-Claim.is) ∙ c.in-Some.ensures.read) in
    let R0 = roomy-is _ _ (columns_of c.args.tables.now) c.requires.roomy is in
    let R1 = roomy_after {u = 1 + conditions_weight cs} R0 c.expr-claimed.ensures.made (omega arith) in
    let a = R1.conditions in let b = R1.items in
    let e = ap conditions_weight c.conditions.ensures.conditions in
    record { sheet = c.conditions.ensures.sheet; conditions = omega arith; items = omega arith }

pub expr-add-requires-in-Claim : goal.expr-add-requires-in-Claim
unfolding expr_weight
expr-add-requires-in-Claim t c =
    let w = c.args.self.now.sheet in let s = source_of w in let ns = w.nodes.now in let S = sheet_of w in let at = c.args.at in let ls = c.args.self.now.lists.now in let xs = entries c.args.names.now in
    let cs = (conditions_at (length w.tokens.now) (look_of s) c.in-Claim.conditions).value in
    let is : raw_at s c.args.top ns at ≡ Raw.claim (look_of s c.in-Claim.keyword) (raw_at s at ns c.in-Claim.inner) cs = raw-is s c.args.top ns at _ (ap Some (sym c.in-Claim.is) ∙ c.in-Some.ensures.read) in
    let R0 = roomy-is _ _ (columns_of c.args.tables.now) c.requires.roomy is in
    let R1 = roomy_after {u = 1 + conditions_weight cs} R0 c.expr-claimed.ensures.made (omega arith) in
    let l = c.conditions-conditions in
    let same = ap (λ (p : Columns). p.nodes) l.ensures.others.rest in
    let r = R1.nodes in omega (arith, ap (λ (d : Column Resolved). length d.entries) same, ap (λ (d : Column Resolved). d.room) same)

pub expr-returns-in-Claim : goal.expr-returns-in-Claim
expr-returns-in-Claim t c =
    let w = c.args.self.now.sheet in let s = source_of w in let ns = w.nodes.now in let S = sheet_of w in let at = c.args.at in let ls = c.args.self.now.lists.now in let xs = entries c.args.names.now in
    let cs = (conditions_at (length w.tokens.now) (look_of s) c.in-Claim.conditions).value in
    let is : raw_at s c.args.top ns at ≡ Raw.claim (look_of s c.in-Claim.keyword) (raw_at s at ns c.in-Claim.inner) cs = raw-is s c.args.top ns at _ (ap Some (sym c.in-Claim.is) ∙ c.in-Some.ensures.read) in let A = c.add-in-Claim in let m = c.expr-claimed in let l = c.conditions-conditions in
    let F = conditions_of w.text.now (scope_of w xs ls) cs in
    let e = c.conditions.ensures.conditions in
    let listing = subst (λ ds. Listing (conditions_of w.text.now (scope_of w xs []) ds) (columns_of m.new.tables).conditions.entries (columns_of l.new.tables).conditions.entries (columns_of m.new.tables).items.entries (columns_of l.new.tables).items.entries) e
    (subst (λ zs. Listing (conditions_of w.text.now (scope_of w zs []) (conditions_left c.conditions.result)) (columns_of m.new.tables).conditions.entries (columns_of l.new.tables).conditions.entries (columns_of m.new.tables).items.entries (columns_of l.new.tables).items.entries) (c.as_slice-in-Claim.ensures ∙ m.ensures.names.0) l.ensures.listing) in
    record {
      made = made-is S (scope_of w xs ls) _ _ _ _ _ _
          (claim-made S (scope_of w xs ls) (look_of s c.in-Claim.keyword) (raw_at s at ns c.in-Claim.inner) cs _ _ _ (columns_of c.args.tables.now) (columns_of c.expr-claimed.new.tables) (columns_of l.new.tables) _ m.ensures.made
          (made-listed F (conditions_weight cs) _ _ (columns_of c.expr-claimed.new.tables) (columns_of l.new.tables) listing l.ensures.stretch.0 l.ensures.stretch.1 (listed-few w.text.now (scope_of w xs ls) cs) (omega (arith, l.ensures.size, ap conditions_weight e)) l.ensures.others)
          c.place-place-in-Claim.ensures A.ensures.held)
          is A.ensures.position;
      names = (m.ensures.names.0, m.ensures.names.1);
      owed = A.ensures.owed ∙ l.ensures.owed ∙ m.ensures.owed;
    }

pub expr-expr-requires : goal.expr-expr-requires
unfolding expr_weight
expr-expr-requires t c =
    let w = c.args.self.now.sheet in let s = source_of w in let ns = w.nodes.now in let S = sheet_of w in let at = c.args.at in let ls = c.args.self.now.lists.now in let xs = entries c.args.names.now in
    let is : raw_at s c.args.top ns at ≡ Raw.nest (look_of s c.in-Nest.bracket) (raw_at s at ns c.in-Nest.inner) = raw-is s c.args.top ns at _ (ap Some (sym c.in-Nest.is) ∙ c.in-Some.ensures.read) in
    let R0 = roomy-is _ _ (columns_of c.args.tables.now) c.requires.roomy is in
    (omega (arith, c.decreases, c.in-Some.ensures.below), (omega (arith, c.requires.names, c.in-Some.ensures.below), roomy-less R0 (omega arith)))

pub expr-returns-in-Nest : goal.expr-returns-in-Nest
expr-returns-in-Nest t c =
    let w = c.args.self.now.sheet in let s = source_of w in let ns = w.nodes.now in let S = sheet_of w in let at = c.args.at in let ls = c.args.self.now.lists.now in let xs = entries c.args.names.now in
    let is : raw_at s c.args.top ns at ≡ Raw.nest (look_of s c.in-Nest.bracket) (raw_at s at ns c.in-Nest.inner) = raw-is s c.args.top ns at _ (ap Some (sym c.in-Nest.is) ∙ c.in-Some.ensures.read) in
    record {
      made = made-is S (scope_of w xs ls) _ _ _ _ _ _ (nest-made S (scope_of w xs ls) (look_of s c.in-Nest.bracket) (raw_at s at ns c.in-Nest.inner) _ _ _ c.expr.ensures.made) is refl;
      names = (c.expr.ensures.names.0, c.expr.ensures.names.1);
      owed = c.expr.ensures.owed;
    }

pub arguments-argument-link-requires : goal.arguments-argument-link-requires
unfolding args_weight
arguments-argument-link-requires t c =
    let w = c.args.self.now.sheet in let s = source_of w in let ns = w.nodes.now in let k = c.in-Some.part in
    let is = args_more s c.args.top ns c.args.at k c.in-Some.ensures.read in
    let R0 = subst (λ es. Roomy (args_weight es) (columns_of c.args.tables.now)) is c.requires.roomy in
    (omega (arith, c.decreases, c.in-Some.ensures.below), (omega (arith, c.requires.names, c.in-Some.ensures.below), roomy-less R0 (omega arith)))

pub arguments-arguments-requires : goal.arguments-arguments-requires
unfolding args_weight
arguments-arguments-requires t c =
    let w = c.args.self.now.sheet in let s = source_of w in let ns = w.nodes.now in let k = c.in-Some.part in let m = c.argument-link in
    let is = args_more s c.args.top ns c.args.at k c.in-Some.ensures.read in
    let R0 = subst (λ es. Roomy (args_weight es) (columns_of c.args.tables.now)) is c.requires.roomy in
    let R1 = roomy_after {u = args_weight (args_at s c.args.at ns k.before)} R0 m.ensures.made.made (omega arith) in
    (omega (arith, c.decreases, c.in-Some.ensures.below), (omega (arith, c.requires.names, c.in-Some.ensures.below, ap length m.ensures.names.0, m.ensures.names.1), R1))

pub arguments-returns-in-Some : goal.arguments-returns-in-Some
arguments-returns-in-Some t c =
    let w = c.args.self.now.sheet in let s = source_of w in let ns = w.nodes.now in let k = c.in-Some.part in let S = sheet_of w in let ls = c.args.self.now.lists.now in let xs = entries c.args.names.now in
    let is = args_more s c.args.top ns c.args.at k c.in-Some.ensures.read in
    let m = c.argument-link in let n = c.arguments in
    record {
      made = subst (λ es. ArgsMade S (scope_of w xs ls) es c.args.after n.result (columns_of c.args.tables.now) (columns_of n.new.tables)) (sym is)
          (more-made S (scope_of w xs ls) (args_at s c.args.at ns k.before) (raw_at s c.args.at ns k.last) c.args.after m.result n.result (columns_of c.args.tables.now) (columns_of m.new.tables) (columns_of n.new.tables) m.ensures.made
          (subst (λ zs. ArgsMade S (scope_of w zs ls) (args_at s c.args.at ns k.before) m.result n.result (columns_of m.new.tables) (columns_of n.new.tables)) m.ensures.names.0 n.ensures.made));
      names = (n.ensures.names.0 ∙ m.ensures.names.0, n.ensures.names.1 ∙ m.ensures.names.1);
      owed = n.ensures.owed ∙ m.ensures.owed;
    }

pub arguments-returns-in-None : goal.arguments-returns-in-None
arguments-returns-in-None t c =
    let w = c.args.self.now.sheet in let s = source_of w in let ns = w.nodes.now in let S = sheet_of w in let ls = c.args.self.now.lists.now in let xs = entries c.args.names.now in
    let is = args_none s c.args.top ns c.args.at c.in-None.ensures.read in
    record {
      made = subst (λ es. ArgsMade S (scope_of w xs ls) es c.args.after c.args.after (columns_of c.args.tables.now) (columns_of c.args.tables.now)) (sym is) (none_made S (scope_of w xs ls) c.args.after (columns_of c.args.tables.now));
      names = (refl, refl);
      owed = refl;
    }

pub argument-add-requires : goal.argument-add-requires
argument-add-requires t c = let r = c.requires.roomy.nodes in omega arith

pub argument-returns-in-Some : goal.argument-returns-in-Some
argument-returns-in-Some t c =
    let w = c.args.self.now.sheet in let s = source_of w in let ns = w.nodes.now in let S = sheet_of w in let ls = c.args.self.now.lists.now in let xs = entries c.args.names.now in let A = c.add in
    record {
      made = subst (λ i. ArgsMade S (scope_of w xs ls) (Raw.more Raw.none (raw_at s c.args.top ns c.args.at)) c.args.after i (columns_of c.args.tables.now) (columns_of A.new.tables)) (sym A.ensures.position)
          (lent-made S (scope_of w xs ls) (raw_at s c.args.top ns c.args.at) _ c.args.after (columns_of c.args.tables.now) _ c.in-Some.ensures A.ensures.held);
      names = (refl, refl);
      owed = A.ensures.owed;
    }

pub argument-expr-argument-requires : goal.argument-expr-argument-requires
argument-expr-argument-requires t c = (omega (arith, c.decreases), (c.requires.names, roomy-less c.requires.roomy (omega arith)))

pub argument-add-requires-in-None : goal.argument-add-requires-in-None
argument-add-requires-in-None t c =
    let R1 = roomy_after {u = 1} c.requires.roomy c.expr-argument.ensures.made (omega arith) in
    let r = R1.nodes in omega arith

pub argument-returns-in-None : goal.argument-returns-in-None
argument-returns-in-None t c =
    let w = c.args.self.now.sheet in let s = source_of w in let ns = w.nodes.now in let S = sheet_of w in let ls = c.args.self.now.lists.now in let xs = entries c.args.names.now in let A = c.add-in-None in let m = c.expr-argument in
    record {
      made = subst (λ i. ArgsMade S (scope_of w xs ls) (Raw.more Raw.none (raw_at s c.args.top ns c.args.at)) c.args.after i (columns_of c.args.tables.now) (columns_of A.new.tables)) (sym A.ensures.position)
          (value_made S (scope_of w xs ls) (raw_at s c.args.top ns c.args.at) _ c.args.after (columns_of c.args.tables.now) (columns_of m.new.tables) _ c.in-None.ensures m.ensures.made A.ensures.held);
      names = (m.ensures.names.0, m.ensures.names.1);
      owed = A.ensures.owed ∙ m.ensures.owed;
    }
