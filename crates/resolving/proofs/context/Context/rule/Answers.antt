-- The steps of a rule: its head, its conditions, its body.
use Rattle.std.proofs.Common.{◌≡◌, ◌+◌, length, ap, ◌∙◌, subst, arith}
use Rattle.letters.specs.declared.kind.Kind.TheVariants.{Needs, Gives}
use Rattle.grammar.specs.Stretches.{params_at, optional_at}
use Rattle.grammar.specs.Trees.{look_of, raw_at}
use Rattle.grammar.specs.Weights.{expr_weight, conditions_weight}
use Rattle.pile.specs.Entries.{entries}
use Rattle.naming.specs.Reaches.{scope_of, sheet_of}
use Rattle.naming.specs.Scopes.{Scope, empty, head_scope}
use Rattle.naming.specs.Sides.{conditions_left}
use Rattle.naming.specs.Sources.{source_of}
use Rattle.records.specs.Laying.{columns_of}
use Rattle.naming.specs.Resolving.{conditions_of}
use Rattle.resolving.specs.Making.{Listing}
use Rattle.resolving.specs.Growing.{ExprMade}
use Rattle.resolving.specs.Ruling.{rule_by}
use Rattle.resolving.proofs.Growing.{roomy_after}
use Rattle.resolving.proofs.Ruling.{declared, conditions-made, rule-made, roomy-params}
use Rattle.resolving.proofs.context.Context.rule.Goals as goal

pub params_at-params-requires : goal.params_at-params-requires
params_at-params-requires c = omega (arith, c.requires.params)

pub conditions-needs-requires : goal.conditions-needs-requires
conditions-needs-requires c =
    let r = roomy-params c.requires.roomy c.params_at-params.ensures.others in let a = r.conditions in let b = r.items in
    let e = ap conditions_weight c.optional.ensures.conditions in record { sheet = c.optional.ensures.sheet; conditions = omega arith; items = omega arith }

pub conditions-gives-requires : goal.conditions-gives-requires
conditions-gives-requires c =
    let w = c.args.self.now.sheet in let s = source_of w in let l = look_of s in let n = length w.tokens.now in let k = c.args.ruled in let text = w.text.now in let top = c.args.top in
    let d = c.enter in let ns = entries d.new.self.names in let ls = entries d.new.self.lists in
    let f = c.conditions-needs in
    let Γ = head_scope empty (params_at n l k.params) in
    let scope : scope_of w ns ls ≡ Γ = declared w c.params.result k.params ns ls c.params.ensures.sheet c.params.ensures.params d.ensures.scope in
    let a = c.params_at-params in let P = columns_of a.new.tables in let F = columns_of f.new.tables in
    let N = conditions-made text (scope_of w ns ls) Γ (optional_at n l Needs k.needs) (conditions_left c.optional.result) f.result.from f.result.to P F c.optional.ensures.conditions (subst (λ zs. Listing (conditions_of text (scope_of w zs ls) (conditions_left c.optional.result)) P.conditions.entries F.conditions.entries P.items.entries F.items.entries) c.as_slice.ensures f.ensures.listing) scope f.ensures.stretch.0 f.ensures.stretch.1 f.ensures.size f.ensures.others in
    let R1 = roomy_after {u = conditions_weight (optional_at n l Gives k.gives)} (roomy-params c.requires.roomy a.ensures.others) N (omega arith) in
    let x = R1.conditions in let y = R1.items in
    let e = ap conditions_weight c.optional-2.ensures.conditions in record { sheet = c.optional-2.ensures.sheet; conditions = omega arith; items = omega arith }

pub expr-body-requires : goal.expr-body-requires
expr-body-requires c =
    let w = c.args.self.now.sheet in let s = source_of w in let l = look_of s in let n = length w.tokens.now in let k = c.args.ruled in let text = w.text.now in let top = c.args.top in
    let d = c.enter in let ns = entries d.new.self.names in let ls = entries d.new.self.lists in
    let f = c.conditions-needs in let g = c.conditions-gives in
    let Γ = head_scope empty (params_at n l k.params) in
    let scope : scope_of w ns ls ≡ Γ = declared w c.params.result k.params ns ls c.params.ensures.sheet c.params.ensures.params d.ensures.scope in
    let a = c.params_at-params in let P = columns_of a.new.tables in let F = columns_of f.new.tables in
    let N = conditions-made text (scope_of w ns ls) Γ (optional_at n l Needs k.needs) (conditions_left c.optional.result) f.result.from f.result.to P F c.optional.ensures.conditions (subst (λ zs. Listing (conditions_of text (scope_of w zs ls) (conditions_left c.optional.result)) P.conditions.entries F.conditions.entries P.items.entries F.items.entries) c.as_slice.ensures f.ensures.listing) scope f.ensures.stretch.0 f.ensures.stretch.1 f.ensures.size f.ensures.others in
    let G2 = columns_of g.new.tables in
    let G = conditions-made text (scope_of w ns ls) Γ (optional_at n l Gives k.gives) (conditions_left c.optional-2.result) g.result.from g.result.to F G2 c.optional-2.ensures.conditions (subst (λ zs. Listing (conditions_of text (scope_of w zs ls) (conditions_left c.optional-2.result)) F.conditions.entries G2.conditions.entries F.items.entries G2.items.entries) c.as_slice.ensures g.ensures.listing) scope g.ensures.stretch.0 g.ensures.stretch.1 g.ensures.size g.ensures.others in
    let R1 = roomy_after {u = conditions_weight (optional_at n l Gives k.gives) + expr_weight (raw_at s top w.nodes.now k.body)} (roomy-params c.requires.roomy a.ensures.others) N (omega arith) in
    let R2 = roomy_after {u = expr_weight (raw_at s top w.nodes.now k.body)} R1 G (omega arith) in
    record {
      names = omega (arith, d.new.self.roomy, c.requires.top, d.ensures.few);
      roomy = R2;
    }

pub returns : goal.returns
returns c =
    let w = c.args.self.now.sheet in let s = source_of w in let l = look_of s in let n = length w.tokens.now in let k = c.args.ruled in let text = w.text.now in let top = c.args.top in
    let d = c.enter in let ns = entries d.new.self.names in let ls = entries d.new.self.lists in
    let f = c.conditions-needs in let g = c.conditions-gives in let b = c.expr-body in
    let Γ = head_scope empty (params_at n l k.params) in
    let scope : scope_of w ns ls ≡ Γ = declared w c.params.result k.params ns ls c.params.ensures.sheet c.params.ensures.params d.ensures.scope in
    let a = c.params_at-params in let P = columns_of a.new.tables in let F = columns_of f.new.tables in
    let N = conditions-made text (scope_of w ns ls) Γ (optional_at n l Needs k.needs) (conditions_left c.optional.result) f.result.from f.result.to P F c.optional.ensures.conditions (subst (λ zs. Listing (conditions_of text (scope_of w zs ls) (conditions_left c.optional.result)) P.conditions.entries F.conditions.entries P.items.entries F.items.entries) c.as_slice.ensures f.ensures.listing) scope f.ensures.stretch.0 f.ensures.stretch.1 f.ensures.size f.ensures.others in
    let G2 = columns_of g.new.tables in
    let G = conditions-made text (scope_of w ns ls) Γ (optional_at n l Gives k.gives) (conditions_left c.optional-2.result) g.result.from g.result.to F G2 c.optional-2.ensures.conditions (subst (λ zs. Listing (conditions_of text (scope_of w zs ls) (conditions_left c.optional-2.result)) F.conditions.entries G2.conditions.entries F.items.entries G2.items.entries) c.as_slice.ensures g.ensures.listing) scope g.ensures.stretch.0 g.ensures.stretch.1 g.ensures.size g.ensures.others in
    let B : ExprMade (sheet_of w) Γ (raw_at s top w.nodes.now k.body) b.result G2 (columns_of b.new.tables) =
    subst (λ (Δ : Scope). ExprMade (sheet_of w) Δ (raw_at s top w.nodes.now k.body) b.result G2 (columns_of b.new.tables)) (ap (scope_of w ns) c.as_slice-2.ensures ∙ scope) b.ensures.made in
    record {
      made = rule-made (sheet_of w) (rule_by w top k) _ (columns_of c.args.tables.now) P F G2 (columns_of b.new.tables)
          a.ensures.added
          a.ensures.stretch.0 a.ensures.stretch.1 a.ensures.others N G B c.place.ensures;
      owed = b.ensures.owed ∙ g.ensures.owed ∙ f.ensures.owed ∙ a.ensures.owed;
    }
