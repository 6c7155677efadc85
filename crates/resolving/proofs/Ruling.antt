-- A rule in the tables, from its parameters, conditions and body.
use Rattle.std.proofs.Common.{◌≡◌, ℕ, zero, suc, ◌+◌, ◌≤◌, List, [], ◌∷◌, ◌++◌, map, length, sym, refl, ap, ◌∙◌, subst, ap₂, inl, inr, arith}
use Rattle.std.proofs.lemmas.Bool.{cases_lt}
use Rattle.std.proofs.lemmas.List.{length-map, length_push, map_push, append-nil}
use Rattle.grammar.specs.Raw as Raw
use Rattle.grammar.specs.Weights.{conditions_weight, rule_weight}
use Rattle.grammar.specs.Stretches.{params_at}
use Rattle.naming.specs.declared.head.Params.{Params}
use Rattle.naming.specs.declared.written.Written.{Written}
use Rattle.naming.specs.Reaches.{scope_of}
use Rattle.naming.specs.Sources.{source_of}
use Rattle.naming.specs.Stretching.{left}
use Rattle.naming.specs.Scopes.{Scope, Sheet, empty, head_scope}
use Rattle.language.specs.Tree as Tree
use Rattle.letters.specs.declared.token.Token.{Token}
use Rattle.records.specs.declared.entry.Param.{Param}
use Rattle.records.specs.declared.entry.Entry.{Entry}
use Rattle.records.specs.Tables as Tables
use Rattle.records.specs.Standing.{SidesIn, Listed}
use Rattle.records.specs.Sound.{Near}
use Rattle.records.specs.Rules.{RulesStand}
use Rattle.records.specs.Counting.{conditions_up_to}
use Rattle.naming.specs.Resolving.{conditions_of, param_of}
use Rattle.resolving.specs.Resolving.{rule_of}
use Rattle.records.specs.Columns.{Column, Columns, pushed, tables_by}
use Rattle.resolving.specs.Making.{Added, Listing, ConditionsAlone, ParamsAlone}
use Rattle.resolving.specs.Growing.{Roomy, Made, ExprMade}
use Rattle.grammar.specs.declared.node.Node.{Node}
use Rattle.grammar.specs.Trees.{Source, look_of, raw_at, rules_to}
use Rattle.grammar.specs.Trees as Trees
use Rattle.std.specs.List.{AllByRecursion, slice_get}
use Rattle.std.proofs.lemmas.List.Sums.{sum_by-append, sum_by_push}
use Rattle.grammar.specs.Weights.{weight_of}
use Rattle.records.specs.Counting.{exprs_up_to, claims_up_to, nodes_up_to, listed_up_to}
use Rattle.records.proofs.Rules.{rules-more}
use Rattle.records.proofs.Standing.{wider}
use Rattle.counting.specs.Counts.{sheet_exprs, sheet_conditions}
use Rattle.resolving.specs.Ruling.{tree_params, RuleMade, RulesMade, Empty, SameRooms}
use Rattle.resolving.proofs.Adding.{size}
use Rattle.resolving.proofs.Growing.{nodes-longer, made_as, made_then, made-listed, listed-grows}
use Rattle.resolving.proofs.Listings.{stretched}
use Rattle.resolving.proofs.Parts.{listed-few}

-- the names and lists that a head declares, where none were before
pub declared : (w : Written) (h : Params) (at : ℕ) (ns ls : List ℕ) → h.sheet ≡ w → left h ≡ params_at (length w.tokens.now) (look_of (source_of w)) at → scope_of h.sheet ns ls ≡ head_scope empty (left h) → scope_of w ns ls ≡ head_scope empty (params_at (length w.tokens.now) (look_of (source_of w)) at)
declared w h at ns ls v e s = ap (λ (x : Written). scope_of x ns ls) (sym v) ∙ s ∙ ap (head_scope empty) e

-- conditions that were listed, in a scope that is the same
pub conditions-made : (text : List ℕ) (Γ Δ : Scope) (cs ds : List Raw.Condition) (from to : ℕ) (p q : Columns) → ds ≡ cs → Listing (conditions_of text Γ ds) p.conditions.entries q.conditions.entries p.items.entries q.items.entries → Γ ≡ Δ → from ≡ length p.conditions.entries → to ≡ length q.conditions.entries → length q.items.entries ≤ length p.items.entries + conditions_weight ds → ConditionsAlone p q
    → Made (conditions_weight cs) (λ byte. 0) (λ byte. conditions_up_to byte (conditions_of text Δ cs)) (λ t. Listed t from to (conditions_of text Δ cs)) p q
conditions-made text Γ Δ cs ds from to p q k l e f t m a =
    made-listed (conditions_of text Δ cs) (conditions_weight cs) from to p q
    (subst (λ (Θ : Scope). Listing (conditions_of text Θ cs) p.conditions.entries q.conditions.entries p.items.entries q.items.entries) e (subst (λ xs. Listing (conditions_of text Γ xs) p.conditions.entries q.conditions.entries p.items.entries q.items.entries) k l))
    f t (listed-few text Δ cs) (omega (arith, m, ap conditions_weight k)) a

-- a rule's parameters, then its needs, its gives and its body
pub rule-made : (S : Sheet) (r : Raw.Rule) (e : Entry) (o p q u v : Columns)
    → Added Tables.param_of (map param_of r.params) o.params.entries p.params.entries → e.params.from ≡ length o.params.entries → e.params.to ≡ length p.params.entries → ParamsAlone o p
    → Made (conditions_weight r.needs) (λ byte. 0) (λ byte. conditions_up_to byte (rule_of S r).needs) (λ t. Listed t e.needs.from e.needs.to (rule_of S r).needs) p q
    → Made (conditions_weight r.gives) (λ byte. 0) (λ byte. conditions_up_to byte (rule_of S r).gives) (λ t. Listed t e.gives.from e.gives.to (rule_of S r).gives) q u
    → ExprMade S (head_scope empty r.params) r.body e.body u v
    → e.place ≡ r.keyword.place → RuleMade S r e o v
rule-made S r e o p q u v a f t h n g b k =
    let m = made_then (made_then n (listed-grows e.needs.from e.needs.to (rule_of S r).needs) g) (λ s t x y. (listed-grows e.needs.from e.needs.to (rule_of S r).needs s t x y.0, listed-grows e.gives.from e.gives.to (rule_of S r).gives s t x y.1)) b in
    let z = size Tables.param_of (map param_of r.params) o.params.entries p.params.entries a in
    let y = length-map r.params param_of in
    let s : v.params ≡ p.params = m.others.0 in
    let vs : v.params.entries ≡ p.params.entries = ap (λ (c : Column Param). c.entries) s in
    let front : tree_params v o ≡ p = ap (λ (c : Column Param). record o { params = c }) s ∙ sym h.rest in
    record {
      made = subst (λ (c : Columns). Made (rule_weight r) (λ byte. exprs_up_to byte (rule_of S r).body) (λ byte. (conditions_up_to byte (rule_of S r).needs + conditions_up_to byte (rule_of S r).gives) + claims_up_to byte (rule_of S r).body) (λ t. Unit {0}) c v) (sym front)
          (made_as m (omega arith) (λ byte. omega arith) (λ byte. refl) (λ _. tt));
      params = (a.more, vs ∙ a.grown);
      few = omega (arith, ap length vs);
      roomy = ap (λ (c : Column Param). c.room) s ∙ h.room;
      stands = record {
        place = k;
        within = omega (arith, ap length vs);
        params = ap (λ l. map Tables.param_of (Tables.stretch l e.params.from e.params.to)) vs ∙ ap₂ (λ x y. map Tables.param_of (Tables.stretch p.params.entries x y)) f t ∙ ap (λ l. map Tables.param_of (Tables.stretch l (length o.params.entries) (length l))) a.grown ∙ ap (map Tables.param_of) (stretched o.params.entries a.more) ∙ a.stand;
        needs = m.holds.0.0;
        gives = m.holds.0.1;
        below = m.holds.1.below;
        body = wider (tables_by v) (length o.nodes.entries) (length u.nodes.entries) e.body (rule_of S r).body (omega (arith, ap (λ (c : Columns). length c.nodes.entries) h.rest, nodes-longer (tables_by p) (tables_by q) n.grows, nodes-longer (tables_by q) (tables_by u) g.grows)) m.holds.1.stands;
      };
    }

-- an entry is put after the others
abbrev pub with_entry : Columns → Entry → Columns
with_entry p e = record p { entries = pushed p.entries e }

-- parameters take no room from the other tables
pub roomy-params : {w : ℕ} {o p : Columns} → Roomy w o → ParamsAlone o p → Roomy w p
roomy-params {w = w} {o = o} {p = p} r a = subst (Roomy w) (sym a.rest) (record { nodes = r.nodes; conditions = r.conditions; items = r.items })

pub rooms_none : {p : Columns} → SameRooms p p
rooms_none = record { nodes = refl; conditions = refl; items = refl; params = refl; entries = refl; lender = refl }

-- the rooms stay over a rule and its entry
pub rooms_turn : (S : Sheet) (r : Raw.Rule) (e : Entry) (o p q : Columns) → SameRooms o p → RuleMade S r e p q → SameRooms o (with_entry q e)
rooms_turn S r e o p q s m = record {
  nodes = m.made.rooms.0 ∙ s.nodes;
  conditions = m.made.rooms.1 ∙ s.conditions;
  items = m.made.rooms.2 ∙ s.items;
  params = m.roomy ∙ s.params;
  entries = ap (λ (c : Column Entry). c.room) m.made.others.1 ∙ s.entries;
  lender = m.made.others.2 ∙ s.lender;
}

-- rule after rule
pub rules-none : (S : Sheet) (p : Columns) → Empty p → RulesMade S [] p
unfolding nodes_up_to listed_up_to sheet_exprs sheet_conditions
rules-none S p e = record {
  stand = subst (λ xs. RulesStand (tables_by p) p.params.entries 0 xs []) (sym e.rules) tt;
  nodes = omega (arith, ap length e.nodes);
  conditions = omega (arith, ap length e.conditions);
  items = omega (arith, ap length e.items);
  params = omega (arith, ap length e.params);
  rules = omega (arith, ap length e.rules);
  exprs = λ byte. ap (nodes_up_to byte) e.nodes;
  claims = λ byte. ap (listed_up_to byte) e.conditions;
  fair = record { factors = subst Near (sym e.items) tt; sides = subst (AllByRecursion (SidesIn (length p.items.entries))) (sym e.conditions) tt };
}

pub rules-turn : (S : Sheet) (rs : List Raw.Rule) (r : Raw.Rule) (e : Entry) (p q : Columns) → RulesMade S rs p → RuleMade S r e p q → RulesMade S (rs ++ r ∷ []) (with_entry q e)
unfolding sheet_exprs sheet_conditions
rules-turn S rs r e p q m n =
    let w = sum_by_push rule_weight rs r in
    let same : q.entries.entries ≡ p.entries.entries = ap (λ (c : Column Entry). c.entries) n.made.others.1 in
    let h : (with_entry q e).entries.entries ≡ p.entries.entries ++ e ∷ [] = ap (λ xs. xs ++ e ∷ []) same in
    let a = ap length h ∙ length_push p.entries.entries e in
    let k = map_push (rule_of S) rs r in record {
      stand = subst (λ xs. RulesStand (tables_by q) q.params.entries 0 xs (map (rule_of S) (rs ++ r ∷ []))) (sym h)
          (subst (λ ys. RulesStand (tables_by q) q.params.entries 0 (p.entries.entries ++ e ∷ []) ys) (sym k)
          (rules-more (tables_by p) (tables_by q) p.params.entries q.params.entries 0 p.entries.entries (map (rule_of S) rs) e (rule_of S r) n.made.grows n.params (omega arith) m.stand n.stands));
      nodes = omega (arith, m.nodes, n.made.nodes);
      conditions = omega (arith, m.conditions, n.made.listed);
      items = omega (arith, m.items, n.made.items);
      params = omega (arith, m.params, n.few);
      rules = omega (arith, m.rules);
      exprs = λ byte. n.made.exprs byte ∙ ap (λ x. x + exprs_up_to byte (rule_of S r).body) (m.exprs byte) ∙ sym (ap (sheet_exprs byte) k ∙ sum_by_push (λ (r : Tree.Rule). exprs_up_to byte r.body) (map (rule_of S) rs) (rule_of S r));
      claims = λ byte. n.made.conditions byte ∙ ap (λ x. x + ((conditions_up_to byte (rule_of S r).needs + conditions_up_to byte (rule_of S r).gives) + claims_up_to byte (rule_of S r).body)) (m.claims byte) ∙ sym (ap (sheet_conditions byte) k ∙ sum_by_push (λ (r : Tree.Rule). (conditions_up_to byte r.needs + conditions_up_to byte r.gives) + claims_up_to byte r.body) (map (rule_of S) rs) (rule_of S r));
      fair = let f = n.made.fair (record { factors = m.fair.factors; sides = m.fair.sides }) in record { factors = f.factors; sides = f.sides };
    }

module _ (s : Source) (ns : List Node) where
  pub rules-zero : rules_to s 0 ns ≡ []
  unfolding rules_to
  rules-zero = refl

  more : (k : ℕ) → rules_to s (suc k) ns ≡ rules_to s k ns ++ Trees.rule_in s (raw_at s k ns) (slice_get ns k)
  unfolding rules_to
  more k = refl

  pub rules-next : (k : ℕ) → rules_to s (k + 1) ns ≡ rules_to s k ns ++ Trees.rule_in s (raw_at s k ns) (slice_get ns k)
  rules-next k = ap (λ n. rules_to s n ns) (let e : k + 1 ≡ suc k = omega arith in e) ∙ more k

  -- no rule there
  pub rules-same : (k : ℕ) → Trees.rule_in s (raw_at s k ns) (slice_get ns k) ≡ [] → rules_to s (k + 1) ns ≡ rules_to s k ns
  rules-same k e = rules-next k ∙ ap (λ xs. rules_to s k ns ++ xs) e ∙ append-nil (rules_to s k ns)

  pub weight-front : (k n : ℕ) → k ≤ n → weight_of (rules_to s k ns) ≤ weight_of (rules_to s n ns)
  weight-front k zero h = let e : weight_of (rules_to s k ns) ≡ weight_of (rules_to s 0 ns) = ap (λ m. weight_of (rules_to s m ns)) (omega arith) in omega arith
  weight-front k (suc n) h = elim (cases_lt n k) [
    | inl l ↦ let e : weight_of (rules_to s k ns) ≡ weight_of (rules_to s (suc n) ns) = ap (λ m. weight_of (rules_to s m ns)) (omega arith) in omega arith
    | inr l ↦ let i = weight-front k n l in let e = ap weight_of (more n) ∙ sum_by-append rule_weight (rules_to s n ns) (Trees.rule_in s (raw_at s n ns) (slice_get ns n)) in omega arith
  ]

-- the same rules in the same tables
pub rules-in : (S : Sheet) (rs qs : List Raw.Rule) (p q : Columns) → RulesMade S rs p → qs ≡ rs → q ≡ p → RulesMade S qs q
rules-in S rs qs p q m a b = subst (λ rs. RulesMade S rs q) (sym a) (subst (λ (c : Columns). RulesMade S rs c) (sym b) m)

-- a rule's name joins the others
pub name-joins : (l : ℕ → Token) (ns ns' : List ℕ) (rs rs' : List Raw.Rule) (r : Raw.Rule) (k : ℕ) → map l ns ≡ map (λ (r : Raw.Rule). r.name) rs → ns' ≡ ns ++ k ∷ [] → rs' ≡ rs ++ r ∷ [] → l k ≡ r.name → map l ns' ≡ map (λ (r : Raw.Rule). r.name) rs'
name-joins l ns ns' rs rs' r k e a b f =
    ap (map l) a ∙ map_push l ns k ∙ ap₂ (λ xs (x : Token). xs ++ x ∷ []) e f ∙ sym (ap (map (λ (r : Raw.Rule). r.name)) b ∙ map_push (λ (r : Raw.Rule). r.name) rs r)
