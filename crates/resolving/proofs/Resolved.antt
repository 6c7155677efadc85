-- Each kind of expression in the tables, from its parts.
use Rattle.std.proofs.Common.{◌≡◌, ℕ, suc, ◌+◌, ◌<◌, List, length, Some, None, Option, refl, ap, ◌∙◌, subst, ap₂, arith}
use Rattle.std.specs.List.{slice_get}
use Rattle.letters.specs.declared.token.Token.{Token}
use Rattle.grammar.specs.Raw as Raw
use Rattle.grammar.specs.Weights.{expr_weight, args_weight, conditions_weight}
use Rattle.naming.specs.Faults.{bare_list}
use Rattle.naming.specs.Scopes.{Scope, Sheet, slot_in, rule_in, naming}
use Rattle.language.specs.declared.operator.Operator.{Operator}
use Rattle.language.specs.declared.comparison.Comparison.{Comparison}
use Rattle.language.specs.Tree as Tree
use Rattle.records.specs.declared.node.Node.TheVariants.{Num, Name, Calc, Read, Call, Bind, Test, Put, Claim, End, Value, Lent}
use Rattle.records.specs.declared.stretch.Stretch.{Stretch}
use Rattle.records.specs.Standing.{Listed, num, name, calc, read, call, bind, test, put, claim, end, value, lent}
use Rattle.records.specs.Counting.{up_to, exprs_up_to, args_up_to, claims_up_to, claims_in, conditions_up_to}
use Rattle.naming.specs.Resolving.{slot_of, operator_of, comparison_of, conditions_of}
use Rattle.resolving.specs.Resolving.{arg_of, expr_of, args_of}
use Rattle.records.proofs.Standing.{wider}
use Rattle.records.specs.Columns.{Columns, tables_by}
use Rattle.resolving.specs.Growing.{added, Made, ExprAt, ArgsAt, ExprMade, ArgsMade}
use Rattle.resolving.proofs.Growing.{expr-on, expr-after, arguments-on, made_none, made_as, made_then, made-node, listed-grows}

module _ (S : Sheet) (Γ : Scope) where
  pub num-made : (t : Token) (place n : ℕ) (p : Columns) (z : Columns) → place ≡ t.place → n ≡ t.value → z ≡ added p (Num place n) → ExprMade S Γ (Raw.num t) (length p.nodes.entries) p z
  unfolding expr_of expr_weight exprs_up_to claims_up_to
  num-made t place n p z e v h =
      made-node z (Num place n) (made_none p) h (omega arith) (λ byte. let z = ap (up_to byte) e in omega arith) (λ byte. refl)
      (λ _ u g b k. record { below = b; stands = num (k ∙ ap₂ (λ x y. Some (Num x y)) e v) (omega arith) })

  pub name-made : (t : Token) (place slot : ℕ) (p : Columns) (z : Columns) → place ≡ t.place → slot ≡ slot_of (slot_in S.text Γ.names t) → z ≡ added p (Name place slot) → ExprMade S Γ (Raw.name t) (length p.nodes.entries) p z
  unfolding expr_of expr_weight exprs_up_to claims_up_to
  name-made t place slot p z e v h =
      made-node z (Name place slot) (made_none p) h (omega arith) (λ byte. let z = ap (up_to byte) e in omega arith) (λ byte. refl)
      (λ _ u g b k. record { below = b; stands = name (k ∙ ap₂ (λ x y. Some (Name x y)) e v) (omega arith) })

  pub calc-made : (t : Token) (a b : Raw.Expr) (place : ℕ) (o : Operator) (i j : ℕ) (p q u : Columns) (z : Columns) → ExprMade S Γ a i p q → ExprMade S Γ b j q u → place ≡ t.place → o ≡ operator_of t.kind → z ≡ added u (Calc place o i j) → ExprMade S Γ (Raw.calc t a b) (length u.nodes.entries) p z
  unfolding expr_of expr_weight exprs_up_to claims_up_to
  calc-made t a b place o i j p q u z x y e f h =
      made-node z (Calc place o i j) (made_then x (expr-on _ i _) y) h (omega arith) (λ byte. ap (λ z. (exprs_up_to byte (expr_of S Γ a) + exprs_up_to byte (expr_of S Γ b)) + up_to byte z) e) (λ byte. refl)
      (λ m v g b k. record { below = b; stands = calc (k ∙ ap₂ (λ x y. Some (Calc x y i j)) e f) m.0.below m.1.below (expr-on _ i _ _ v g m.0).stands (expr-after i _ j _ _ v g x.holds.below m.1) })

  pub read_made : (t : Token) (a : Raw.Expr) (place slot i : ℕ) (p u : Columns) (z : Columns) → ExprMade S Γ a i p u → place ≡ t.place → slot ≡ slot_of (slot_in S.text Γ.lists t) → z ≡ added u (Read place 0 slot i) → ExprMade S Γ (Raw.read t a) (length u.nodes.entries) p z
  unfolding expr_of expr_weight exprs_up_to claims_up_to
  read_made t a place slot i p u z x e f h =
      made-node z (Read place 0 slot i) x h (omega arith) (λ byte. ap (λ z. exprs_up_to byte (expr_of S Γ a) + up_to byte z) e) (λ byte. refl)
      (λ m v g b k. record { below = b; stands = read (k ∙ ap₂ (λ x y. Some (Read x 0 y i)) e f) m.below (expr-on _ i _ _ v g m).stands })

  pub bind-made : (t n : Token) (a b : Raw.Expr) (place i j : ℕ) (p q u : Columns) (z : Columns) → ExprMade S Γ a i p q → ExprMade S (naming Γ n) b j q u → place ≡ t.place → z ≡ added u (Bind place i j) → ExprMade S Γ (Raw.bind t n a b) (length u.nodes.entries) p z
  unfolding expr_of expr_weight exprs_up_to claims_up_to
  bind-made t n a b place i j p q u z x y e h =
      made-node z (Bind place i j) (made_then x (expr-on _ i _) y) h (omega arith) (λ byte. ap (λ z. (exprs_up_to byte (expr_of S Γ a) + exprs_up_to byte (expr_of S (naming Γ n) b)) + up_to byte z) e) (λ byte. refl)
      (λ m v g b k. record { below = b; stands = bind (k ∙ ap (λ x. Some (Bind x i j)) e) m.0.below m.1.below (expr-on _ i _ _ v g m.0).stands (expr-after i _ j _ _ v g x.holds.below m.1) })

  pub test-made : (t s : Token) (a b d e : Raw.Expr) (place : ℕ) (o : Comparison) (i j k l : ℕ) (p q u v w z : Columns) → ExprMade S Γ a i p q → ExprMade S Γ b j q u → ExprMade S Γ d k u v → ExprMade S Γ e l v w → place ≡ t.place → o ≡ comparison_of s.kind → z ≡ added w (Test place o i j k l) → ExprMade S Γ (Raw.test t s a b d e) (length w.nodes.entries) p z
  unfolding expr_of expr_weight exprs_up_to claims_up_to
  test-made t s a b d e place o i j k l p q u v w z x y f g pl co h =
      made-node z (Test place o i j k l)
      (made_then (made_then (made_then x (expr-on _ i _) y) (λ s t g m. (expr-on _ i _ s t g m.0, expr-on _ j _ s t g m.1)) f) (λ s t g m. ((expr-on _ i _ s t g m.0.0, expr-on _ j _ s t g m.0.1), expr-on _ k _ s t g m.1)) g)
      h (omega arith)
      (λ byte. ap (λ z. (((exprs_up_to byte (expr_of S Γ a) + exprs_up_to byte (expr_of S Γ b)) + exprs_up_to byte (expr_of S Γ d)) + exprs_up_to byte (expr_of S Γ e)) + up_to byte z) pl) (λ byte. refl)
      (λ m w g b n. record {
        below = b;
        stands = test (n ∙ ap₂ (λ x y. Some (Test x y i j k l)) pl co) m.0.0.0.below m.0.0.1.below m.0.1.below m.1.below (expr-on _ i _ _ w g m.0.0.0).stands (expr-after i _ j _ _ w g x.holds.below m.0.0.1) (expr-after j _ k _ _ w g y.holds.below m.0.1) (expr-after k _ l _ _ w g f.holds.below m.1);
      })

  pub put-made : (t n : Token) (a b e : Raw.Expr) (place site slot i j k : ℕ) (p q u v : Columns) (z : Columns) → ExprMade S Γ a i p q → ExprMade S Γ b j q u → ExprMade S Γ e k u v → place ≡ t.place → site ≡ n.place → slot ≡ slot_of (slot_in S.text Γ.lists n) → z ≡ added v (Put place site 0 slot i j k) → ExprMade S Γ (Raw.put t n a b e) (length v.nodes.entries) p z
  unfolding expr_of expr_weight exprs_up_to claims_up_to
  put-made t n a b e place site slot i j k p q u v z x y f pl st sl h =
      made-node z (Put place site 0 slot i j k) (made_then (made_then x (expr-on _ i _) y) (λ s t g m. (expr-on _ i _ s t g m.0, expr-on _ j _ s t g m.1)) f) h (omega arith)
      (λ byte. ap (λ z. ((exprs_up_to byte (expr_of S Γ a) + exprs_up_to byte (expr_of S Γ b)) + exprs_up_to byte (expr_of S Γ e)) + up_to byte z) pl) (λ byte. refl)
      (λ m w g b n. record {
        below = b;
        stands = put (n ∙ ap (λ x. Some (Put x site 0 slot i j k)) pl ∙ ap₂ (λ x y. Some (Put t.place x 0 y i j k)) st sl) m.0.0.below m.0.1.below m.1.below (expr-on _ i _ _ w g m.0.0).stands (expr-after i _ j _ _ w g x.holds.below m.0.1) (expr-after j _ k _ _ w g y.holds.below m.1);
      })

  pub claim-made : (t : Token) (a : Raw.Expr) (cs : List Raw.Condition) (place i : ℕ) (s : Stretch) (p q u : Columns) (z : Columns) → ExprMade S Γ a i p q → Made (conditions_weight cs) (λ byte. 0) (λ byte. conditions_up_to byte (conditions_of S.text Γ cs)) (λ t. Listed t s.from s.to (conditions_of S.text Γ cs)) q u → place ≡ t.place → z ≡ added u (Claim place i s) → ExprMade S Γ (Raw.claim t a cs) (length u.nodes.entries) p z
  unfolding expr_of expr_weight exprs_up_to claims_up_to
  claim-made t a cs place i s p q u z x l e h =
      made-node z (Claim place i s) (made_then x (expr-on _ i _) l) h (omega arith) (λ byte. let z = ap (up_to byte) e in omega arith) (λ byte. refl)
      (λ m v g b k. record { below = b; stands = claim (k ∙ ap (λ x. Some (Claim x i s)) e) m.0.below (expr-on _ i _ _ v g m.0).stands (listed-grows s.from s.to _ _ v g m.1) })

  pub end-made : (p : Columns) (z : Columns) → z ≡ added p End → Made 1 (λ byte. 0) (λ byte. 0) (λ t. ArgsAt t (length p.nodes.entries) (length p.nodes.entries) Tree.end) p z
  end-made p z h = made-node z End (made_none p) h (omega arith) (λ byte. refl) (λ byte. refl) (λ _ u g b k. record { below = b; stands = end k (omega arith) })

  pub call-made : (t : Token) (es : Raw.Args) (place f i none : ℕ) (p q u : Columns) (z : Columns) → Made 1 (λ byte. 0) (λ byte. 0) (λ t. ArgsAt t (length p.nodes.entries) none Tree.end) p q → ArgsMade S Γ es none i q u → place ≡ t.place → f ≡ slot_of (rule_in S.text S.rules t) → z ≡ added u (Call place f i) → ExprMade S Γ (Raw.call t es) (length u.nodes.entries) p z
  unfolding expr_of expr_weight exprs_up_to claims_up_to
  call-made t es place f i none p q u z a x e s h =
      let y : Made (args_weight es) (λ byte. args_up_to byte (args_of S Γ es Tree.end)) (λ byte. claims_in byte (args_of S Γ es Tree.end)) (λ t. ArgsAt t (length p.nodes.entries) i (args_of S Γ es Tree.end)) q u = made_as x.made (omega arith) (λ byte. refl) (λ byte. refl) (λ _. x.stands (length p.nodes.entries) Tree.end a.holds) in
      made-node z (Call place f i) (made_then a (arguments-on (length p.nodes.entries) none Tree.end) y) h (omega arith)
      (λ byte. let z = ap (up_to byte) e in omega arith) (λ byte. omega arith)
      (λ m v g b k. record { below = b; stands = call (k ∙ ap₂ (λ x y. Some (Call x y i)) e s) m.1.below (arguments-on _ i _ _ v g m.1).stands })

  -- arguments, one by one from the last
  pub lent-made : (e : Raw.Expr) (slot after : ℕ) (p : Columns) (z : Columns) → Some slot ≡ bare_list S.text Γ.lists e → z ≡ added p (Lent slot after) → ArgsMade S Γ (Raw.more Raw.none e) after (length p.nodes.entries) p z
  unfolding args_of args_weight args_up_to claims_in
  lent-made e slot after p z s h =
      let push : Made 1 (λ byte. args_up_to byte (arg_of (bare_list S.text Γ.lists e) (expr_of S Γ e) Tree.end)) (λ byte. claims_in byte (arg_of (bare_list S.text Γ.lists e) (expr_of S Γ e) Tree.end)) (λ t. (length p.nodes.entries < length t.nodes) × (slice_get t.nodes (length p.nodes.entries) ≡ Some (Lent slot after))) p z = made-node z (Lent slot after) (made_none p) h (omega arith) (λ byte. ap (λ o. args_up_to byte (arg_of o (expr_of S Γ e) Tree.end)) s) (λ byte. ap (λ o. claims_in byte (arg_of o (expr_of S Γ e) Tree.end)) s) (λ _ u g b k. (b, k)) in
      record {
        made = made_as push (omega arith) (λ byte. refl) (λ byte. refl) (λ _. tt);
        stands = λ lo xs a. subst (λ o. ArgsAt (tables_by z) lo (length p.nodes.entries) (arg_of o (expr_of S Γ e) xs)) s (record { below = push.holds.0; stands = lent push.holds.1 a.below (arguments-on lo after xs (tables_by p) _ push.grows a).stands });
      }

  pub value_made : (e : Raw.Expr) (i after : ℕ) (p q : Columns) (z : Columns) → None ≡ bare_list S.text Γ.lists e → ExprMade S Γ e i p q → z ≡ added q (Value i after) → ArgsMade S Γ (Raw.more Raw.none e) after (length q.nodes.entries) p z
  unfolding args_of args_weight args_up_to claims_in
  value_made e i after p q z s m h =
      let last = z in
      let push : Made (expr_weight e + 1) (λ byte. args_up_to byte (arg_of (bare_list S.text Γ.lists e) (expr_of S Γ e) Tree.end)) (λ byte. claims_in byte (arg_of (bare_list S.text Γ.lists e) (expr_of S Γ e) Tree.end)) (λ t. (length q.nodes.entries < length t.nodes) × (i < length q.nodes.entries) × (slice_get t.nodes (length q.nodes.entries) ≡ Some (Value i after)) × ExprAt t (length p.nodes.entries) i (expr_of S Γ e)) p last = made-node z (Value i after) m h (omega arith) (λ byte. ap (λ o. args_up_to byte (arg_of o (expr_of S Γ e) Tree.end)) s) (λ byte. omega (arith, ap (λ o. claims_in byte (arg_of o (expr_of S Γ e) Tree.end)) s))
      (λ x u g b k. (b, x.below, k, expr-on _ i _ _ u g x)) in
      record {
        made = made_as push (omega arith) (λ byte. refl) (λ byte. refl) (λ _. tt);
        stands = λ lo xs a. subst (λ o. ArgsAt (tables_by last) lo (length q.nodes.entries) (arg_of o (expr_of S Γ e) xs)) s
            (record { below = push.holds.0; stands = value push.holds.2 push.holds.1 (arguments-on lo after xs (tables_by p) (tables_by q) m.grows a).below (arguments-on lo after xs (tables_by p) (tables_by last) push.grows a).stands (wider (tables_by last) (suc after) (length p.nodes.entries) i (expr_of S Γ e) a.below push.holds.3.stands) });
      }

  -- the counts of arguments before others
  args-split : (byte : ℕ) (es : Raw.Args) (xs : Tree.Args) → args_up_to byte (args_of S Γ es xs) ≡ args_up_to byte (args_of S Γ es Tree.end) + args_up_to byte xs
  unfolding args_of args_up_to
  args-split byte Raw.none xs = omega arith
  args-split byte (Raw.more es e) xs =
      let o = bare_list S.text Γ.lists e in let x = expr_of S Γ e in
      args-split byte es (arg_of o x xs) ∙ ap (λ n. args_up_to byte (args_of S Γ es Tree.end) + n) (go o) ∙ (let h = args-split byte es (arg_of o x Tree.end) in omega arith)
    where
      go : (o : Option ℕ) → args_up_to byte (arg_of o (expr_of S Γ e) xs) ≡ args_up_to byte (arg_of o (expr_of S Γ e) Tree.end) + args_up_to byte xs
      go None = omega arith
      go (Some i) = omega arith

  claims-split : (byte : ℕ) (es : Raw.Args) (xs : Tree.Args) → claims_in byte (args_of S Γ es xs) ≡ claims_in byte (args_of S Γ es Tree.end) + claims_in byte xs
  unfolding args_of claims_in
  claims-split byte Raw.none xs = omega arith
  claims-split byte (Raw.more es e) xs =
      let o = bare_list S.text Γ.lists e in let x = expr_of S Γ e in
      claims-split byte es (arg_of o x xs) ∙ ap (λ n. claims_in byte (args_of S Γ es Tree.end) + n) (go o) ∙ (let h = claims-split byte es (arg_of o x Tree.end) in omega arith)
    where
      go : (o : Option ℕ) → claims_in byte (arg_of o (expr_of S Γ e) xs) ≡ claims_in byte (arg_of o (expr_of S Γ e) Tree.end) + claims_in byte xs
      go None = omega arith
      go (Some i) = omega arith

  pub more-made : (es : Raw.Args) (e : Raw.Expr) (after link at : ℕ) (p q u : Columns) → ArgsMade S Γ (Raw.more Raw.none e) after link p q → ArgsMade S Γ es link at q u → ArgsMade S Γ (Raw.more es e) after at p u
  unfolding args_of args_weight args_up_to claims_in
  more-made es e after link at p q u m n = record {
    made = made_as (made_then m.made (λ s t g x. tt) n.made) (omega arith)
        (λ byte. omega (arith, args-split byte es (arg_of (bare_list S.text Γ.lists e) (expr_of S Γ e) Tree.end)))
        (λ byte. omega (arith, claims-split byte es (arg_of (bare_list S.text Γ.lists e) (expr_of S Γ e) Tree.end)))
        (λ h. tt);
    stands = λ lo xs a. n.stands lo _ (m.stands lo xs a);
  }

  pub none_made : (after : ℕ) (p : Columns) → ArgsMade S Γ Raw.none after after p p
  unfolding args_of args_weight args_up_to claims_in
  none_made after p = record { made = made_as (made_none p) (omega arith) (λ byte. refl) (λ byte. refl) (λ _. tt); stands = λ lo xs a. a }

  pub nest-made : (t : Token) (a : Raw.Expr) (i : ℕ) (p q : Columns) → ExprMade S Γ a i p q → ExprMade S Γ (Raw.nest t a) i p q
  unfolding expr_of expr_weight exprs_up_to claims_up_to
  nest-made t a i p q m = m
