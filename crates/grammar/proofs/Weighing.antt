-- The weight of what is derived is at most the number of its tokens.
use Rattle.std.proofs.Common.{ℕ, suc, ◌+◌, ◌≤◌, Bool, List, length, arith}
use Rattle.std.proofs.lemmas.List.{length_push}
use Rattle.std.proofs.lemmas.List.Sums.{sum_by_push}
use Rattle.letters.specs.declared.kind.Kind.{Kind}
use Rattle.letters.specs.declared.kind.Kind.TheVariants.{Semicolon}
use Rattle.letters.specs.declared.token.Token.{Token}
use Rattle.grammar.specs.Raw.{Item, Side, Condition, Expr, Args, Param, Rule, Sheet}
use Rattle.grammar.specs.Parsers.{Look, look_in}
use Rattle.grammar.proofs.Laws.{inside}
use Rattle.grammar.specs.Derives.{DItem, item-numeral, item-plain, item-times, DSide, side-first, side-more, DCondition, condition, DConditions, conditions-first, conditions-more, DParam, param-number, param-list, DParams, params-first, params_more, DHead, head-none, head-some, Level, Derives, at-numeral, at_name, at_read, at-call-none, at_call, at-nest, at-claim, product-one, product-more, sum_one, sum_more, expr-sum, expr-let, expr-if, expr-put, DArgs, args-first, args_more, DOptional, absent, present, DRule, rule, DRules, rules-none, rules-more, DSheet}
use Rattle.grammar.specs.Weights.{condition_weight, conditions_weight, expr_weight, args_weight, rule_weight, weight_of}

module _ (l : Look) where
  item-weighs : (res m : Bool) (i : ℕ) (x : Item) (j : ℕ) → DItem l res m i x j → 1 + i ≤ j
  item-weighs res m i x j (item-numeral h) = omega arith
  item-weighs res m i x j (item-plain h) = omega arith
  item-weighs res m i x j (item-times h t q) = omega arith

  side-weighs : (res : Bool) (i : ℕ) (x : Side) (j : ℕ) → DSide l res i x j → length x + i ≤ j
  side-weighs res i x j (side-first {it = it} d) = let a = item-weighs res _ i it j d in omega arith
  side-weighs res i x j (side-more {j = m} {its = its} {it = it} d h e) =
      let a = side-weighs res i its m d in
      let b = item-weighs res _ (suc m) it j e in
      omega (arith, length_push its it)

  condition-weighs : (res : Bool) (i : ℕ) (x : Condition) (j : ℕ) → DCondition l res i x j → condition_weight x + i ≤ j
  condition-weighs res i x j (condition {j = m} {a = a} {b = b} d h e) =
      let p = side-weighs res i a m d in
      let q = side-weighs res (suc m) b j e in
      omega arith

  conditions-weigh : (res : Bool) (i : ℕ) (x : List Condition) (j : ℕ) → DConditions l res i x j → conditions_weight x + i ≤ j
  conditions-weigh res i x j (conditions-first {c = c} d) = let a = condition-weighs res i c j d in omega arith
  conditions-weigh res i x j (conditions-more {j = m} {cs = cs} {c = c} d h e) =
      let a = conditions-weigh res i cs m d in
      let b = condition-weighs res (suc m) c j e in
      omega (arith, sum_by_push condition_weight cs c)

  optional-weighs : (k : Kind) (res : Bool) (i : ℕ) (x : List Condition) (j : ℕ) → DOptional l k res i x j → conditions_weight x + i ≤ j
  optional-weighs k res i x j absent = omega arith
  optional-weighs k res i x j (present h d) = let a = conditions-weigh res (suc i) x j d in omega arith

  param-weighs : (i : ℕ) (x : Param) (j : ℕ) → DParam l i x j → 1 + i ≤ j
  param-weighs i x j (param-number h) = omega arith
  param-weighs i x j (param-list h o m c) = omega arith

  params-weigh : (i : ℕ) (x : List Param) (j : ℕ) → DParams l i x j → length x + i ≤ j
  params-weigh i x j (params-first {p = p} d) = let a = param-weighs i p j d in omega arith
  params-weigh i x j (params_more {j = m} {ps = ps} {p = p} d h e) =
      let a = params-weigh i ps m d in
      let b = param-weighs (suc m) p j e in
      omega (arith, length_push ps p)

  head-weighs : (i : ℕ) (x : List Param) (j : ℕ) → DHead l i x j → length x + i ≤ j
  head-weighs i x j (head-none h) = omega arith
  head-weighs i x j (head-some {j = m} d h) = let a = params-weigh i x m d in omega arith

  mutual
    unfolding expr_weight args_weight

    expr-weighs : (v : Level) (i : ℕ) (x : Expr) (j : ℕ) → Derives l v i x j → expr_weight x + i ≤ j
    expr-weighs v i x j (at-numeral h) = omega arith
    expr-weighs v i x j (at_name h) = omega arith
    expr-weighs v i x j (at_read {j = m} {a} h o d c) = let p = expr-weighs _ _ a m d in omega arith
    expr-weighs v i x j (at-call-none h o c) = omega arith
    expr-weighs v i x j (at_call {j = m} {xs} h o d c) = let p = args-weigh _ xs m d in omega arith
    expr-weighs v i x j (at-nest {j = m} {a} h d c) = let p = expr-weighs _ _ a m d in omega arith
    expr-weighs v i x j (at-claim {j = m} {k} {a} {cs} h d s e c) =
        let p = expr-weighs _ _ a m d in
        let q = conditions-weigh _ _ cs k e in
        omega arith
    expr-weighs v i x j (product-one d) = expr-weighs _ i x j d
    expr-weighs v i x j (product-more {j = m} {a = a} {b = b} d h e) =
        let p = expr-weighs _ i a m d in
        let q = expr-weighs _ _ b j e in
        omega arith
    expr-weighs v i x j (sum_one d) = expr-weighs _ i x j d
    expr-weighs v i x j (sum_more {j = m} {a = a} {b = b} d h e) =
        let p = expr-weighs _ i a m d in
        let q = expr-weighs _ _ b j e in
        omega arith
    expr-weighs v i x j (expr-sum d) = expr-weighs _ i x j d
    expr-weighs v i x j (expr-let {j = m} {a = a} {b = b} h n q d t e) =
        let p = expr-weighs _ _ a m d in
        let q = expr-weighs _ _ b j e in
        omega arith
    expr-weighs v i x j (expr-if {j = j'} {k} {m} {a = a} {b} {c} {d} h p r q t u o w) =
        let p' = expr-weighs _ _ a j' p in
        let q' = expr-weighs _ _ b k q in
        let u' = expr-weighs _ _ c m u in
        let w' = expr-weighs _ _ d j w in
        omega arith
    expr-weighs v i x j (expr-put {j = j'} {k} {a = a} {b} {c} h n o p s w q t u) =
        let p' = expr-weighs _ _ a j' p in
        let q' = expr-weighs _ _ b k q in
        let u' = expr-weighs _ _ c j u in
        omega arith

    args-weigh : (i : ℕ) (x : Args) (j : ℕ) → DArgs l i x j → args_weight x + i ≤ j + 1
    args-weigh i x j (args-first {a = a} d) = let p = expr-weighs _ i a j d in omega arith
    args-weigh i x j (args_more {j = m} {xs = xs} {a = a} d h e) =
        let p = args-weigh i xs m d in
        let q = expr-weighs _ _ a j e in
        omega arith

  rule-weighs : (i : ℕ) (x : Rule) (j : ℕ) → DRule l i x j → rule_weight x + i ≤ j
  rule-weighs i x j (rule {j = m} {k} {m = g} {n} {ps} {ns} {gs} {e} h a o d y z q b s) =
      let d' = head-weighs _ ps m d in
      let y' = optional-weighs _ _ _ ns k y in
      let z' = optional-weighs _ _ _ gs g z in
      let b' = expr-weighs _ _ e n b in
      omega arith

  rules-weigh : (i : ℕ) (x : Sheet) (j : ℕ) → DRules l i x j → weight_of x + i ≤ j
  rules-weigh i x j rules-none = omega arith
  rules-weigh i x j (rules-more {j = m} {rs = rs} {r = r} d e) =
      let a = rules-weigh i rs m d in
      let b = rule-weighs m r j e in
      omega (arith, sum_by_push rule_weight rs r)

-- a rule's `;` stands inside the tokens
rule-inside : (ts : List Token) (e i : ℕ) (x : Rule) (j : ℕ) → DRule (look_in ts e) i x j → j ≤ length ts
rule-inside ts e i x j (rule {n = n} h a o d y z q b s) = let p = inside ts e n Semicolon s (λ z. omega arith) in omega arith

rules-inside : (ts : List Token) (e : ℕ) (x : Sheet) (j : ℕ) → DRules (look_in ts e) 0 x j → j ≤ length ts
rules-inside ts e x j rules-none = omega arith
rules-inside ts e x j (rules-more {j = m} {r = r} d b) = rule-inside ts e m r j b

pub weighs : (ts : List Token) (e : ℕ) (rs : Sheet) → DSheet (look_in ts e) rs → weight_of rs ≤ length ts
weighs ts e rs d =
    let a = rules-weigh (look_in ts e) 0 rs d.last d.rules in
    let b = rules-inside ts e rs d.last d.rules in
    omega arith
