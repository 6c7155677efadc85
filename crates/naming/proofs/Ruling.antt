-- The faults of one rule after another.
use Rattle.std.proofs.Common.{◌≡◌, ℕ, suc, ◌+◌, cond, List, [], ◌∷◌, ◌++◌, is_some, None, Option, sym, refl, ap, ◌∙◌, arith}
use Rattle.std.proofs.lemmas.List.{append-nil, append_assoc}
use Rattle.std.specs.List.{slice_get}
use Rattle.grammar.specs.declared.node.Node.{Node}
use Rattle.grammar.specs.Raw as Raw
use Rattle.grammar.specs.Trees.{Source, raw_at, rule_in, rules_to}
use Rattle.naming.specs.Faults.{head_faults, condition_faults, expr_faults, rule_faults, rules_faults}
use Rattle.naming.specs.Least.{merged, least}
use Rattle.naming.specs.Scopes as Scopes
use Rattle.naming.specs.Scopes.{Scope, Sheet, empty, head_scope}
use Rattle.naming.proofs.Smallest.{least-both}

rules-append : (S : Sheet) (before xs ys : List Raw.Rule) → rules_faults S before (xs ++ ys) ≡ rules_faults S before xs ++ rules_faults S (before ++ xs) ys
unfolding rules_faults
rules-append S before [] ys = ap (λ rs. rules_faults S rs ys) (sym (append-nil before))
rules-append S before (x ∷ xs) ys =
    ap (λ zs. (cond (is_some (Scopes.rule_in S.text before x.name)) (x.name.place ∷ []) [] ++ rule_faults S x) ++ zs) (rules-append S (before ++ x ∷ []) xs ys ∙ ap (λ rs. rules_faults S (before ++ x ∷ []) xs ++ rules_faults S rs ys) (append_assoc before (x ∷ []) xs))
    ∙ sym (append_assoc (cond (is_some (Scopes.rule_in S.text before x.name)) (x.name.place ∷ []) [] ++ rule_faults S x) (rules_faults S (before ++ x ∷ []) xs) (rules_faults S (before ++ x ∷ xs) ys))

pub rules-next : (S : Sheet) (s : Source) (ns : List Node) (at : ℕ) (a b r : Option ℕ) → a ≡ least (rules_faults S [] (rules_to s at ns)) → b ≡ least (rules_faults S (rules_to s at ns) (rule_in s (raw_at s at ns) (slice_get ns at))) → r ≡ merged a b → r ≡ least (rules_faults S [] (rules_to s (at + 1) ns))
unfolding rules_to
rules-next S s ns at a b r e f m =
    least-both (rules_faults S [] (rules_to s at ns)) (rules_faults S (rules_to s at ns) (rule_in s (raw_at s at ns) (slice_get ns at))) m e f
    ∙ ap least (sym (rules-append S [] (rules_to s at ns) (rule_in s (raw_at s at ns) (slice_get ns at)))) ∙ ap (λ n. least (rules_faults S [] (rules_to s n ns))) step-on
  where
    step-on : suc at ≡ at + 1
    step-on = omega arith

pub rules-first : (S : Sheet) (s : Source) (ns : List Node) → None ≡ least (rules_faults S [] (rules_to s 0 ns))
unfolding rules_to rules_faults least
rules-first S s ns = refl

pub no-rule : (S : Sheet) (before rs : List Raw.Rule) → rs ≡ [] → None ≡ least (rules_faults S before rs)
unfolding rules_faults least
no-rule S before rs e = sym (ap (λ xs. least (rules_faults S before xs)) e)

pub one-rule : (S : Sheet) (before rs : List Raw.Rule) (x : Raw.Rule) (Γ : Scope) (twice head needs gives body th ng ngb r : Option ℕ) → rs ≡ x ∷ [] → Γ ≡ head_scope empty x.params
    → twice ≡ least (cond (is_some (Scopes.rule_in S.text before x.name)) (x.name.place ∷ []) []) → head ≡ least (head_faults S.text empty x.params)
    → needs ≡ least (condition_faults S.text Γ.names x.needs) → gives ≡ least (condition_faults S.text Γ.names x.gives) → body ≡ least (expr_faults S Γ x.body)
    → th ≡ merged twice head → ng ≡ merged needs gives → ngb ≡ merged ng body → r ≡ merged th ngb → r ≡ least (rules_faults S before rs)
unfolding rules_faults
one-rule S before rs x Γ twice head needs gives body th ng ngb r e g t h n v b m1 m2 m3 m4 =
    let T : List ℕ = cond (is_some (Scopes.rule_in S.text before x.name)) (x.name.place ∷ []) [] in
    let H : List ℕ = head_faults S.text empty x.params in
    let Δ : Scope = head_scope empty x.params in
    let N : List ℕ = condition_faults S.text Δ.names x.needs in
    let V : List ℕ = condition_faults S.text Δ.names x.gives in
    let B : List ℕ = expr_faults S Δ x.body in
    let n' : needs ≡ least N = n ∙ ap (λ (Γ : Scope). least (condition_faults S.text Γ.names x.needs)) g in
    let v' : gives ≡ least V = v ∙ ap (λ (Γ : Scope). least (condition_faults S.text Γ.names x.gives)) g in
    let b' : body ≡ least B = b ∙ ap (λ (Γ : Scope). least (expr_faults S Γ x.body)) g in
    least-both (T ++ H) ((N ++ V) ++ B) m4 (least-both T H m1 t h) (least-both (N ++ V) B m3 (least-both N V m2 n' v') b')
    ∙ ap least (append_assoc T H ((N ++ V) ++ B) ∙ sym (append-nil (T ++ (H ++ ((N ++ V) ++ B)))))
    ∙ ap (λ xs. least (rules_faults S before xs)) (sym e)
