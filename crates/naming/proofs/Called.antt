-- Looking for a rule by its name.
use Rattle.std.proofs.Common.{◌≡◌, ℕ, zero, suc, ◌+◌, ◌≤◌, Bool, true, false, cond, eqb, List, [], ◌∷◌, ◌++◌, length, drop, is_some, Some, None, Option, sym, refl, ap, ◌∙◌, inl, inr, arith, eq-eqb}
use Rattle.std.proofs.lemmas.Bool.{cases_lt}
use Rattle.std.specs.Bool.{then_some}
use Rattle.std.specs.List.{slice_get}
use Rattle.letters.specs.declared.token.Token.{Token}
use Rattle.letters.specs.Tokens.{same_name}
use Rattle.grammar.specs.declared.node.Node.{Node}
use Rattle.grammar.specs.Raw as Raw
use Rattle.grammar.specs.Trees.{Source, raw_at, rule_in, rules_to}
use Rattle.naming.specs.declared.written.Written.{Written}
use Rattle.naming.specs.Calls.{named, head_at, arg_fault}
use Rattle.naming.specs.Faults.{params_of, call_faults, arg_faults}
use Rattle.naming.specs.Least.{least}
use Rattle.naming.specs.Scopes as Scopes
use Rattle.naming.specs.Scopes.{Sheet, next}

abbrev or_else : {X : Type 0} → Option X → Option X → Option X
or_else (Some x) o = Some x
or_else None o = o

named-append : (text : List ℕ) (t : Token) (xs ys : List Raw.Rule) → named text (xs ++ ys) t ≡ or_else (named text xs t) (named text ys t)
unfolding named
named-append text t [] ys = refl
named-append text t (x ∷ xs) ys = go (named-append text t xs ys) (same_name text x.name t)
  where
    go : named text (xs ++ ys) t ≡ or_else (named text xs t) (named text ys t) → (b : Bool) → cond b (Some x.params) (named text (xs ++ ys) t) ≡ or_else (cond b (Some x.params) (named text xs t)) (named text ys t)
    go e true = refl
    go e false = e

pub named_none : (text : List ℕ) (t : Token) (s : Source) (ns : List Node) → named text (rules_to s 0 ns) t ≡ None
unfolding named rules_to
named_none text t s ns = refl

named-suc : (text : List ℕ) (t : Token) (s : Source) (ns : List Node) (k : ℕ) → named text (rules_to s (suc k) ns) t ≡ or_else (named text (rules_to s k ns) t) (named text (rule_in s (raw_at s k ns) (slice_get ns k)) t)
unfolding rules_to
named-suc text t s ns k = named-append text t (rules_to s k ns) (rule_in s (raw_at s k ns) (slice_get ns k))

pub named-next : (text : List ℕ) (t : Token) (s : Source) (ns : List Node) (k : ℕ) → named text (rules_to s k ns) t ≡ None → named text (rules_to s (k + 1) ns) t ≡ named text (rule_in s (raw_at s k ns) (slice_get ns k)) t
named-next text t s ns k e = ap (λ n. named text (rules_to s n ns) t) (omega arith) ∙ named-suc text t s ns k ∙ ap (λ o. or_else o (named text (rule_in s (raw_at s k ns) (slice_get ns k)) t)) e

pub named-front : (text : List ℕ) (t : Token) (s : Source) (ns : List Node) (ps : List Raw.Param) (k n : ℕ) → k ≤ n → named text (rules_to s k ns) t ≡ Some ps → named text (rules_to s n ns) t ≡ Some ps
named-front text t s ns ps k zero h e = ap (λ m. named text (rules_to s m ns) t) (omega arith) ∙ e
named-front text t s ns ps k (suc n) h e = elim (cases_lt n k) [
  | inl l ↦ ap (λ m. named text (rules_to s m ns) t) (omega arith) ∙ e
  | inr l ↦ named-suc text t s ns n ∙ ap (λ o. or_else o (named text (rule_in s (raw_at s n ns) (slice_get ns n)) t)) (named-front text t s ns ps k n l e)
]

params-next : (text : List ℕ) (r : Raw.Rule) (rs : List Raw.Rule) (o : Option ℕ) → params_of (record { text = text; rules = r ∷ rs }) (next o) ≡ params_of (record { text = text; rules = rs }) o
params-next text r rs None = refl
params-next text r rs (Some i) = refl

pub params-named : (text : List ℕ) (rs : List Raw.Rule) (t : Token) → params_of (record { text = text; rules = rs }) (Scopes.rule_in text rs t) ≡ named text rs t
unfolding named Scopes.rule_in
params-named text [] t = refl
params-named text (r ∷ rs) t = go (params-named text rs t) (same_name text r.name t)
  where
    go : params_of (record { text = text; rules = rs }) (Scopes.rule_in text rs t) ≡ named text rs t → (b : Bool) → params_of (record { text = text; rules = r ∷ rs }) (cond b (Some 0) (next (Scopes.rule_in text rs t))) ≡ cond b (Some r.params) (named text rs t)
    go e true = refl
    go e false = params-next text r rs (Scopes.rule_in text rs t) ∙ e

pub is-named : (text : List ℕ) (rs : List Raw.Rule) (t : Token) → is_some (Scopes.rule_in text rs t) ≡ is_some (named text rs t)
unfolding named Scopes.rule_in
is-named text [] t = refl
is-named text (r ∷ rs) t = go (is-named text rs t) (same_name text r.name t)
  where
    on : (o : Option ℕ) → is_some (next o) ≡ is_some o
    on None = refl
    on (Some i) = refl

    go : is_some (Scopes.rule_in text rs t) ≡ is_some (named text rs t) → (b : Bool) → is_some (cond b (Some 0) (next (Scopes.rule_in text rs t))) ≡ is_some (cond b (Some r.params) (named text rs t))
    go e true = refl
    go e false = on (Scopes.rule_in text rs t) ∙ e

pub call_fits : (ps : List Raw.Param) (t : Token) (n : ℕ) (inside : List Raw.Param → List ℕ) → length ps ≡ n → call_faults (Some ps) t n inside ≡ inside ps
call_fits ps t n inside e = ap (λ b. cond b (inside ps) (t.place ∷ [])) (eq-eqb (length ps) n e)

pub call-wrong : (ps : List Raw.Param) (t : Token) (n : ℕ) (inside : List Raw.Param → List ℕ) → eqb (length ps) n ≡ false → call_faults (Some ps) t n inside ≡ t.place ∷ []
call-wrong ps t n inside e = ap (λ b. cond b (inside ps) (t.place ∷ [])) e

pub arg-least : (wants : Option Token) (bare : Option ℕ) (place : ℕ) (inside : List ℕ) → arg_fault (is_some wants) (is_some bare) place (least inside) ≡ least (arg_faults wants bare place inside)
unfolding least
arg-least None bare place inside = refl
arg-least (Some n) (Some i) place inside = refl
arg-least (Some n) None place inside = refl

pub nth_drop : {X : Type 0} (xs : List X) (k : ℕ) → slice_get (drop k xs) 0 ≡ slice_get xs k
nth_drop [] zero = refl
nth_drop [] (suc k) = refl
nth_drop (x ∷ xs) zero = refl
nth_drop (x ∷ xs) (suc k) = nth_drop xs k

-- a rule alone is named so or not
pub named_when : (text : List ℕ) (t : Token) (r : Raw.Rule) (b : Bool) → b ≡ same_name text r.name t → named text (r ∷ []) t ≡ cond b (Some r.params) None
unfolding named
named_when text t r b e = ap (λ a. cond a (Some r.params) None) (sym e)

pub head_when : (w : Written) (ps : ℕ) (b : Bool) → cond b (head_at w (Some ps)) None ≡ head_at w (then_some b ps)
head_when w ps true = refl
head_when w ps false = refl

pub named-no : (text : List ℕ) (t : Token) → named text [] t ≡ None
unfolding named
named-no text t = refl
