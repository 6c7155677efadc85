-- Declaring the names of a head.
use Rattle.std.proofs.Common.{◌≡◌, ℕ, ◌<◌, Bool, cond, ltb, List, [], ◌∷◌, ◌++◌, length, Some, None, Option, sym, ap, ◌∙◌, lt-ltb}
use Rattle.std.proofs.lemmas.List.{append-nil, map_push}
use Rattle.letters.specs.declared.token.Token.{Token}
use Rattle.grammar.specs.Raw as Raw
use Rattle.grammar.specs.Parsers.{Look}
use Rattle.grammar.specs.Trees.{look_of}
use Rattle.naming.specs.declared.head.Param.{Param}
use Rattle.naming.specs.declared.written.Written.{Written}
use Rattle.naming.specs.Faults.{fresh, length_faults, param_faults, head_faults}
use Rattle.naming.specs.Least.{merged, least}
use Rattle.naming.specs.Reaches.{tokens_of, scope_of}
use Rattle.naming.specs.Scopes.{Scope, naming, listing, param_scope, head_scope}
use Rattle.naming.specs.Sources.{source_of}
use Rattle.naming.specs.Stretching.{looked, written}
use Rattle.naming.proofs.Smallest.{merged-none, merged-assoc, least-append, least-both}

-- a pile with room takes one more
pub pushed : (xs ys : List ℕ) (x : ℕ) (r : Bool) (room : ℕ) → r ≡ ltb (length xs) room → length xs < room → ys ≡ cond r (xs ++ x ∷ []) xs → ys ≡ xs ++ x ∷ []
pushed xs ys x r room e h f = f ∙ ap (λ b. cond b (xs ++ x ∷ []) xs) (e ∙ lt-ltb (length xs) room h)

pub name-pushed : (w : Written) (names names' lists : List ℕ) (n : ℕ) → names' ≡ names ++ n ∷ [] → scope_of w names' lists ≡ naming (scope_of w names lists) (look_of (source_of w) n)
name-pushed w names names' lists n e = ap (λ ns. scope_of w ns lists) e ∙ ap (λ (ts : List Token). record { names = ts; lists = tokens_of w lists }) (map_push (look_of (source_of w)) names n)

pub list_pushed : (w : Written) (names lists lists' : List ℕ) (n : ℕ) → lists' ≡ lists ++ n ∷ [] → scope_of w names lists' ≡ listing (scope_of w names lists) (look_of (source_of w) n)
list_pushed w names lists lists' n e = ap (scope_of w names) e ∙ ap (λ (ts : List Token). record { names = tokens_of w names; lists = ts }) (map_push (look_of (source_of w)) lists n)

pub fresh_in : (w : Written) (ns ns' ls ls' : List ℕ) (t t' : Token) (r : Option ℕ) → r ≡ least (fresh w.text.now (scope_of w ns ls) t) → ns ≡ ns' → ls ≡ ls' → t ≡ t' → r ≡ least (fresh w.text.now (scope_of w ns' ls') t')
fresh_in w ns ns' ls ls' t t' r e a b d = e ∙ ap (λ x. least (fresh w.text.now (scope_of w x ls) t)) a ∙ ap (λ x. least (fresh w.text.now (scope_of w ns' x) t)) b ∙ ap (λ x. least (fresh w.text.now (scope_of w ns' ls') x)) d

pub number-faults : (text : List ℕ) (Γ : Scope) (l : Look) (p : Param) (r : Option ℕ) → p.length ≡ None → r ≡ least (fresh text Γ (l p.name)) → r ≡ least (param_faults text Γ (written l p))
number-faults text Γ l p r e f = f ∙ ap least (sym (append-nil (fresh text Γ (l p.name)))) ∙ ap (λ o. least (fresh text Γ (l p.name) ++ length_faults text Γ (l p.name) (looked l o))) (sym e)

pub list-faults : (text : List ℕ) (Γ : Scope) (l : Look) (p : Param) (m : ℕ) (a b r : Option ℕ) → p.length ≡ Some m → r ≡ merged a b → a ≡ least (fresh text Γ (l p.name)) → b ≡ least (fresh text (listing Γ (l p.name)) (l m)) → r ≡ least (param_faults text Γ (written l p))
list-faults text Γ l p m a b r e f g h = least-both (fresh text Γ (l p.name)) (fresh text (listing Γ (l p.name)) (l m)) f g h ∙ ap (λ o. least (fresh text Γ (l p.name) ++ length_faults text Γ (l p.name) (looked l o))) (sym e)

pub number-scope : (Γ : Scope) (l : Look) (p : Param) → p.length ≡ None → naming Γ (l p.name) ≡ param_scope Γ (written l p).name (written l p).length
number-scope Γ l p e = ap (λ o. param_scope Γ (l p.name) (looked l o)) (sym e)

pub list-scope : (Γ : Scope) (l : Look) (p : Param) (m : ℕ) → p.length ≡ Some m → naming (listing Γ (l p.name)) (l m) ≡ param_scope Γ (written l p).name (written l p).length
list-scope Γ l p m e = ap (λ o. param_scope Γ (l p.name) (looked l o)) (sym e)

pub head-turn : (text : List ℕ) (Γ Γ' : Scope) (p : Raw.Param) (ps qs : List Raw.Param) (w f g r : Option ℕ) → w ≡ merged f (least (head_faults text Γ qs)) → qs ≡ p ∷ ps → g ≡ least (param_faults text Γ p) → Γ' ≡ param_scope Γ p.name p.length → r ≡ merged f g → w ≡ merged r (least (head_faults text Γ' ps))
unfolding head_faults
head-turn text Γ Γ' p ps qs w f g r inv q a b m =
    inv ∙ ap (λ xs. merged f (least (head_faults text Γ xs))) q ∙ ap (merged f) (least-append (param_faults text Γ p) (head_faults text (param_scope Γ p.name p.length) ps))
    ∙ ap (λ o. merged f (merged o (least (head_faults text (param_scope Γ p.name p.length) ps)))) (sym a)
    ∙ sym (merged-assoc f g (least (head_faults text (param_scope Γ p.name p.length) ps)))
    ∙ ap (λ o. merged o (least (head_faults text (param_scope Γ p.name p.length) ps))) (sym m)
    ∙ ap (λ (Δ : Scope). merged r (least (head_faults text Δ ps))) (sym b)

pub scope-turn : (S Γ Γ' : Scope) (p : Raw.Param) (ps qs : List Raw.Param) → S ≡ head_scope Γ qs → qs ≡ p ∷ ps → Γ' ≡ param_scope Γ p.name p.length → S ≡ head_scope Γ' ps
unfolding head_scope
scope-turn S Γ Γ' p ps qs e q b = e ∙ ap (head_scope Γ) q ∙ ap (λ (Δ : Scope). head_scope Δ ps) (sym b)

pub head-end : (text : List ℕ) (Γ : Scope) (qs : List Raw.Param) (w f : Option ℕ) → w ≡ merged f (least (head_faults text Γ qs)) → qs ≡ [] → f ≡ w
unfolding head_faults least
head-end text Γ qs w f inv q = sym (inv ∙ ap (λ xs. merged f (least (head_faults text Γ xs))) q ∙ merged-none f)

pub scope-end : (S Γ : Scope) (qs : List Raw.Param) → S ≡ head_scope Γ qs → qs ≡ [] → Γ ≡ S
unfolding head_scope
scope-end S Γ qs e q = sym (e ∙ ap (head_scope Γ) q)
