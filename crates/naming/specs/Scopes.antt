-- Scopes: which names are in force where, and what a name stands for.
use Rattle.std.specs.Prelude.{ℕ, suc, Bool, cond, ◌||◌, List, [], ◌∷◌, ◌++◌, is_some, Some, None, Option}
use Rattle.letters.specs.declared.token.Token.{Token}
use Rattle.letters.specs.Tokens.{same_name}
use Rattle.grammar.specs.Raw as Raw

-- the names in force, as they were declared: numbers and lengths, then lets; and the lists of the rule
pub record Scope : Type 0 where
  pub names : List Token
  pub lists : List Token

-- the text, and the rules of the sheet
pub record Sheet : Type 0 where
  pub text : List ℕ
  pub rules : List Raw.Rule

abbrev pub next : Option ℕ → Option ℕ
next None = None
next (Some i) = Some (suc i)

-- the first of the names that is written so
unfoldable pub slot_in : List ℕ → List Token → Token → Option ℕ
slot_in text [] t = None
slot_in text (n ∷ ns) t = cond (same_name text n t) (Some 0) (next (slot_in text ns t))

-- the first of the rules that is named so
unfoldable pub rule_in : List ℕ → List Raw.Rule → Token → Option ℕ
rule_in text [] t = None
rule_in text (r ∷ rs) t = cond (same_name text r.name t) (Some 0) (next (rule_in text rs t))

-- the token is the name of a number or of a list in scope
abbrev pub known : List ℕ → Scope → Token → Bool
known text Γ t = is_some (slot_in text Γ.names t) || is_some (slot_in text Γ.lists t)

abbrev pub naming : Scope → Token → Scope
naming Γ t = record { names = Γ.names ++ t ∷ []; lists = Γ.lists }

abbrev pub listing : Scope → Token → Scope
listing Γ t = record { names = Γ.names; lists = Γ.lists ++ t ∷ [] }

abbrev pub empty : Scope
empty = record { names = []; lists = [] }

-- a parameter declares its name, and a list its length's after it
abbrev pub param_scope : Scope → Token → Option Token → Scope
param_scope Γ name None = naming Γ name
param_scope Γ name (Some n) = naming (listing Γ name) n

unfoldable pub head_scope : Scope → List Raw.Param → Scope
head_scope Γ [] = Γ
head_scope Γ (p ∷ ps) = head_scope (param_scope Γ p.name p.length) ps
