-- What the tree of a node is, by the node.
use Rattle.std.proofs.Common.{◌≡◌, ℕ, ◌+◌, false, cond, List, [], ◌∷◌, length, is_some, Some, None, Option, sym, refl, ap, ◌∙◌, inl, inr, le-ltb, lt-ltb}
use Rattle.std.proofs.lemmas.Bool.{cases_lt}
use Rattle.std.proofs.lemmas.Option.{slice_get_past}
use Rattle.std.specs.List.{slice_get}
use Rattle.letters.specs.declared.kind.Kind.TheVariants.{Needs, Gives}
use Rattle.letters.specs.declared.token.Token.{Token}
use Rattle.grammar.specs.declared.node.Node.{Node}
use Rattle.grammar.specs.declared.node.Node.TheVariants.{Blank, Num, Name, Calc, Read, Call, Bind, Test, Put, Claim, Nest, NoArgs, Arg, Rule}
use Rattle.grammar.specs.Raw.{none, more}
use Rattle.grammar.specs.Sheets.{rule_of}
use Rattle.grammar.specs.Stretches.{params_at, optional_at}
use Rattle.grammar.specs.Trees.{Source, Part, look_of, grown, part_in, raw_at, args_at, rule_in}
use Rattle.naming.specs.declared.taken.Last.{Last}
use Rattle.naming.specs.declared.taken.Ruled.{Ruled}
use Rattle.naming.specs.Calls.{last_of, name_of, inner_of, own_place, ruled_of}
use Rattle.naming.specs.Faults.{bare_list, place_of, count_args}
use Rattle.naming.specs.Scopes.{slot_in}
use Rattle.naming.specs.Sources.{node_in}
use Rattle.grammar.proofs.Parts.{step}

last_some : (s : Source) (f : ℕ → Part) (o : Option Node) (k : Last) → Some k ≡ last_of o → (grown s f o).args ≡ more (f k.before).args (f k.last).expr
last_some s f None k e = cc
last_some s f (Some Blank) k e = cc
last_some s f (Some (Num t)) k e = cc
last_some s f (Some (Name t)) k e = cc
last_some s f (Some (Calc t a b)) k e = cc
last_some s f (Some (Read t a)) k e = cc
last_some s f (Some (Call t a)) k e = cc
last_some s f (Some (Bind t n a b)) k e = cc
last_some s f (Some (Test t c a b d u)) k e = cc
last_some s f (Some (Put t n a b d)) k e = cc
last_some s f (Some (Claim t c a)) k e = cc
last_some s f (Some (Nest t a)) k e = cc
last_some s f (Some NoArgs) k e = cc
last_some s f (Some (Arg a b)) k e = cc
last_some s f (Some (Rule t m ps n g b)) k e = cc

last_none : (s : Source) (f : ℕ → Part) (o : Option Node) → None ≡ last_of o → (grown s f o).args ≡ none
last_none s f None e = refl
last_none s f (Some Blank) e = refl
last_none s f (Some (Num t)) e = refl
last_none s f (Some (Name t)) e = refl
last_none s f (Some (Calc t a b)) e = refl
last_none s f (Some (Read t a)) e = refl
last_none s f (Some (Call t a)) e = refl
last_none s f (Some (Bind t n a b)) e = refl
last_none s f (Some (Test t c a b d u)) e = refl
last_none s f (Some (Put t n a b d)) e = refl
last_none s f (Some (Claim t c a)) e = refl
last_none s f (Some (Nest t a)) e = refl
last_none s f (Some NoArgs) e = refl
last_none s f (Some (Arg a b)) e = cc
last_none s f (Some (Rule t m ps n g b)) e = refl

bare-some : (s : Source) (f : ℕ → Part) (text : List ℕ) (ls : List Token) (o : Option Node) (t' : ℕ) → Some t' ≡ name_of o → bare_list text ls (grown s f o).expr ≡ slot_in text ls (look_of s t')
bare-some s f text ls None t' e = cc
bare-some s f text ls (Some Blank) t' e = cc
bare-some s f text ls (Some (Num t)) t' e = cc
bare-some s f text ls (Some (Name t)) t' e = cc
bare-some s f text ls (Some (Calc t a b)) t' e = cc
bare-some s f text ls (Some (Read t a)) t' e = cc
bare-some s f text ls (Some (Call t a)) t' e = cc
bare-some s f text ls (Some (Bind t n a b)) t' e = cc
bare-some s f text ls (Some (Test t c a b d u)) t' e = cc
bare-some s f text ls (Some (Put t n a b d)) t' e = cc
bare-some s f text ls (Some (Claim t c a)) t' e = cc
bare-some s f text ls (Some (Nest t a)) t' e = cc
bare-some s f text ls (Some NoArgs) t' e = cc
bare-some s f text ls (Some (Arg a b)) t' e = cc
bare-some s f text ls (Some (Rule t m ps n g b)) t' e = cc

bare-none : (s : Source) (f : ℕ → Part) (text : List ℕ) (ls : List Token) (o : Option Node) → None ≡ name_of o → is_some (bare_list text ls (grown s f o).expr) ≡ false
bare-none s f text ls None e = refl
bare-none s f text ls (Some Blank) e = refl
bare-none s f text ls (Some (Num t)) e = refl
bare-none s f text ls (Some (Name t)) e = cc
bare-none s f text ls (Some (Calc t a b)) e = refl
bare-none s f text ls (Some (Read t a)) e = refl
bare-none s f text ls (Some (Call t a)) e = refl
bare-none s f text ls (Some (Bind t n a b)) e = refl
bare-none s f text ls (Some (Test t c a b d u)) e = refl
bare-none s f text ls (Some (Put t n a b d)) e = refl
bare-none s f text ls (Some (Claim t c a)) e = refl
bare-none s f text ls (Some (Nest t a)) e = refl
bare-none s f text ls (Some NoArgs) e = refl
bare-none s f text ls (Some (Arg a b)) e = refl
bare-none s f text ls (Some (Rule t m ps n g b)) e = refl

inner-some : (s : Source) (f : ℕ → Part) (o : Option Node) (k : ℕ) → Some k ≡ inner_of o → place_of (grown s f o).expr ≡ place_of (f k).expr
unfolding place_of
inner-some s f None k e = cc
inner-some s f (Some Blank) k e = cc
inner-some s f (Some (Num t)) k e = cc
inner-some s f (Some (Name t)) k e = cc
inner-some s f (Some (Calc t a b)) k e = cc
inner-some s f (Some (Read t a)) k e = cc
inner-some s f (Some (Call t a)) k e = cc
inner-some s f (Some (Bind t n a b)) k e = cc
inner-some s f (Some (Test t c a b d u)) k e = cc
inner-some s f (Some (Put t n a b d)) k e = cc
inner-some s f (Some (Claim t c a)) k e = cc
inner-some s f (Some (Nest t a)) k e = cc
inner-some s f (Some NoArgs) k e = cc
inner-some s f (Some (Arg a b)) k e = cc
inner-some s f (Some (Rule t m ps n g b)) k e = cc

inner-none : (s : Source) (f : ℕ → Part) (o : Option Node) → None ≡ inner_of o → own_place (look_of s) o ≡ place_of (grown s f o).expr
unfolding place_of
inner-none s f None e = refl
inner-none s f (Some Blank) e = refl
inner-none s f (Some (Num t)) e = refl
inner-none s f (Some (Name t)) e = refl
inner-none s f (Some (Calc t a b)) e = refl
inner-none s f (Some (Read t a)) e = refl
inner-none s f (Some (Call t a)) e = refl
inner-none s f (Some (Bind t n a b)) e = refl
inner-none s f (Some (Test t c a b d u)) e = refl
inner-none s f (Some (Put t n a b d)) e = refl
inner-none s f (Some (Claim t c a)) e = refl
inner-none s f (Some (Nest t a)) e = cc
inner-none s f (Some NoArgs) e = refl
inner-none s f (Some (Arg a b)) e = refl
inner-none s f (Some (Rule t m ps n g b)) e = refl

some_same : {X : Type 0} {x y : X} → Some x ≡ Some y → x ≡ y
some_same e = cc

rule-some : (s : Source) (nodes : List Node) (p : ℕ) (o : Option Node) (k : Ruled) → Some k ≡ ruled_of o → rule_in s (raw_at s p nodes) o ≡ rule_of (look_of s k.keyword) (look_of s k.name) (params_at (length s.tokens) (look_of s) k.params) (optional_at (length s.tokens) (look_of s) Needs k.needs) (optional_at (length s.tokens) (look_of s) Gives k.gives) (raw_at s p nodes k.body) ∷ []
rule-some s nodes p None k e = cc
rule-some s nodes p (Some Blank) k e = cc
rule-some s nodes p (Some (Num t)) k e = cc
rule-some s nodes p (Some (Name t)) k e = cc
rule-some s nodes p (Some (Calc t a b)) k e = cc
rule-some s nodes p (Some (Read t a)) k e = cc
rule-some s nodes p (Some (Call t a)) k e = cc
rule-some s nodes p (Some (Bind t n a b)) k e = cc
rule-some s nodes p (Some (Test t c a b d u)) k e = cc
rule-some s nodes p (Some (Put t n a b d)) k e = cc
rule-some s nodes p (Some (Claim t c a)) k e = cc
rule-some s nodes p (Some (Nest t a)) k e = cc
rule-some s nodes p (Some NoArgs) k e = cc
rule-some s nodes p (Some (Arg a b)) k e = cc
rule-some s nodes p (Some (Rule t m ps n g b)) k e = let h : k ≡ record { keyword = t; name = m; params = ps; needs = n; gives = g; body = b } = some_same e in ap (λ (k : Ruled). rule_of (look_of s k.keyword) (look_of s k.name) (params_at (length s.tokens) (look_of s) k.params) (optional_at (length s.tokens) (look_of s) Needs k.needs) (optional_at (length s.tokens) (look_of s) Gives k.gives) (raw_at s p nodes k.body) ∷ []) (sym h)

rule-none : (s : Source) (nodes : List Node) (p : ℕ) (o : Option Node) → None ≡ ruled_of o → rule_in s (raw_at s p nodes) o ≡ []
rule-none s nodes p None e = refl
rule-none s nodes p (Some Blank) e = refl
rule-none s nodes p (Some (Num t)) e = refl
rule-none s nodes p (Some (Name t)) e = refl
rule-none s nodes p (Some (Calc t a b)) e = refl
rule-none s nodes p (Some (Read t a)) e = refl
rule-none s nodes p (Some (Call t a)) e = refl
rule-none s nodes p (Some (Bind t n a b)) e = refl
rule-none s nodes p (Some (Test t c a b d u)) e = refl
rule-none s nodes p (Some (Put t n a b d)) e = refl
rule-none s nodes p (Some (Claim t c a)) e = refl
rule-none s nodes p (Some (Nest t a)) e = refl
rule-none s nodes p (Some NoArgs) e = refl
rule-none s nodes p (Some (Arg a b)) e = refl
rule-none s nodes p (Some (Rule t m ps n g b)) e = cc

pub args_more : (s : Source) (top : ℕ) (ns : List Node) (at : ℕ) (k : Last) → Some k ≡ last_of (node_in top ns at) → args_at s top ns at ≡ more (args_at s at ns k.before) (raw_at s at ns k.last)
args_more s top ns at k e = ap (λ (p : Part). p.args) (step s top ns at) ∙ last_some s (part_in s at ns) (node_in top ns at) k e

pub args_none : (s : Source) (top : ℕ) (ns : List Node) (at : ℕ) → None ≡ last_of (node_in top ns at) → args_at s top ns at ≡ none
args_none s top ns at e = ap (λ (p : Part). p.args) (step s top ns at) ∙ last_none s (part_in s at ns) (node_in top ns at) e

pub count-more : (s : Source) (top : ℕ) (ns : List Node) (at : ℕ) (k : Last) → Some k ≡ last_of (node_in top ns at) → count_args (args_at s top ns at) ≡ count_args (args_at s at ns k.before) + 1
unfolding count_args
count-more s top ns at k e = ap count_args (args_more s top ns at k e)

pub count_none : (s : Source) (top : ℕ) (ns : List Node) (at : ℕ) → None ≡ last_of (node_in top ns at) → count_args (args_at s top ns at) ≡ 0
unfolding count_args
count_none s top ns at e = ap count_args (args_none s top ns at e)

pub bare-name : (s : Source) (top : ℕ) (ns : List Node) (at : ℕ) (text : List ℕ) (ls : List Token) (t : ℕ) → Some t ≡ name_of (node_in top ns at) → bare_list text ls (raw_at s top ns at) ≡ slot_in text ls (look_of s t)
bare-name s top ns at text ls t e = ap (λ (p : Part). bare_list text ls p.expr) (step s top ns at) ∙ bare-some s (part_in s at ns) text ls (node_in top ns at) t e

pub bare-other : (s : Source) (top : ℕ) (ns : List Node) (at : ℕ) (text : List ℕ) (ls : List Token) → None ≡ name_of (node_in top ns at) → is_some (bare_list text ls (raw_at s top ns at)) ≡ false
bare-other s top ns at text ls e = ap (λ (p : Part). is_some (bare_list text ls p.expr)) (step s top ns at) ∙ bare-none s (part_in s at ns) text ls (node_in top ns at) e

pub place-inner : (s : Source) (top : ℕ) (ns : List Node) (at : ℕ) (k : ℕ) → Some k ≡ inner_of (node_in top ns at) → place_of (raw_at s top ns at) ≡ place_of (raw_at s at ns k)
place-inner s top ns at k e = ap (λ (p : Part). place_of p.expr) (step s top ns at) ∙ inner-some s (part_in s at ns) (node_in top ns at) k e

pub place-own : (s : Source) (top : ℕ) (ns : List Node) (at : ℕ) → None ≡ inner_of (node_in top ns at) → own_place (look_of s) (node_in top ns at) ≡ place_of (raw_at s top ns at)
place-own s top ns at e = inner-none s (part_in s at ns) (node_in top ns at) e ∙ sym (ap (λ (p : Part). place_of p.expr) (step s top ns at))

-- below the end, each node is the one at its position
node-any : (ns : List Node) (at : ℕ) → node_in (length ns) ns at ≡ slice_get ns at
node-any ns at = elim (cases_lt at (length ns)) [
  | inl h ↦ ap (λ b. cond b (slice_get ns at) None) (lt-ltb at (length ns) h)
  | inr h ↦ ap (λ b. cond b (slice_get ns at) None) (le-ltb at (length ns) h) ∙ sym (slice_get_past ns at h)
]

pub rule-here : (s : Source) (nodes : List Node) (p : ℕ) (k : Ruled) → Some k ≡ ruled_of (node_in (length nodes) nodes p) → rule_in s (raw_at s p nodes) (slice_get nodes p) ≡ rule_of (look_of s k.keyword) (look_of s k.name) (params_at (length s.tokens) (look_of s) k.params) (optional_at (length s.tokens) (look_of s) Needs k.needs) (optional_at (length s.tokens) (look_of s) Gives k.gives) (raw_at s p nodes k.body) ∷ []
rule-here s nodes p k e = rule-some s nodes p (slice_get nodes p) k (e ∙ ap ruled_of (node-any nodes p))

pub rule-not : (s : Source) (nodes : List Node) (p : ℕ) → None ≡ ruled_of (node_in (length nodes) nodes p) → rule_in s (raw_at s p nodes) (slice_get nodes p) ≡ []
rule-not s nodes p e = rule-none s nodes p (slice_get nodes p) (e ∙ ap ruled_of (node-any nodes p))
