-- Nodes one by one: arguments, bare names, brackets and rules.
use Rattle.std.specs.Prelude.{ℕ, Bool, true, false, cond, List, [], ◌∷◌, length, Some, None, Option}
use Rattle.letters.specs.declared.token.Token.{Token}
use Rattle.letters.specs.Tokens.{same_name}
use Rattle.grammar.specs.declared.node.Node.{Node}
use Rattle.grammar.specs.declared.node.Node.TheVariants.{Blank, Num, Name, Calc, Read, Call, Bind, Test, Put, Claim, Nest, NoArgs, Arg, Rule}
use Rattle.grammar.specs.Raw as Raw
use Rattle.grammar.specs.Parsers.{Look}
use Rattle.grammar.specs.Stretches.{params_at}
use Rattle.grammar.specs.Trees.{look_of}
use Rattle.naming.specs.declared.taken.Last.{Last}
use Rattle.naming.specs.declared.taken.Ruled.{Ruled}
use Rattle.naming.specs.declared.written.Written.{Written}
use Rattle.naming.specs.Least.{merged}
use Rattle.naming.specs.Sources.{source_of}

abbrev pub last_of : Option Node → Option Last
last_of None = None
last_of (Some Blank) = None
last_of (Some (Num t)) = None
last_of (Some (Name t)) = None
last_of (Some (Calc t a b)) = None
last_of (Some (Read t a)) = None
last_of (Some (Call t xs)) = None
last_of (Some (Bind t n a b)) = None
last_of (Some (Test t c a b d e)) = None
last_of (Some (Put t n a b c)) = None
last_of (Some (Claim t c a)) = None
last_of (Some (Nest t a)) = None
last_of (Some NoArgs) = None
last_of (Some (Arg xs a)) = Some (record { before = xs; last = a })
last_of (Some (Rule t m ps n g b)) = None

-- the token of a bare name
abbrev pub name_of : Option Node → Option ℕ
name_of None = None
name_of (Some Blank) = None
name_of (Some (Num t)) = None
name_of (Some (Name t)) = Some t
name_of (Some (Calc t a b)) = None
name_of (Some (Read t a)) = None
name_of (Some (Call t xs)) = None
name_of (Some (Bind t n a b)) = None
name_of (Some (Test t c a b d e)) = None
name_of (Some (Put t n a b c)) = None
name_of (Some (Claim t c a)) = None
name_of (Some (Nest t a)) = None
name_of (Some NoArgs) = None
name_of (Some (Arg xs a)) = None
name_of (Some (Rule t m ps n g b)) = None

-- what is in brackets
abbrev pub inner_of : Option Node → Option ℕ
inner_of None = None
inner_of (Some Blank) = None
inner_of (Some (Num t)) = None
inner_of (Some (Name t)) = None
inner_of (Some (Calc t a b)) = None
inner_of (Some (Read t a)) = None
inner_of (Some (Call t xs)) = None
inner_of (Some (Bind t n a b)) = None
inner_of (Some (Test t c a b d e)) = None
inner_of (Some (Put t n a b c)) = None
inner_of (Some (Claim t c a)) = None
inner_of (Some (Nest t a)) = Some a
inner_of (Some NoArgs) = None
inner_of (Some (Arg xs a)) = None
inner_of (Some (Rule t m ps n g b)) = None

-- the place of a node's own token
abbrev pub own_place : Look → Option Node → ℕ
own_place l None = 0
own_place l (Some Blank) = 0
own_place l (Some (Num t)) = (l t).place
own_place l (Some (Name t)) = (l t).place
own_place l (Some (Calc t a b)) = (l t).place
own_place l (Some (Read t a)) = (l t).place
own_place l (Some (Call t xs)) = (l t).place
own_place l (Some (Bind t n a b)) = (l t).place
own_place l (Some (Test t c a b d e)) = (l t).place
own_place l (Some (Put t n a b c)) = (l t).place
own_place l (Some (Claim t c a)) = (l t).place
own_place l (Some (Nest t a)) = (l t).place
own_place l (Some NoArgs) = 0
own_place l (Some (Arg xs a)) = 0
own_place l (Some (Rule t m ps n g b)) = 0

-- the parts of a rule
abbrev pub ruled_of : Option Node → Option Ruled
ruled_of None = None
ruled_of (Some Blank) = None
ruled_of (Some (Num t)) = None
ruled_of (Some (Name t)) = None
ruled_of (Some (Calc t a b)) = None
ruled_of (Some (Read t a)) = None
ruled_of (Some (Call t a)) = None
ruled_of (Some (Bind t n a b)) = None
ruled_of (Some (Test t c a b d e)) = None
ruled_of (Some (Put t n a b d)) = None
ruled_of (Some (Claim t c a)) = None
ruled_of (Some (Nest t a)) = None
ruled_of (Some NoArgs) = None
ruled_of (Some (Arg a b)) = None
ruled_of (Some (Rule t m ps n g b)) = Some (record { keyword = t; name = m; params = ps; needs = n; gives = g; body = b })

-- an argument's fault, where a list is wanted or not, and it is the bare name of one or not
abbrev pub arg_fault : Bool → Bool → ℕ → Option ℕ → Option ℕ
arg_fault false bare place inside = inside
arg_fault true true place inside = None
arg_fault true false place inside = merged (Some place) inside

-- the parameters of the first rule that is named so
unfoldable pub named : List ℕ → List Raw.Rule → Token → Option (List Raw.Param)
named text [] t = None
named text (r ∷ rs) t = cond (same_name text r.name t) (Some r.params) (named text rs t)

-- the parameters that begin at a position
abbrev pub head_at : Written → Option ℕ → Option (List Raw.Param)
head_at w None = None
head_at w (Some ps) = Some (params_at (length w.tokens.now) (look_of (source_of w)) ps)

-- the faults of a call, by where the parameters begin of a rule that takes so many
abbrev pub called : Written → Option ℕ → Token → (List Raw.Param → List ℕ) → List ℕ
called w None t inside = t.place ∷ []
called w (Some ps) t inside = inside (params_at (length w.tokens.now) (look_of (source_of w)) ps)
