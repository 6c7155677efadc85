-- What a sheet's tokens and nodes stand for.
use Rattle.std.specs.Prelude.{ℕ, cond, List, length, take, None, Option, nat_lt}
use Rattle.std.specs.List.{slice_get}
use Rattle.letters.specs.declared.token.Token.{Token}
use Rattle.grammar.specs.declared.node.Node.{Node}
use Rattle.grammar.specs.Raw as Raw
use Rattle.grammar.specs.Trees.{Source, rules_to}
use Rattle.naming.specs.declared.written.Written.{Written}

abbrev pub source_of : Written → Source
source_of w = record { tokens = w.tokens.now; end = length w.text.now }

-- the node at a position, if that lies below top
abbrev pub node_in : ℕ → List Node → ℕ → Option Node
node_in top ns at = cond (nat_lt at top) (slice_get ns at) None

-- the rules of the sheet
abbrev pub rules_of : Written → Raw.Sheet
rules_of w = rules_to (source_of w) (length w.nodes.now) w.nodes.now

-- the rules that nodes stand for; no text has more tokens or nodes than bytes
abbrev pub sheet_in : List ℕ → List Token → List Node → Raw.Sheet
sheet_in text tokens nodes = rules_to (record { tokens = take 16384 tokens; end = length text }) (length (take 16384 nodes)) (take 16384 nodes)
