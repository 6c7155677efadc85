use Rattle.std.proofs.Common.{◌≡◌, ◌++◌, drop, string_bytes, count_by}
use Rattle.letters.specs.Every.{kinds}
use Rattle.showing.specs.Kinds.{among, listed, kinds_text}
use Rattle.showing.proofs.words.kinds_text.Given as goal

abbrev pub invariant-loop-kind : goal.invariant-loop-kind
invariant-loop-kind l = (l.left ≡ count_by (among l.kinds) (drop l.kind-index kinds)) × (string_bytes l.text ++ listed (among l.kinds) (drop l.kind-index kinds) ≡ kinds_text l.kinds)
