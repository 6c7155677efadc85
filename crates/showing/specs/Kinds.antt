-- Some of the kinds of tokens, and how they are written in words: `a name, a numeral or "("`.
use Rattle.std.specs.Prelude.{ℕ, Bool, false, cond, List, [], ◌∷◌, ◌++◌, codes, count_by, ◌==◌, slice_index_or}
use Rattle.letters.specs.declared.kind.Kind.{Kind}
use Rattle.letters.specs.declared.kind.Kind.TheVariants.{Name, Numeral, End}
use Rattle.letters.specs.Every.{kinds}
use Rattle.letters.specs.Kinds.{number, word, same_kind}
use Rattle.showing.specs.declared.kinds.Kinds.{Kinds}

-- a kind is among these
abbrev pub among : Kinds → Kind → Bool
among ks k = slice_index_or ks.flags (number k) false

-- a kind in words: a keyword or a sign as it is written, in quotes
abbrev pub kind_text : Kind → List ℕ
kind_text k = cond (same_kind k Name) (codes "a name") (cond (same_kind k Numeral) (codes "a numeral") (cond (same_kind k End) (codes "the end of the text") (codes "\"" ++ (word k ++ codes "\""))))

-- what stands after a kind, where so many follow
abbrev pub joint : ℕ → List ℕ
joint n = cond (n == 0) [] (cond (n == 1) (codes " or ") (codes ", "))

-- those of the list that are meant, in words
unfoldable pub listed : (Kind → Bool) → List Kind → List ℕ
listed p [] = []
listed p (k ∷ ks) = cond (p k) (kind_text k ++ (joint (count_by p ks) ++ listed p ks)) (listed p ks)

abbrev pub kinds_text : Kinds → List ℕ
kinds_text ks = listed (among ks) kinds
