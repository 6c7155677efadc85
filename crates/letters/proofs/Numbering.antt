-- Kinds are told apart by their numbers.
use Rattle.std.proofs.Common.{◌≡◌, get_or, Decides, sym, refl, ap, ◌∙◌}
use Rattle.std.proofs.lemmas.Bool.{eqb-true, eq-eqb}
use Rattle.letters.specs.declared.kind.Kind.{Kind}
use Rattle.letters.specs.declared.kind.Kind.TheVariants.{Name, Numeral, End, Open, Close, OpenSquare, CloseSquare, Comma, Semicolon, Plus, Minus, Times, Less, AtMost, Equal, Unequal, Becomes, Rule, Needs, Gives, Let, In, If, Then, Else, Put, As, TheResult}
use Rattle.letters.specs.Every.{kinds}
use Rattle.letters.specs.Kinds.{number, same_kind}

pub numbered : (k : Kind) → get_or kinds (number k) Name ≡ k
unfolding kinds
numbered Name = refl
numbered Numeral = refl
numbered End = refl
numbered Open = refl
numbered Close = refl
numbered OpenSquare = refl
numbered CloseSquare = refl
numbered Comma = refl
numbered Semicolon = refl
numbered Plus = refl
numbered Minus = refl
numbered Times = refl
numbered Less = refl
numbered AtMost = refl
numbered Equal = refl
numbered Unequal = refl
numbered Becomes = refl
numbered Rule = refl
numbered Needs = refl
numbered Gives = refl
numbered Let = refl
numbered In = refl
numbered If = refl
numbered Then = refl
numbered Else = refl
numbered Put = refl
numbered As = refl
numbered TheResult = refl

pub same-kind-decides : (j k : Kind) → Decides (same_kind j k) (j ≡ k)
unfolding same_kind
same-kind-decides j k = (λ e. sym (numbered j) ∙ ap (λ n. get_or kinds n Name) (eqb-true (number j) (number k) e) ∙ numbered k, λ e. eq-eqb (number j) (number k) (ap number e))
