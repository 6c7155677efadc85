-- What `==` of kinds says: their numbers are the same.
use Rattle.std.proofs.Common.{◌≡◌, refl, ap₂, eqb}
use denote.Enum.Bare.{sameb}
use denote.Enum.Declared.{tag_of}
use Rattle.letters.specs.declared.kind.Kind.{Kind}
use Rattle.letters.specs.declared.kind.Kind.TheVariants.{Name, Numeral, End, Open, Close, OpenSquare, CloseSquare, Comma, Semicolon, Plus, Minus, Times, Less, AtMost, Equal, Unequal, Becomes, Rule, Needs, Gives, Let, In, If, Then, Else, Put, As, TheResult}
use Rattle.letters.specs.contracts.kind.Kind.{the_type}
use Rattle.letters.specs.Kinds.{number, same_kind}

-- a kind's number is the position of its variant; with `same_kind` unfolded, `using` this lemma proves what `==` says
pub tagged : (k : Kind) → tag_of the_type k ≡ number k
tagged Name = refl
tagged Numeral = refl
tagged End = refl
tagged Open = refl
tagged Close = refl
tagged OpenSquare = refl
tagged CloseSquare = refl
tagged Comma = refl
tagged Semicolon = refl
tagged Plus = refl
tagged Minus = refl
tagged Times = refl
tagged Less = refl
tagged AtMost = refl
tagged Equal = refl
tagged Unequal = refl
tagged Becomes = refl
tagged Rule = refl
tagged Needs = refl
tagged Gives = refl
tagged Let = refl
tagged In = refl
tagged If = refl
tagged Then = refl
tagged Else = refl
tagged Put = refl
tagged As = refl
tagged TheResult = refl

pub same_is : (j k : Kind) → sameb the_type j k ≡ same_kind j k
unfolding same_kind
same_is j k = ap₂ eqb (tagged j) (tagged k)
