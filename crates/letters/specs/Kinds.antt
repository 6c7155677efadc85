-- The kinds of tokens: their numbers, and how keywords and signs are written.
use Rattle.std.specs.Prelude.{ℕ, Bool, cond, List, [], ◌∷◌, codes, ◌==◌}
use Rattle.std.specs.Str.{bytes_eq}
use Rattle.letters.specs.declared.kind.Kind.{Kind}
use Rattle.letters.specs.declared.kind.Kind.TheVariants.{Name, Numeral, End, Open, Close, OpenSquare, CloseSquare, Comma, Semicolon, Plus, Minus, Times, Less, AtMost, Equal, Unequal, Becomes, Rule, Needs, Gives, Let, In, If, Then, Else, Put, As, TheResult}

abbrev pub number : Kind → ℕ
number Name = 0
number Numeral = 1
number End = 2
number Open = 3
number Close = 4
number OpenSquare = 5
number CloseSquare = 6
number Comma = 7
number Semicolon = 8
number Plus = 9
number Minus = 10
number Times = 11
number Less = 12
number AtMost = 13
number Equal = 14
number Unequal = 15
number Becomes = 16
number Rule = 17
number Needs = 18
number Gives = 19
number Let = 20
number In = 21
number If = 22
number Then = 23
number Else = 24
number Put = 25
number As = 26
number TheResult = 27

-- the bytes of a keyword or a sign; a name, a numeral and the end have none of their own
abbrev pub word : Kind → List ℕ
word Name = []
word Numeral = []
word End = []
word Open = codes "("
word Close = codes ")"
word OpenSquare = codes "["
word CloseSquare = codes "]"
word Comma = codes ","
word Semicolon = codes ";"
word Plus = codes "+"
word Minus = codes "-"
word Times = codes "*"
word Less = codes "<"
word AtMost = codes "<="
word Equal = codes "="
word Unequal = codes "!="
word Becomes = codes ":="
word Rule = codes "rule"
word Needs = codes "needs"
word Gives = codes "gives"
word Let = codes "let"
word In = codes "in"
word If = codes "if"
word Then = codes "then"
word Else = codes "else"
word Put = codes "put"
word As = codes "as"
word TheResult = codes "result"

abbrev pub keywords : List Kind
keywords = Rule ∷ Needs ∷ Gives ∷ Let ∷ In ∷ If ∷ Then ∷ Else ∷ Put ∷ As ∷ TheResult ∷ []

-- the first of these kinds that is written so, or a name
unfoldable pub written_so : List ℕ → List Kind → Kind
written_so w [] = Name
written_so w (k ∷ ks) = cond (bytes_eq (word k) w) k (written_so w ks)

abbrev pub keyword_of : List ℕ → Kind
keyword_of w = written_so w keywords

unfoldable pub same_kind : Kind → Kind → Bool
same_kind j k = number j == number k
