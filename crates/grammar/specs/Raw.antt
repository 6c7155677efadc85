-- The tree of a sheet as it is written: its tokens by the grammar, before any name is looked up.
use Rattle.std.specs.Prelude.{Bool, List, Option}
use Rattle.letters.specs.declared.token.Token.{Token}

-- an item of a side: after a minus or not, a factor if one is written, and a numeral, a name or `result`
pub record Item : Type 0 where
  pub minus : Bool
  pub factor : Option Token
  pub atom : Token

abbrev pub Side : Type 0
Side = List Item

pub record Condition : Type 0 where
  pub left : Side
  pub comparison : Token
  pub right : Side

-- Each expression has the token whose place is its own. `nest` is an expression in brackets, which stands for what is in them.
mutual
  pub data Expr : Type 0 where
    num : Token → Expr
    name : Token → Expr
    calc : Token → Expr → Expr → Expr
    read : Token → Expr → Expr
    call : Token → Args → Expr
    bind : Token → Token → Expr → Expr → Expr
    test : Token → Token → Expr → Expr → Expr → Expr → Expr
    put : Token → Token → Expr → Expr → Expr → Expr
    claim : Token → Expr → List Condition → Expr
    nest : Token → Expr → Expr

  pub data Args : Type 0 where
    none : Args
    more : Args → Expr → Args

-- a number's name, or a list's with that of its length
pub record Param : Type 0 where
  pub name : Token
  pub length : Option Token

pub record Rule : Type 0 where
  pub keyword : Token
  pub name : Token
  pub params : List Param
  pub needs : List Condition
  pub gives : List Condition
  pub body : Expr

abbrev pub Sheet : Type 0
Sheet = List Rule
