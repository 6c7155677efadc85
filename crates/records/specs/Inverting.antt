-- What an expression or arguments are by the node at their position: its parts stand where the node says.
use Rattle.std.specs.Prelude.{◌≡◌, ℕ, suc, ◌<◌, ◌≤◌, List, Some}
use Rattle.std.specs.List.{slice_get}
use Rattle.language.specs.declared.operator.Operator.{Operator}
use Rattle.language.specs.declared.comparison.Comparison.{Comparison}
use Rattle.language.specs.Tree as Tree
use Rattle.language.specs.Tree.{Expr, Args, Rule}
use Rattle.records.specs.declared.node.Node.{Node}
use Rattle.records.specs.declared.node.Node.TheVariants.{Blank, Num, Name, Calc, Read, Call, Bind, Test, Put, Claim, End, Value, Lent}
use Rattle.records.specs.declared.entry.Param.{Param}
use Rattle.records.specs.declared.entry.Entry.{Entry}
use Rattle.records.specs.declared.stretch.Stretch.{Stretch}
use Rattle.records.specs.Tables.{Tables}
use Rattle.records.specs.Standing.{Listed, Stands, ArgsStand}
use Rattle.records.specs.Rules.{RuleStands}

pub record NumStands (lo p n at : ℕ) (e : Expr) : Type 0 where
  pub is : e ≡ Tree.num p n
  pub low : lo ≤ at

pub record NameStands (lo p i at : ℕ) (e : Expr) : Type 0 where
  pub is : e ≡ Tree.name p i
  pub low : lo ≤ at

pub record CalcStands (t : Tables) (lo p : ℕ) (o : Operator) (a b at : ℕ) (e : Expr) : Type 0 where
  pub left : Expr
  pub right : Expr
  pub is : e ≡ Tree.calc p o left right
  pub left_below : a < at
  pub right_below : b < at
  pub left_stands : Stands t lo a left
  pub right_stands : Stands t (suc a) b right

pub record ReadStands (t : Tables) (lo p n l a at : ℕ) (e : Expr) : Type 0 where
  pub index : Expr
  pub is : e ≡ Tree.read (record { place = p; number = n; list = l }) index
  pub index_below : a < at
  pub index_stands : Stands t lo a index

pub record CallStands (t : Tables) (lo p f a at : ℕ) (e : Expr) : Type 0 where
  pub args : Args
  pub is : e ≡ Tree.call p f args
  pub args_below : a < at
  pub args_stand : ArgsStand t lo a args

pub record BindStands (t : Tables) (lo p a b at : ℕ) (e : Expr) : Type 0 where
  pub bound : Expr
  pub body : Expr
  pub is : e ≡ Tree.bind p bound body
  pub bound_below : a < at
  pub body_below : b < at
  pub bound_stands : Stands t lo a bound
  pub body_stands : Stands t (suc a) b body

pub record TestStands (t : Tables) (lo p : ℕ) (c : Comparison) (a b d f at : ℕ) (e : Expr) : Type 0 where
  pub left : Expr
  pub right : Expr
  pub met : Expr
  pub unmet : Expr
  pub is : e ≡ Tree.test p c left right met unmet
  pub left_below : a < at
  pub right_below : b < at
  pub met_below : d < at
  pub unmet_below : f < at
  pub left_stands : Stands t lo a left
  pub right_stands : Stands t (suc a) b right
  pub met_stands : Stands t (suc b) d met
  pub unmet_stands : Stands t (suc d) f unmet

pub record PutStands (t : Tables) (lo p q n l a b f at : ℕ) (e : Expr) : Type 0 where
  pub index : Expr
  pub given : Expr
  pub rest : Expr
  pub is : e ≡ Tree.put p (record { place = q; number = n; list = l }) index given rest
  pub index_below : a < at
  pub given_below : b < at
  pub rest_below : f < at
  pub index_stands : Stands t lo a index
  pub given_stands : Stands t (suc a) b given
  pub rest_stands : Stands t (suc b) f rest

pub record ClaimStands (t : Tables) (lo p a : ℕ) (s : Stretch) (at : ℕ) (e : Expr) : Type 0 where
  pub claimed : Expr
  pub conditions : List Tree.Condition
  pub is : e ≡ Tree.claim p claimed conditions
  pub claimed_below : a < at
  pub claimed_stands : Stands t lo a claimed
  pub listed : Listed t s.from s.to conditions

pub record EndStands (lo at : ℕ) (xs : Args) : Type 0 where
  pub is : xs ≡ Tree.end
  pub low : lo ≤ at

pub record ValueStands (t : Tables) (lo a b at : ℕ) (xs : Args) : Type 0 where
  pub argument : Expr
  pub rest : Args
  pub is : xs ≡ Tree.value argument rest
  pub argument_below : a < at
  pub rest_below : b < at
  pub rest_stand : ArgsStand t lo b rest
  pub argument_stands : Stands t (suc b) a argument

pub record LentStands (t : Tables) (lo l b at : ℕ) (xs : Args) : Type 0 where
  pub rest : Args
  pub is : xs ≡ Tree.lent l rest
  pub rest_below : b < at
  pub rest_stand : ArgsStand t lo b rest

-- an expression whose node is this one
abbrev pub ExprAs : Tables → ℕ → ℕ → Expr → Node → Type 0
ExprAs t lo at e Blank = ⊥
ExprAs t lo at e (Num p n) = NumStands lo p n at e
ExprAs t lo at e (Name p i) = NameStands lo p i at e
ExprAs t lo at e (Calc p o a b) = CalcStands t lo p o a b at e
ExprAs t lo at e (Read p n l a) = ReadStands t lo p n l a at e
ExprAs t lo at e (Call p f a) = CallStands t lo p f a at e
ExprAs t lo at e (Bind p a b) = BindStands t lo p a b at e
ExprAs t lo at e (Test p c a b d f) = TestStands t lo p c a b d f at e
ExprAs t lo at e (Put p q n l a b f) = PutStands t lo p q n l a b f at e
ExprAs t lo at e (Claim p a s) = ClaimStands t lo p a s at e
ExprAs t lo at e End = ⊥
ExprAs t lo at e (Value a b) = ⊥
ExprAs t lo at e (Lent l b) = ⊥

-- arguments whose node is this one
abbrev pub ArgsAs : Tables → ℕ → ℕ → Args → Node → Type 0
ArgsAs t lo at xs Blank = ⊥
ArgsAs t lo at xs (Num p n) = ⊥
ArgsAs t lo at xs (Name p i) = ⊥
ArgsAs t lo at xs (Calc p o a b) = ⊥
ArgsAs t lo at xs (Read p n l a) = ⊥
ArgsAs t lo at xs (Call p f a) = ⊥
ArgsAs t lo at xs (Bind p a b) = ⊥
ArgsAs t lo at xs (Test p c a b d f) = ⊥
ArgsAs t lo at xs (Put p q n l a b f) = ⊥
ArgsAs t lo at xs (Claim p a s) = ⊥
ArgsAs t lo at xs End = EndStands lo at xs
ArgsAs t lo at xs (Value a b) = ValueStands t lo a b at xs
ArgsAs t lo at xs (Lent l b) = LentStands t lo l b at xs

-- the rule with this number is that of this entry
pub record RuleOf (t : Tables) (ps : List Param) (lo : ℕ) (rs : List Rule) (f : ℕ) (e : Entry) : Type 0 where
  pub rule : Rule
  pub is : slice_get rs f ≡ Some rule
  pub from : ℕ
  pub low : lo ≤ from
  pub stands : RuleStands t ps from e rule
