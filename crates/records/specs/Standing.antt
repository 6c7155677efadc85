-- Trees that stand in tables. What stands still stands when tables grow.
use Rattle.std.specs.Prelude.{◌≡◌, ℕ, suc, ◌<◌, ◌≤◌, List, ◌++◌, length, Some}
use Rattle.std.specs.List.{AllByRecursion, slice_get}
use Rattle.language.specs.declared.operator.Operator.{Operator}
use Rattle.language.specs.declared.comparison.Comparison.{Comparison}
use Rattle.language.specs.Tree as Tree
use Rattle.language.specs.Tree.{Expr, Args, Site}
use Rattle.records.specs.declared.node.Node.TheVariants.{Num, Name, Calc, Read, Call, Bind, Test, Put, Claim, End, Value, Lent}
use Rattle.records.specs.declared.condition.Condition.{Condition}
use Rattle.records.specs.declared.stretch.Stretch.{Stretch}
use Rattle.records.specs.Tables.{Tables, stretch, conditions_in}

-- the right side of a condition begins where the left side ends, and both end among so many items
pub record SidesIn (n : ℕ) (c : Condition) : Type 0 where
  pub joined : c.left.to ≡ c.right.from
  pub left : c.left.to ≤ n
  pub right : c.right.to ≤ n

-- these conditions lie in their table from one position up to another
pub record Listed (t : Tables) (from to : ℕ) (cs : List Tree.Condition) : Type 0 where
  pub within : to ≤ length t.conditions
  pub sides : AllByRecursion (SidesIn (length t.items)) (stretch t.conditions from to)
  pub reads : conditions_in t.items t.conditions from to ≡ cs

mutual
  -- this expression stands at the second position, and its nodes lie from the first on; each part has a stretch of positions of its own, so no two parts share a node
  pub data Stands (t : Tables) : ℕ → ℕ → Expr → Type 0 where
    num : {lo at p n : ℕ} → slice_get t.nodes at ≡ Some (Num p n) → lo ≤ at → Stands t lo at (Tree.num p n)
    name : {lo at p i : ℕ} → slice_get t.nodes at ≡ Some (Name p i) → lo ≤ at → Stands t lo at (Tree.name p i)
    calc : {lo at p a b : ℕ} {o : Operator} {x y : Expr} → slice_get t.nodes at ≡ Some (Calc p o a b) → a < at → b < at → Stands t lo a x → Stands t (suc a) b y → Stands t lo at (Tree.calc p o x y)
    read : {lo at a : ℕ} {s : Site} {x : Expr} → slice_get t.nodes at ≡ Some (Read s.place s.number s.list a) → a < at → Stands t lo a x → Stands t lo at (Tree.read s x)
    call : {lo at p f a : ℕ} {xs : Args} → slice_get t.nodes at ≡ Some (Call p f a) → a < at → ArgsStand t lo a xs → Stands t lo at (Tree.call p f xs)
    bind : {lo at p a b : ℕ} {x y : Expr} → slice_get t.nodes at ≡ Some (Bind p a b) → a < at → b < at → Stands t lo a x → Stands t (suc a) b y → Stands t lo at (Tree.bind p x y)
    test : {lo at p a b d e : ℕ} {c : Comparison} {x y u v : Expr} → slice_get t.nodes at ≡ Some (Test p c a b d e) → a < at → b < at → d < at → e < at → Stands t lo a x → Stands t (suc a) b y → Stands t (suc b) d u → Stands t (suc d) e v → Stands t lo at (Tree.test p c x y u v)
    put : {lo at p a b e : ℕ} {s : Site} {x y u : Expr} → slice_get t.nodes at ≡ Some (Put p s.place s.number s.list a b e) → a < at → b < at → e < at → Stands t lo a x → Stands t (suc a) b y → Stands t (suc b) e u → Stands t lo at (Tree.put p s x y u)
    claim : {lo at p a : ℕ} {s : Stretch} {x : Expr} {cs : List Tree.Condition} → slice_get t.nodes at ≡ Some (Claim p a s) → a < at → Stands t lo a x → Listed t s.from s.to cs → Stands t lo at (Tree.claim p x cs)

  -- these arguments do, the rest of them before the first, since they are put in from the last
  pub data ArgsStand (t : Tables) : ℕ → ℕ → Args → Type 0 where
    end : {lo at : ℕ} → slice_get t.nodes at ≡ Some End → lo ≤ at → ArgsStand t lo at Tree.end
    value : {lo at a b : ℕ} {x : Expr} {xs : Args} → slice_get t.nodes at ≡ Some (Value a b) → a < at → b < at → ArgsStand t lo b xs → Stands t (suc b) a x → ArgsStand t lo at (Tree.value x xs)
    lent : {lo at l b : ℕ} {xs : Args} → slice_get t.nodes at ≡ Some (Lent l b) → b < at → ArgsStand t lo b xs → ArgsStand t lo at (Tree.lent l xs)

-- entries were added to the tables
pub record Grows (s t : Tables) : Type 0 where
  pub nodes : (more : List _) × (t.nodes ≡ s.nodes ++ more)
  pub conditions : (more : List _) × (t.conditions ≡ s.conditions ++ more)
  pub items : (more : List _) × (t.items ≡ s.items ++ more)
