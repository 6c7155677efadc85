-- The first place past what a sheet may have: from the tables, and of the tree that lies in them.
use Rattle.std.proofs.Common.{◌≡◌, ℕ, cond, List, Some, sum_by, refl, ap, arith}
use Rattle.grammar.specs.Raw as Raw
use Rattle.language.specs.Tree as Tree
use Rattle.records.specs.declared.node.Node.{Node}
use Rattle.records.specs.declared.node.Node.TheVariants.{Blank, Num, Name, Calc, Read, Call, Bind, Test, Put, Claim, End, Value, Lent}
use Rattle.records.specs.declared.condition.Condition.{Condition}
use Rattle.records.specs.Counting.{node_up_to, nodes_up_to, listed_up_to}
use Rattle.counting.specs.Counts.{is_up_to, expr_place, placed_up_to, sheet_exprs, sheet_conditions, fault_by, count_fault, flat_fault}
use Rattle.counting.proofs.Firsts.{Rising, placed-rises}

node-placed : (q : ℕ) (n : Node) → cond (is_up_to q (expr_place n)) 1 0 ≡ node_up_to q n
node-placed q Blank = refl
node-placed q (Num p n) = refl
node-placed q (Name p i) = refl
node-placed q (Calc p o a b) = refl
node-placed q (Read p n l a) = refl
node-placed q (Call p f xs) = refl
node-placed q (Bind p a b) = refl
node-placed q (Test p c a b d e) = refl
node-placed q (Put p s n l a b e) = refl
node-placed q (Claim p a cs) = refl
node-placed q End = refl
node-placed q (Value a xs) = refl
node-placed q (Lent l xs) = refl

nodes-at : (nodes : List Node) (q : ℕ) → placed_up_to expr_place nodes q ≡ nodes_up_to q nodes
unfolding nodes_up_to
nodes-at nodes q = ap (λ (f : Node → ℕ). sum_by f nodes) (λ i n. node-placed q n i)

conditions-at : (conditions : List Condition) (q : ℕ) → placed_up_to (λ (c : Condition). Some c.place) conditions q ≡ listed_up_to q conditions
unfolding listed_up_to
conditions-at conditions q = refl

pub exprs_placed : (nodes : List Node) → placed_up_to expr_place nodes ≡ (λ q. nodes_up_to q nodes)
exprs_placed nodes = λ i q. nodes-at nodes q i

pub conditions_placed : (conditions : List Condition) → placed_up_to (λ (x : Condition). Some x.place) conditions ≡ (λ q. listed_up_to q conditions)
conditions_placed conditions = λ i q. conditions-at conditions q i

pub nodes-rise : (nodes : List Node) → Rising (λ q. nodes_up_to q nodes)
nodes-rise nodes p q h = omega (arith, placed-rises expr_place nodes p q h, nodes-at nodes p, nodes-at nodes q)

pub conditions-rise : (conditions : List Condition) → Rising (λ q. listed_up_to q conditions)
conditions-rise conditions p q h = omega (arith, placed-rises (λ (c : Condition). Some c.place) conditions p q h, conditions-at conditions p, conditions-at conditions q)

-- for who knows that the tables count as the tree does
pub flat-fault : (bytes : ℕ) (written : List Raw.Rule) (tree : List Tree.Rule) (nodes : List Node) (conditions : List Condition) → ((q : ℕ) → nodes_up_to q nodes ≡ sheet_exprs q tree) → ((q : ℕ) → listed_up_to q conditions ≡ sheet_conditions q tree) → flat_fault bytes written nodes conditions ≡ count_fault bytes written tree
flat-fault bytes written tree nodes conditions exprs listed = λ i. fault_by bytes written (λ q. exprs q i) (λ q. listed q i)
