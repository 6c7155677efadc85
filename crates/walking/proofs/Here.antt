-- What stands at the node at hand, and what is known of the walker there.
use Rattle.std.proofs.Common.{◌≡◌, ℕ, ◌≤◌, List, ◌++◌, length, take, Some, Option, Ok, Err, IfOk, Result, sym, ap, ◌∙◌, subst, ap₂, arith}
use Rattle.std.proofs.lemmas.List.{take-append-le, take_all}
use Rattle.std.specs.List.{slice_get}
use Rattle.language.specs.declared.refusal.Refusal.{Refusal}
use Rattle.language.specs.declared.term.Term.{Term}
use Rattle.language.specs.Tree as Tree
use Rattle.language.specs.Tree.{Rule}
use Rattle.language.specs.Walking.{Note, Stand, Got, check}
use Rattle.pile.specs.Entries.{entries}
use Rattle.records.specs.declared.laid.Laid.{Laid}
use Rattle.records.specs.declared.node.Node.{Node}
use Rattle.records.specs.declared.stretch.Stretch.{Stretch}
use Rattle.records.specs.Columns.{Columns}
use Rattle.records.specs.Laying.{columns_of}
use Rattle.walking.specs.declared.walker.Promise.{Promise}
use Rattle.walking.specs.declared.walker.Walker.{Walker}
use Rattle.walking.specs.Inferring.{HeadsIn, Inferring, Checking, listed_in, mode_of}
use Rattle.walking.specs.Stepping.{Kept, Step, Fallen}
use Rattle.walking.proofs.Parting.{tables_of}
use Rattle.walking.proofs.Stepping.{kept-then}

-- the node that was looked up
pub here : (ns : List Node) (at : ℕ) (o : Option Node) (n m : Node) → o ≡ slice_get ns at → o ≡ Some n → n ≡ m → slice_get ns at ≡ Some m
here ns at o n m e f g = sym e ∙ f ∙ ap Some g

pub as-checking : (t : Term) (g : Got) (lo at : ℕ) (w v : Walker) → Inferring t g lo at w v → Checking g lo at w v
as-checking t g lo at w v i = record { step = i.step; tree = i.tree }

pub if-kept : {T : Type 0} → (r : Result T Refusal) (w v z : Walker) → Kept w v → IfOk r (λ t. Kept v z) → IfOk r (λ t. Kept w z)
if-kept (Ok t) w v z a b = kept-then w v z a b
if-kept (Err e) w v z a b = tt

pub heads-with : (R : List Rule) (w v : Walker) → v.debts.now.tables.now ≡ w.debts.now.tables.now → HeadsIn (tables_of w) R → HeadsIn (tables_of v) R
heads-with R w v e h = subst (λ (t : Laid). HeadsIn (columns_of t) R) (sym e) h

-- the conditions of a stretch stay
pub listed-stay : (l h : ℕ) (ns : List Note) (s : Stand) (w v : Walker) (c : Stretch) → Step l h ns s w v → listed_in (tables_of v) c ≡ listed_in (tables_of w) c
listed-stay l h ns s w v c p = ap (λ (q : Columns). listed_in q c) p.columns.rest

-- the mode of a promise, while its names are in force
module _ (p : Promise) (w v : Walker) (few : p.names ≤ length (entries w.names.now)) where
  pub mode-stays : (xs : List Term) → entries v.names.now ≡ entries w.names.now ++ xs → listed_in (tables_of v) p.conditions ≡ listed_in (tables_of w) p.conditions → mode_of p v ≡ mode_of p w
  mode-stays xs e f = ap₂ check (ap (take p.names) e ∙ take-append-le p.names (entries w.names.now) xs few) f

-- a promise that sees all names in force
pub mode-whole : (n : ℕ) (c : Stretch) (w : Walker) (cs : List Tree.Condition) → n ≡ length (entries w.names.now) → listed_in (tables_of w) c ≡ cs → mode_of (record { names = n; conditions = c }) w ≡ check (entries w.names.now) cs
mode-whole n c w cs e f = ap₂ check (ap (λ k. take k (entries w.names.now)) e ∙ take_all (length (entries w.names.now)) (entries w.names.now) (omega arith)) f

-- what fell back to a mark fell back to before
pub fell : (a b n m : ℕ) (v f : Walker) → a ≡ n → b ≡ m → Fallen a b v f → Fallen n m v f
fell a b n m v f e g x = subst (λ k. Fallen n k v f) g (subst (λ k. Fallen k b v f) e x)
