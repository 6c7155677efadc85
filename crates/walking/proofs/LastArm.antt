-- An expression that is no let, if or put is checked by its term: each row of the conditions is owed of it.
use Rattle.std.proofs.Common.{◌≡◌, ℕ, suc, ◌⊎◌, List, ◌++◌, Some, Ok, Err, Result, sym, refl, ap, ◌∙◌, subst, ap₂, inl, inr, arith}
use Rattle.std.specs.List.{slice_get}
use Rattle.language.specs.declared.operator.Operator.{Operator}
use Rattle.language.specs.declared.refusal.Refusal.{Refusal}
use Rattle.language.specs.declared.term.Term.{Term}
use Rattle.language.specs.Comparing.{conditions_rows}
use Rattle.language.specs.Tree as Tree
use Rattle.language.specs.Tree.{Expr, Rule, Site, place_of}
use Rattle.language.specs.Walking.{Stand, Scope, Got, Owing, infer, check, walk, finish, owe_all, counted, first_fault}
use Rattle.language.proofs.Laws.{fault-first, fault-next}
use Rattle.records.specs.declared.node.Node.{Node}
use Rattle.records.specs.declared.node.Node.TheVariants.{Num, Name, Calc, Read, Call, Claim}
use Rattle.records.specs.declared.stretch.Stretch.{Stretch}
use Rattle.records.specs.Laying.{owed_of}
use Rattle.records.specs.Inverting.{ExprAs}
use Rattle.records.specs.Tables.{Tables}
use Rattle.records.proofs.Inverting.{expr_as}
use Rattle.records.specs.Standing.{Stands}
use Rattle.walking.specs.declared.walker.Walker.{Walker}
use Rattle.walking.specs.Inferring.{Inferring, Checked}
use Rattle.walking.specs.Stepping.{Step, Owed, scope_of, stand_of, facts_of}
use Rattle.walking.proofs.Stepping.{step-then, stays}

-- what is checked, and has no last part
abbrev pub Plain : Expr → Type 0
Plain (Tree.num p n) = Unit {0}
Plain (Tree.name p i) = Unit {0}
Plain (Tree.calc p o a b) = Unit {0}
Plain (Tree.read site e) = Unit {0}
Plain (Tree.call p f es) = Unit {0}
Plain (Tree.bind p a b) = ⊥
Plain (Tree.test p c a b d e) = ⊥
Plain (Tree.put p site a b e) = ⊥
Plain (Tree.claim p e cs) = Unit {0}

-- the rows that are owed of a term that was inferred
abbrev pub owed_of_it : List Term → List Tree.Condition → ℕ → Got → Owing
owed_of_it ts cs p g = owe_all p g.stand.facts g.stand.count (conditions_rows ts g.term cs)

abbrev pub finished : List Term → List Tree.Condition → ℕ → Got → Got
finished ts cs p g = record { term = g.term; stand = counted g.stand (owed_of_it ts cs p g).count; notes = g.notes ++ (owed_of_it ts cs p g).notes; tree = g.tree }

module _ (R : List Rule) (ts : List Term) (cs : List Tree.Condition) (Γ : Scope) (s : Stand) where
  pub finish-plain : (e : Expr) → Plain e → walk R (check ts cs) Γ s e ≡ finished ts cs (place_of e) (walk R infer Γ s e)
  unfolding walk finish
  finish-plain (Tree.num p n) h = refl
  finish-plain (Tree.name p i) h = refl
  finish-plain (Tree.calc p o a b) h = refl
  finish-plain (Tree.read site e) h = refl
  finish-plain (Tree.call p f es) h = refl
  finish-plain (Tree.bind p a b) h = absurd h
  finish-plain (Tree.test p c a b d e) h = absurd h
  finish-plain (Tree.put p site a b e) h = absurd h
  finish-plain (Tree.claim p e ds) h = refl

module _ (R : List Rule) (w : Walker) (lo at : ℕ) (ts : List Term) (cs : List Tree.Condition) (e : Expr) (h : Plain e) where
  abbrev g : Got
  g = walk R infer (scope_of w) (stand_of w) e

  pub last-not : (r : Refusal) → first_fault g.notes ≡ Some r → first_fault (walk R (check ts cs) (scope_of w) (stand_of w) e).notes ≡ Some r
  last-not r n = ap (λ (q : Got). first_fault q.notes) (finish-plain R ts cs (scope_of w) (stand_of w) e h) ∙ fault-first g.notes _ r n

  pub last-checked : (r : Result (Unit {0}) Refusal) (t : Term) (v z : Walker) → Inferring t g lo at w v → Owed r (owe_all (place_of e) (facts_of v) (owed_of v.debts.now.tables.now) (conditions_rows ts t cs)) v z → Checked r (walk R (check ts cs) (scope_of w) (stand_of w) e) lo at w z
  last-checked r t v z i o = subst (λ (q : Got). Checked r q lo at w z) (sym (finish-plain R ts cs (scope_of w) (stand_of w) e h)) (go r (subst (λ (q : Owing). Owed r q v z) owing-is o))
    where
      owing-is : owe_all (place_of e) (facts_of v) (owed_of v.debts.now.tables.now) (conditions_rows ts t cs) ≡ owed_of_it ts cs (place_of e) g
      owing-is =
          ap (λ k. owe_all (place_of e) (facts_of v) (owed_of v.debts.now.tables.now) (conditions_rows ts k cs)) i.term
          ∙ ap₂ (λ fs n. owe_all (place_of e) fs n (conditions_rows ts g.term cs)) (ap (λ (r : Stand). r.facts) i.step.stand) (ap (λ (r : Stand). r.count) i.step.stand)

      go : (r : Result (Unit {0}) Refusal) → Owed r (owed_of_it ts cs (place_of e) g) v z → Checked r (finished ts cs (place_of e) g) lo at w z
      go (Ok u) o =
          let a = subst (λ (s : Stand). Step lo at (owed_of_it ts cs (place_of e) g).notes (counted s (owed_of_it ts cs (place_of e) g).count) v z) i.step.stand (o lo at) in record {
            step = step-then lo at g.notes _ g.stand _ w v z i.step a;
            tree = stays (suc at) (suc at) _ _ v z (o (suc at) (suc at)) lo at g.tree (inl (omega arith)) i.tree;
          }
      go (Err r) o = fault-next g.notes _ i.step.faultless ∙ o

-- an expression whose node is one of these is plain, and its place is the node's
pub record PlainAt (e : Expr) (p : ℕ) : Type 0 where
  pub plain : Plain e
  pub place : p ≡ place_of e

abbrev pub PlainNode : Node → ℕ → Type 0
PlainNode n p =
    ((v : ℕ) × (n ≡ Num p v)) ⊎ (((i : ℕ) × (n ≡ Name p i)) ⊎ (((o : Operator) × (a : ℕ) × (b : ℕ) × (n ≡ Calc p o a b)) ⊎ (((m : ℕ) × (l : ℕ) × (a : ℕ) × (n ≡ Read p m l a))
    ⊎ (((f : ℕ) × (a : ℕ) × (n ≡ Call p f a)) ⊎ ((a : ℕ) × (s : Stretch) × (n ≡ Claim p a s))))))

module _ (t : Tables) (lo at : ℕ) (e : Expr) (p : ℕ) (st : Stands t lo at e) where
  as_node : (n m : Node) → slice_get t.nodes at ≡ Some n → n ≡ m → ExprAs t lo at e m
  as_node n m g f = expr_as t lo at e m st (g ∙ ap Some f)

  plain-is : (d : Expr) → Plain d → p ≡ place_of d → e ≡ d → PlainAt e p
  plain-is d h k f = subst (λ x. PlainAt x p) (sym f) (record { plain = h; place = k })

  pub plain_node : (n : Node) → slice_get t.nodes at ≡ Some n → PlainNode n p → PlainAt e p
  plain_node n g (inl (v, f)) = plain-is _ tt refl (as_node n (Num p v) g f).is
  plain_node n g (inr (inl (i, f))) = plain-is _ tt refl (as_node n (Name p i) g f).is
  plain_node n g (inr (inr (inl (o, a, b, f)))) = plain-is _ tt refl (as_node n (Calc p o a b) g f).is
  plain_node n g (inr (inr (inr (inl (m, l, a, f))))) = plain-is _ tt refl (as_node n (Read p m l a) g f).is
  plain_node n g (inr (inr (inr (inr (inl (f, a, k)))))) = plain-is _ tt refl (as_node n (Call p f a) g k).is
  plain_node n g (inr (inr (inr (inr (inr (a, s, f)))))) = plain-is _ tt refl (as_node n (Claim p a s) g f).is
