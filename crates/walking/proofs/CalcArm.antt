-- A numeral, and a sum, difference or product: inferred as the definition says.
use Rattle.std.proofs.Common.{◌≡◌, ℕ, suc, ◌<◌, ◌≤◌, List, [], ◌++◌, Some, Ok, Err, Result, Option, pos, refl, ap, ◌∙◌, subst, ap₂, inr, arith}
use Rattle.std.specs.List.{slice_get}
use Rattle.language.specs.declared.operator.Operator.{Operator}
use Rattle.language.specs.declared.refusal.Refusal.{Refusal}
use Rattle.language.specs.declared.term.Term.{Term}
use Rattle.language.specs.Terms.{constant, limited, term_at, worked}
use Rattle.language.specs.Tree as Tree
use Rattle.language.specs.Tree.{Expr, Rule, Site, place_of}
use Rattle.language.specs.Walking.{Got, infer, walk, finish, or_fresh, obligations_of, first_fault}
use Rattle.language.proofs.Laws.{fault-first}
use Rattle.records.specs.declared.node.Node.TheVariants.{Num, Name, Calc}
use Rattle.records.specs.Standing.{Listed, Stands}
use Rattle.records.specs.Standing as Standing
use Rattle.walking.specs.declared.walker.Walker.{Walker}
use Rattle.walking.specs.Inferring.{Inferring, Inferred, Pairing}
use Rattle.walking.specs.Stepping.{Finding, Finds, Sure, scope_of, stand_of}
use Rattle.walking.proofs.Ends.{ends-or, ends-or-not, found-stands, found-node}
use Rattle.walking.proofs.Noting.{or-notes}
use Rattle.walking.proofs.Parting.{tables_of}
use Rattle.walking.proofs.Stepping.{step-wider, step-quiet, kept-none, node-stays}

module _ (R : List Rule) (w : Walker) (lo at : ℕ) where
  -- a numeral and a name
  pub num-inferred : (p n : ℕ) (r : Result Term Refusal) (z : Walker) → slice_get (tables_of w).nodes.entries at ≡ Some (Num p n) → lo ≤ at → Finds r (or_fresh p (limited (constant (pos n))) (stand_of w) []) w z → Inferred r (walk R infer (scope_of w) (stand_of w) (Tree.num p n)) lo at w z
  unfolding walk finish
  num-inferred p n (Ok t) z e l f = record { term = f.term; step = f.step lo at; tree = Standing.num (found-node t _ w z f at _ e) l }
  num-inferred p n (Err r) z e l f = f

  pub name-inferred : (p i : ℕ) (t : Term) → Sure w → slice_get (tables_of w).nodes.entries at ≡ Some (Name p i) → lo ≤ at → t ≡ term_at (scope_of w).names i → Inferring t (walk R infer (scope_of w) (stand_of w) (Tree.name p i)) lo at w w
  unfolding walk finish first_fault obligations_of
  name-inferred p i t s e l f = record { term = f; step = step-quiet lo at [] (stand_of w) w w refl (kept-none w s) refl refl refl; tree = Standing.name e l }

  -- a sum, difference or product
  module _ (p a b : ℕ) (o : Operator) (x y : Expr) where
    abbrev g : Got
    g = walk R infer (scope_of w) (stand_of w) x

    abbrev h : Got
    h = walk R infer (scope_of w) g.stand y

    pub calc-not : (r : Refusal) → first_fault ((walk R infer (scope_of w) (stand_of w) x).notes ++ (walk R infer (scope_of w) (walk R infer (scope_of w) (stand_of w) x).stand y).notes) ≡ Some r → first_fault (walk R infer (scope_of w) (stand_of w) (Tree.calc p o x y)).notes ≡ Some r
    unfolding walk finish
    calc-not r n = ap first_fault (or-notes p h.stand (worked o g.term h.term) (g.notes ++ h.notes)) ∙ fault-first (g.notes ++ h.notes) _ r n

    pub calc-inferred : (r : Result Term Refusal) (t u : Term) (v z : Walker) → slice_get (tables_of w).nodes.entries at ≡ Some (Calc p o a b) → a < at → b < at → Pairing t u (walk R infer (scope_of w) (stand_of w) x) (walk R infer (scope_of w) (walk R infer (scope_of w) (stand_of w) x).stand y) lo a b w v
        → Finds r (or_fresh p (worked o t u) (stand_of v) []) v z → Inferred r (walk R infer (scope_of w) (stand_of w) (Tree.calc p o x y)) lo at w z
    unfolding walk finish
    calc-inferred (Ok q) t u v z e ha hb i f =
        let d = subst (λ (k : Option Term). Finding q (or_fresh p k (stand_of v) []) v z) (ap₂ (worked o) i.left i.right) f in
        let s = step-wider lo at lo b (g.notes ++ h.notes) h.stand w v (omega arith) (omega arith) i.step in
        let k = ends-or lo at w v z (g.notes ++ h.notes) h.stand q s p (worked o g.term h.term) d in record {
          term = k.0;
          step = k.1;
          tree =
              Standing.calc (found-node q _ v z d at _ (node-stays lo b _ _ w v i.step at _ (inr hb) e)) ha hb
              (found-stands q _ v z d lo a g.tree i.left_tree) (found-stands q _ v z d (suc a) b h.tree i.right_tree);
        }
    calc-inferred (Err r) t u v z e ha hb i f =
        let d = subst (λ (k : Option Term). first_fault (or_fresh p k (stand_of v) []).notes ≡ Some r) (ap₂ (worked o) i.left i.right) f in
        ends-or-not lo at w v z (g.notes ++ h.notes) h.stand t (step-wider lo at lo b (g.notes ++ h.notes) h.stand w v (omega arith) (omega arith) i.step) p (worked o g.term h.term) r d
