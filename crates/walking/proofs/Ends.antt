-- Steps at the end of others: a term is found, or a list is touched.
use Rattle.std.proofs.Common.{◌≡◌, ℕ, suc, ◌<◌, ◌≤◌, List, [], ◌++◌, length, Some, Option, sym, refl, ap, ◌∙◌, subst, ap₂, inl, arith}
use Rattle.std.specs.List.{slice_get}
use Rattle.language.specs.declared.refusal.Refusal.{Refusal}
use Rattle.language.specs.declared.term.Term.{Term}
use Rattle.language.specs.Tree as Tree
use Rattle.language.specs.Tree.{Expr, Rule, Site, place_of}
use Rattle.language.specs.Walking.{Note, Stand, Found, Owing, owe_checks, counted, fresh, fresh_with, or_fresh, first_fault}
use Rattle.language.proofs.Laws.{fault-next}
use Rattle.records.specs.declared.node.Node.{Node}
use Rattle.records.specs.Columns.{tables_by}
use Rattle.records.specs.Laying.{owed_of}
use Rattle.records.specs.Standing.{Stands}
use Rattle.records.proofs.Replacing.{set_here}
use Rattle.walking.specs.declared.walker.Walker.{Walker}
use Rattle.walking.specs.Owing.{checks}
use Rattle.walking.specs.Stepping.{Step, Finding, Touching, stand_of, facts_of}
use Rattle.walking.proofs.Noting.{fresh-notes, or-notes, or-term, or-stand, with-notes, with-term, with-stand}
use Rattle.walking.proofs.Parting.{tables_of}
use Rattle.walking.proofs.Stepping.{step-then, step-wider, stays, node-stays}

-- a term that is found at the end, after these notes
module _ (lo at : ℕ) (w v z : Walker) (ns : List Note) (s : Stand) (t : Term) (p : Step lo at ns s w v) where
  pub ends-fresh : (place : ℕ) → Finding t (fresh place (stand_of v) []) v z → (t ≡ (fresh place s ns).term) × Step lo at (fresh place s ns).notes (fresh place s ns).stand w z
  unfolding fresh
  ends-fresh place f =
      let d = subst (λ (r : Stand). Finding t (fresh place r []) v z) p.stand f in
      (d.term, step-then lo at ns _ s _ w v z p (d.step lo at))

  pub ends-or : (place : ℕ) (o : Option Term) → Finding t (or_fresh place o (stand_of v) []) v z → (t ≡ (or_fresh place o s ns).term) × Step lo at (or_fresh place o s ns).notes (or_fresh place o s ns).stand w z
  ends-or place o f =
      let d = subst (λ (r : Stand). Finding t (or_fresh place o r []) v z) p.stand f in (
        d.term ∙ sym (or-term place s o ns),
        subst (λ ms. Step lo at ms (or_fresh place o s ns).stand w z) (sym (or-notes place s o ns))
            (subst (λ r. Step lo at (ns ++ (or_fresh place o s []).notes) r w z) (sym (or-stand place s o ns)) (step-then lo at ns _ s _ w v z p (d.step lo at))),
      )

  pub ends-with : (place : ℕ) (ts : List Term) (cs : List Tree.Condition) → Finding t (fresh_with place ts cs (stand_of v) []) v z → (t ≡ (fresh_with place ts cs s ns).term) × Step lo at (fresh_with place ts cs s ns).notes (fresh_with place ts cs s ns).stand w z
  ends-with place ts cs f =
      let d = subst (λ (r : Stand). Finding t (fresh_with place ts cs r []) v z) p.stand f in (
        d.term ∙ sym (with-term place s ts cs ns),
        subst (λ ms. Step lo at ms (fresh_with place ts cs s ns).stand w z) (sym (with-notes place s ts cs ns))
            (subst (λ r. Step lo at (ns ++ (fresh_with place ts cs s []).notes) r w z) (sym (with-stand place s ts cs ns)) (step-then lo at ns _ s _ w v z p (d.step lo at))),
      )

  -- what refuses at the end refuses the whole
  pub ends-fresh-not : (place : ℕ) (r : Refusal) → first_fault (fresh place (stand_of v) []).notes ≡ Some r → first_fault (fresh place s ns).notes ≡ Some r
  ends-fresh-not place r e = ap first_fault (fresh-notes place s ns) ∙ fault-next ns _ p.faultless ∙ subst (λ (q : Stand). first_fault (fresh place q []).notes ≡ Some r) p.stand e

  pub ends-or-not : (place : ℕ) (o : Option Term) (r : Refusal) → first_fault (or_fresh place o (stand_of v) []).notes ≡ Some r → first_fault (or_fresh place o s ns).notes ≡ Some r
  ends-or-not place o r e = ap first_fault (or-notes place s o ns) ∙ fault-next ns _ p.faultless ∙ subst (λ (q : Stand). first_fault (or_fresh place o q []).notes ≡ Some r) p.stand e

  pub ends-with-not : (place : ℕ) (ts : List Term) (cs : List Tree.Condition) (r : Refusal) → first_fault (fresh_with place ts cs (stand_of v) []).notes ≡ Some r → first_fault (fresh_with place ts cs s ns).notes ≡ Some r
  ends-with-not place ts cs r e = ap first_fault (with-notes place s ts cs ns) ∙ fault-next ns _ p.faultless ∙ subst (λ (q : Stand). first_fault (fresh_with place ts cs q []).notes ≡ Some r) p.stand e

-- trees and nodes stay where a term is found
module _ (t : Term) (f : Found) (v z : Walker) (b : Finding t f v z) where
  pub found-stands : (lo at : ℕ) (e : Expr) → Stands (tables_by (tables_of v)) lo at e → Stands (tables_by (tables_of z)) lo at e
  found-stands lo at e p = stays (suc at) (suc at) _ _ v z (b.step (suc at) (suc at)) lo at e (inl (omega arith)) p

  pub found-node : (at : ℕ) (n : Node) → slice_get (tables_of v).nodes.entries at ≡ Some n → slice_get (tables_of z).nodes.entries at ≡ Some n
  found-node at n p = node-stays (suc at) (suc at) _ _ v z (b.step (suc at) (suc at)) at n (inl (omega arith)) p

-- the checks of an index are the definition's
checks-are : (site : Site) (work : ℕ) (s : Stand) (index size : Term) → owe_checks site work s index size ≡ checks site.place work s.facts s.count index size
unfolding owe_checks
checks-are site work s index size = refl

-- a list is touched after other steps: the checks are owed and the node is numbered
module _ (lo at : ℕ) (w v : Walker) (ns : List Note) (s : Stand) (site : Site) (work : ℕ) (t : Term) (size : Term) (p : Step lo at ns s w v) where
  owing-is : checks site.place work (facts_of v) (owed_of v.debts.now.tables.now) t size ≡ owe_checks site work s t size
  owing-is = ap₂ (λ fs n. checks site.place work fs n t size) (ap (λ (r : Stand). r.facts) p.stand) (ap (λ (r : Stand). r.count) p.stand) ∙ sym (checks-are site work s t size)

  pub touch-not : (r : Refusal) → first_fault (checks site.place work (facts_of v) (owed_of v.debts.now.tables.now) t size).notes ≡ Some r → first_fault (ns ++ (owe_checks site work s t size).notes) ≡ Some r
  touch-not r e = fault-next ns _ p.faultless ∙ ap (λ (o : Owing). first_fault o.notes) (sym owing-is) ∙ e

  module _ (x : Walker) (node : Node) (i : Touching at node (checks site.place work (facts_of v) (owed_of v.debts.now.tables.now) t size) v x) where
    pub touch-step : lo ≤ at → Step lo at (ns ++ (owe_checks site work s t size).notes) (counted s (owe_checks site work s t size).count) w x
    touch-step l =
        step-then lo at ns _ s _ w v x p
        (step-wider lo at at at _ _ v x l (omega arith)
        (subst (λ (r : Stand). Step at at (owe_checks site work s t size).notes (counted r (owe_checks site work s t size).count) v x) p.stand
        (subst (λ (o : Owing). Step at at o.notes (counted (stand_of v) o.count) v x) owing-is i.step)))

    pub touch-node : at < length (tables_of v).nodes.entries → slice_get (tables_of x).nodes.entries at ≡ Some node
    touch-node h = ap (λ ns. slice_get ns at) i.nodes ∙ set_here (tables_of v).nodes.entries at node h

    pub touch-stands : (l a : ℕ) (e : Expr) → a < at → Stands (tables_by (tables_of v)) l a e → Stands (tables_by (tables_of x)) l a e
    touch-stands l a e h q = stays at at _ _ v x i.step l a e (inl h) q
