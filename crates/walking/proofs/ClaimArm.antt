-- An as: its expression is checked against its conditions, all falls back, and they are facts of the next quantity.
use Rattle.std.proofs.Common.{◌≡◌, ℕ, ◌<◌, ◌≤◌, List, [], length, Some, Ok, Err, Result, pos, ap, ◌∙◌, inr, arith}
use Rattle.std.specs.List.{slice_get}
use Rattle.language.specs.declared.refusal.Refusal.{Refusal}
use Rattle.language.specs.declared.term.Term.{Term}
use Rattle.language.specs.Terms.{constant}
use Rattle.language.specs.Tree as Tree
use Rattle.language.specs.Tree.{Expr, Rule, Site, place_of}
use Rattle.language.specs.Walking.{Got, infer, check, walk, finish, counted, fresh_with, first_fault}
use Rattle.language.proofs.Laws.{fault-first}
use Rattle.records.specs.declared.node.Node.TheVariants.{Claim}
use Rattle.records.specs.declared.stretch.Stretch.{Stretch}
use Rattle.records.specs.Columns.{Columns, tables_by}
use Rattle.records.specs.Standing.{Listed, Stands}
use Rattle.records.specs.Standing as Standing
use Rattle.records.proofs.Framing.{listed_framed}
use Rattle.walking.specs.declared.walker.Walker.{Walker}
use Rattle.walking.specs.Inferring.{Inferred, Checking}
use Rattle.walking.specs.Stepping.{Finds, Fallen, scope_of, stand_of, facts_of}
use Rattle.walking.proofs.Ends.{ends-with, ends-with-not, found-stands, found-node}
use Rattle.walking.proofs.Noting.{with-notes}
use Rattle.walking.proofs.Parting.{tables_of, fallen-step, fallen-stands}
use Rattle.walking.proofs.Stepping.{step-wider, node-stays}

module _ (R : List Rule) (w : Walker) (lo at p a : ℕ) (l : Stretch) (x : Expr) (cs : List Tree.Condition) where
  abbrev g : Got
  g = walk R (check (scope_of w).names cs) (scope_of w) (stand_of w) x

  pub claim-not : (r : Refusal) → first_fault g.notes ≡ Some r → first_fault (walk R infer (scope_of w) (stand_of w) (Tree.claim p x cs)).notes ≡ Some r
  unfolding walk finish
  claim-not r n = ap first_fault (with-notes p (counted (stand_of w) g.stand.count) (scope_of w).names cs g.notes) ∙ fault-first g.notes _ r n

  pub claim-inferred : (r : Result Term Refusal) (v f z : Walker) → slice_get (tables_of w).nodes.entries at ≡ Some (Claim p a l) → a < at → lo ≤ at → Listed (tables_by (tables_of w)) l.from l.to cs
      → Checking g lo a w v → Fallen (length (facts_of w)) w.next v f → Finds r (fresh_with p (scope_of w).names cs (stand_of f) []) f z → Inferred r (walk R infer (scope_of w) (stand_of w) (Tree.claim p x cs)) lo at w z
  unfolding walk finish
  claim-inferred (Ok q) v f z e ha hl li k b j =
      let s = fallen-step w v f b lo a g.notes g.stand k.step in
      let d = ends-with lo at w f z g.notes (counted (stand_of w) g.stand.count) q (step-wider lo at lo a _ _ w f (omega arith) (omega arith) s) p (scope_of w).names cs j in
      let st = (j.step at at).columns.rest in record {
        term = d.0;
        step = d.1;
        tree =
            Standing.claim (found-node q _ f z j at _ (node-stays lo a _ _ w f s at _ (inr ha) e)) ha
            (found-stands q _ f z j lo a g.tree (fallen-stands w v f b lo a g.tree k.tree))
            (listed_framed (tables_by (tables_of w)) (tables_by (tables_of z)) (ap (λ (c : Columns). c.conditions.entries) d.1.columns.rest) (ap (λ (c : Columns). c.items.entries) d.1.columns.rest) l.from l.to cs li);
      }
  claim-inferred (Err r) v f z e ha hl li k b j =
      let s = fallen-step w v f b lo a g.notes g.stand k.step in
      ends-with-not lo at w f z g.notes (counted (stand_of w) g.stand.count) (constant (pos 0)) (step-wider lo at lo a _ _ w f (omega arith) (omega arith) s) p (scope_of w).names cs r j
