-- A node is read from its parts.
use Rattle.std.proofs.Common.{◌≡◌, ℕ, zero, suc, ◌<◌, ◌≤◌, Bool, true, false, cond, ltb, List, length, get_or, Some, None, Option, sym, refl, ap, ◌∙◌, arith, ltb-true, le-ltb, lt-ltb}
use Rattle.std.proofs.lemmas.Option.{slice_get-get_or, slice_get_past}
use Rattle.std.specs.List.{slice_get}
use Rattle.records.specs.declared.node.Node.{Node}
use Rattle.records.specs.Trees.{Reader, Part, no_part, grown, node_in, fuelled, part_in}

pub node_at : (ns : List Node) (top at : ℕ) (d : Node) → at < top → at < length ns → Some (get_or ns at d) ≡ node_in top ns at
node_at ns top at d h k = sym (ap (λ b. cond b (slice_get ns at) None) (lt-ltb at top h) ∙ slice_get-get_or ns at d k)

pub node-above : (ns : List Node) (top at : ℕ) → top ≤ at → None ≡ node_in top ns at
node-above ns top at h = sym (ap (λ b. cond b (slice_get ns at) None) (le-ltb at top h))

pub node-past : (ns : List Node) (top at : ℕ) → length ns ≤ at → None ≡ node_in top ns at
node-past ns top at h = go (ltb at top)
  where
    go : (b : Bool) → None ≡ cond b (slice_get ns at) None
    go true = sym (slice_get_past ns at h)
    go false = refl

module _ (cs : Reader) where
  grown-same : (f g : ℕ → Part) → ((q : ℕ) → f q ≡ g q) → (o : Option Node) → grown cs f o ≡ grown cs g o
  grown-same f g h o = ap (λ (part : ℕ → Part). grown cs part o) (λ i q. h q i)

  same-below : (f g : ℕ → Part) (p : ℕ) → ((q : ℕ) → q < p → f q ≡ g q) → (q : ℕ) → cond (ltb q p) (f q) no_part ≡ cond (ltb q p) (g q) no_part
  same-below f g p h q = go (ltb q p) refl
    where
      go : (b : Bool) → ltb q p ≡ b → cond b (f q) no_part ≡ cond b (g q) no_part
      go true e = h q (ltb-true q p e)
      go false e = refl

  -- enough fuel is as good as more
  stable : (f g : ℕ) (ns : List Node) (p : ℕ) → p < f → p < g → fuelled cs f ns p ≡ fuelled cs g ns p
  unfolding fuelled
  stable zero g ns p h k = absurd (omega arith)
  stable (suc f) zero ns p h k = absurd (omega arith)
  stable (suc f) (suc g) ns p h k = grown-same _ _ (same-below (fuelled cs f ns) (fuelled cs g ns) p (λ q l. stable f g ns q (omega arith) (omega arith))) (slice_get ns p)

  pub step : (top : ℕ) (ns : List Node) (at : ℕ) → part_in cs top ns at ≡ grown cs (part_in cs at ns) (node_in top ns at)
  unfolding part_in fuelled
  step top ns at = go (ltb at top)
    where
      go : (b : Bool) → cond b (fuelled cs (suc at) ns at) no_part ≡ grown cs (part_in cs at ns) (cond b (slice_get ns at) None)
      go true = grown-same _ _ (same-below (fuelled cs at ns) (λ q. fuelled cs (suc q) ns q) at (λ q l. stable at (suc q) ns q l (omega arith))) (slice_get ns at)
      go false = refl

  -- the same, where the node is known
  pub step-at : (top : ℕ) (ns : List Node) (at : ℕ) (o : Option Node) → o ≡ node_in top ns at → part_in cs top ns at ≡ grown cs (part_in cs at ns) o
  step-at top ns at o e = step top ns at ∙ ap (grown cs (part_in cs at ns)) (sym e)
