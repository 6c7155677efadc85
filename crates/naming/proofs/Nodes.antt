-- The node at a position, and the tree that it stands for.
use Rattle.std.proofs.Common.{◌≡◌, ℕ, ◌<◌, ◌≤◌, Bool, true, false, cond, ltb, List, length, get_or, Some, None, sym, refl, ap, ◌∙◌, le-ltb, lt-ltb}
use Rattle.std.proofs.lemmas.Option.{slice_get-get_or, slice_get_past}
use Rattle.std.specs.List.{slice_get}
use Rattle.grammar.specs.declared.node.Node.{Node}
use Rattle.naming.specs.Sources.{node_in}

pub node_at : (ns : List Node) (top at : ℕ) (d : Node) → at < top → at < length ns → Some (get_or ns at d) ≡ node_in top ns at
node_at ns top at d h k = sym (ap (λ b. cond b (slice_get ns at) None) (lt-ltb at top h) ∙ slice_get-get_or ns at d k)

pub node-above : (ns : List Node) (top at : ℕ) → top ≤ at → None ≡ node_in top ns at
node-above ns top at h = sym (ap (λ b. cond b (slice_get ns at) None) (le-ltb at top h))

pub node-past : (ns : List Node) (top at : ℕ) → length ns ≤ at → None ≡ node_in top ns at
node-past ns top at h = go (ltb at top)
  where
    go : (b : Bool) → None ≡ cond b (slice_get ns at) None
    go true = sym (slice_get_past ns at h)
    go false = refl
