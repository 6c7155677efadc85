-- The trees that nodes stand for stay as nodes are added.
use Rattle.std.proofs.Common.{◌≡◌, ℕ, zero, suc, ◌<◌, ◌≤◌, Bool, true, false, cond, ltb, List, [], ◌∷◌, ◌++◌, length, Some, None, Option, sym, refl, ap, ◌∙◌, ap₂, add-one, arith, ltb-true, lt-ltb}
use Rattle.std.proofs.lemmas.List.{length_push}
use Rattle.std.specs.List.{slice_get}
use Rattle.grammar.specs.declared.node.Node.{Node}
use Rattle.grammar.specs.Raw.{Expr}
use Rattle.grammar.specs.Trees.{Source, Part, no_part, grown, fuelled, part_in, raw_at, rule_in, rules_to}

nth-front : {X : Type 0} (xs ys : List X) (i : ℕ) → i < length xs → slice_get (xs ++ ys) i ≡ slice_get xs i
nth-front [] ys i h = absurd (omega arith)
nth-front (x ∷ xs) ys zero h = refl
nth-front (x ∷ xs) ys (suc i) h = nth-front xs ys i (omega arith)

nth_end : {X : Type 0} (xs : List X) (x : X) → slice_get (xs ++ x ∷ []) (length xs) ≡ Some x
nth_end [] x = refl
nth_end (y ∷ xs) x = nth_end xs x

module _ (s : Source) where
  grown-same : (f g : ℕ → Part) → ((q : ℕ) → f q ≡ g q) → (o : Option Node) → grown s f o ≡ grown s g o
  grown-same f g h o = ap (λ (part : ℕ → Part). grown s part o) (λ i q. h q i)

  same-below : (f g : ℕ → Part) (p : ℕ) → ((q : ℕ) → q < p → f q ≡ g q) → (q : ℕ) → cond (ltb q p) (f q) no_part ≡ cond (ltb q p) (g q) no_part
  same-below f g p h q = go (ltb q p) refl
    where
      go : (b : Bool) → ltb q p ≡ b → cond b (f q) no_part ≡ cond b (g q) no_part
      go true e = h q (ltb-true q p e)
      go false e = refl

  -- enough fuel is as good as more
  stable : (f g : ℕ) (ns : List Node) (p : ℕ) → p < f → p < g → fuelled s f ns p ≡ fuelled s g ns p
  unfolding fuelled
  stable zero g ns p h k = absurd (omega arith)
  stable (suc f) zero ns p h k = absurd (omega arith)
  stable (suc f) (suc g) ns p h k = grown-same _ _ (same-below (fuelled s f ns) (fuelled s g ns) p (λ q l. stable f g ns q (omega arith) (omega arith))) (slice_get ns p)

  -- a node is read from its parts
  pub step : (top : ℕ) (ns : List Node) (at : ℕ) → part_in s top ns at ≡ grown s (part_in s at ns) (cond (ltb at top) (slice_get ns at) None)
  unfolding part_in fuelled
  step top ns at = go (ltb at top)
    where
      go : (b : Bool) → cond b (fuelled s (suc at) ns at) no_part ≡ grown s (part_in s at ns) (cond b (slice_get ns at) None)
      go true = grown-same _ _ (same-below (fuelled s at ns) (λ q. fuelled s (suc q) ns q) at (λ q l. stable at (suc q) ns q l (omega arith))) (slice_get ns at)
      go false = refl

  fuelled-front : (f : ℕ) (ns ms : List Node) (p : ℕ) → p < length ns → fuelled s f (ns ++ ms) p ≡ fuelled s f ns p
  unfolding fuelled
  fuelled-front zero ns ms p h = refl
  fuelled-front (suc f) ns ms p h =
      grown-same _ _ (same-below (fuelled s f (ns ++ ms)) (fuelled s f ns) p (λ q l. fuelled-front f ns ms q (omega arith))) (slice_get (ns ++ ms) p)
      ∙ ap (grown s (λ q. cond (ltb q p) (fuelled s f ns q) no_part)) (nth-front ns ms p h)

  front : (w : ℕ) (ns ms : List Node) → w ≤ length ns → (q : ℕ) → part_in s w (ns ++ ms) q ≡ part_in s w ns q
  unfolding part_in
  front w ns ms h q = go (ltb q w) refl
    where
      go : (b : Bool) → ltb q w ≡ b → cond b (fuelled s (suc q) (ns ++ ms) q) no_part ≡ cond b (fuelled s (suc q) ns q) no_part
      go true e = fuelled-front (suc q) ns ms q (let l = ltb-true q w e in omega arith)
      go false e = refl

  below : (w : ℕ) (ns : List Node) (q : ℕ) → q < w → part_in s w ns q ≡ fuelled s (suc q) ns q
  unfolding part_in
  below w ns q h = ap (λ b. cond b (fuelled s (suc q) ns q) no_part) (lt-ltb q w h)

  -- what stands stays
  pub kept : (ns ms : List Node) (q : ℕ) → q < length ns → q < length (ns ++ ms) → part_in s (length (ns ++ ms)) (ns ++ ms) q ≡ part_in s (length ns) ns q
  kept ns ms q h k = below (length (ns ++ ms)) (ns ++ ms) q k ∙ fuelled-front (suc q) ns ms q h ∙ sym (below (length ns) ns q h)

  -- a node at the end is read from the parts before it
  pub made : (ns : List Node) (n : Node) → part_in s (length (ns ++ n ∷ [])) (ns ++ n ∷ []) (length ns) ≡ grown s (part_in s (length ns) ns) (Some n)
  made ns n =
      let l : length ns < length (ns ++ n ∷ []) = omega (arith, length_push ns n) in
      step (length (ns ++ n ∷ [])) (ns ++ n ∷ []) (length ns)
      ∙ ap (λ b. grown s (part_in s (length ns) (ns ++ n ∷ [])) (cond b (slice_get (ns ++ n ∷ []) (length ns)) None)) (lt-ltb (length ns) (length (ns ++ n ∷ [])) l)
      ∙ ap (grown s (part_in s (length ns) (ns ++ n ∷ []))) (nth_end ns n)
      ∙ grown-same _ _ (front (length ns) ns (n ∷ []) (omega arith)) (Some n)

  rule-same : (f g : ℕ → Expr) → ((q : ℕ) → f q ≡ g q) → (o : Option Node) → rule_in s f o ≡ rule_in s g o
  rule-same f g h o = ap (λ (body : ℕ → Expr). rule_in s body o) (λ i q. h q i)

  pub rules-front : (k : ℕ) (ns ms : List Node) → k ≤ length ns → rules_to s k (ns ++ ms) ≡ rules_to s k ns
  unfolding rules_to
  rules-front zero ns ms h = refl
  rules-front (suc k) ns ms h =
      ap₂ ◌++◌ (rules-front k ns ms (omega arith))
      (rule-same (raw_at s k (ns ++ ms)) (raw_at s k ns) (λ q. ap (λ (p : Part). p.expr) (front k ns ms (omega arith) q)) (slice_get (ns ++ ms) k)
      ∙ ap (rule_in s (raw_at s k ns)) (nth-front ns ms k (omega arith)))

  rules-more : (k : ℕ) (ns : List Node) → rules_to s (suc k) ns ≡ rules_to s k ns ++ rule_in s (raw_at s k ns) (slice_get ns k)
  unfolding rules_to
  rules-more k ns = refl

  pub rules-made : (ns : List Node) (n : Node) → rules_to s (length (ns ++ n ∷ [])) (ns ++ n ∷ []) ≡ rules_to s (length ns) ns ++ rule_in s (raw_at s (length ns) ns) (Some n)
  rules-made ns n =
      ap (λ k. rules_to s k (ns ++ n ∷ [])) (length_push ns n ∙ add-one (length ns))
      ∙ rules-more (length ns) (ns ++ n ∷ [])
      ∙ ap₂ ◌++◌ (rules-front (length ns) ns (n ∷ []) (omega arith))
      (rule-same (raw_at s (length ns) (ns ++ n ∷ [])) (raw_at s (length ns) ns) (λ q. ap (λ (p : Part). p.expr) (front (length ns) ns (n ∷ []) (omega arith) q)) (slice_get (ns ++ n ∷ []) (length ns))
      ∙ ap (rule_in s (raw_at s (length ns) ns)) (nth_end ns n))
