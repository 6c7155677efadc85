-- Whether arguments are what parameters ask for, one after another.
use Rattle.std.proofs.Common.{◌≡◌, ℕ, Bool, false, List, [], ◌∷◌, Some, None, sym, ap, ◌∙◌, subst}
use Rattle.std.proofs.lemmas.Option.{none-some, same_Some}
use Rattle.std.specs.List.{slice_get}
use Rattle.language.specs.Tree as Tree
use Rattle.language.specs.Tree.{Args, shape}
use Rattle.language.specs.Walking.{same_params}
use Rattle.records.specs.declared.entry.Param.{Param}
use Rattle.records.specs.declared.entry.Param.TheVariants as Params
use Rattle.records.specs.Tables.{Tables, param_of}
use Rattle.records.specs.Standing.{ArgsStand, end, value, lent}
use Rattle.walking.specs.Calling.{after, is_end}

module _ (t : Tables) (answer : Bool) where
  -- arguments stand at a position, and the answer is whether they are what is left of the parameters
  pub record Shaping (at : ℕ) (ps : List Tree.Param) : Type 0 where
    pub low : ℕ
    pub args : Args
    pub stand : ArgsStand t low at args
    pub same : answer ≡ same_params (shape args) ps

  pub shaping_turn : (at rest : ℕ) (p : Param) (ps : List Tree.Param) → Shaping at (param_of p ∷ ps) → Some rest ≡ after (slice_get t.nodes at) p → Shaping rest ps
  unfolding same_params shape
  shaping_turn at rest p ps s e = go s.low s.args p s.stand s.same e
    where
      next : (lo b : ℕ) (xs : Args) → ArgsStand t lo b xs → answer ≡ same_params (shape xs) ps → Some rest ≡ Some b → Shaping rest ps
      next lo b xs x q e = record { low = lo; args = xs; stand = subst (λ n. ArgsStand t lo n xs) (sym (same_Some rest b e)) x; same = q }

      go : (lo : ℕ) (es : Args) (p : Param) → ArgsStand t lo at es → answer ≡ same_params (shape es) (param_of p ∷ ps) → Some rest ≡ after (slice_get t.nodes at) p → Shaping rest ps
      go lo es Params.Number (end h l) q e = absurd (none-some rest (sym (e ∙ ap (λ o. after o Params.Number) h)))
      go lo es Params.List (end h l) q e = absurd (none-some rest (sym (e ∙ ap (λ o. after o Params.List) h)))
      go lo es Params.Number (value h a b x y) q e = next lo _ _ x q (e ∙ ap (λ o. after o Params.Number) h)
      go lo es Params.List (value h a b x y) q e = absurd (none-some rest (sym (e ∙ ap (λ o. after o Params.List) h)))
      go lo es Params.Number (lent h b x) q e = absurd (none-some rest (sym (e ∙ ap (λ o. after o Params.Number) h)))
      go lo es Params.List (lent h b x) q e = next lo _ _ x q (e ∙ ap (λ o. after o Params.List) h)

  pub shaping-stop : (at : ℕ) (p : Param) (ps : List Tree.Param) → Shaping at (param_of p ∷ ps) → None ≡ after (slice_get t.nodes at) p → false ≡ answer
  unfolding same_params shape
  shaping-stop at p ps s e = go s.low s.args p s.stand s.same e
    where
      go : (lo : ℕ) (es : Args) (p : Param) → ArgsStand t lo at es → answer ≡ same_params (shape es) (param_of p ∷ ps) → None ≡ after (slice_get t.nodes at) p → false ≡ answer
      go lo es p (end h l) q e = sym q
      go lo es Params.Number (value h a b x y) q e = absurd (none-some _ (e ∙ ap (λ o. after o Params.Number) h))
      go lo es Params.List (value h a b x y) q e = sym q
      go lo es Params.Number (lent h b x) q e = sym q
      go lo es Params.List (lent h b x) q e = absurd (none-some _ (e ∙ ap (λ o. after o Params.List) h))

  pub shaping-end : (at : ℕ) → Shaping at [] → is_end (slice_get t.nodes at) ≡ answer
  unfolding same_params shape
  shaping-end at s = go s.low s.args s.stand s.same
    where
      go : (lo : ℕ) (es : Args) → ArgsStand t lo at es → answer ≡ same_params (shape es) [] → is_end (slice_get t.nodes at) ≡ answer
      go lo es (end h l) q = ap is_end h ∙ sym q
      go lo es (value h a b x y) q = ap is_end h ∙ sym q
      go lo es (lent h b x) q = ap is_end h ∙ sym q
