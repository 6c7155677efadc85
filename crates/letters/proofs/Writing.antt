-- The keyword that letters write.
use Rattle.std.proofs.Common.{Some, ◌≡◌, ℕ, Bool, true, false, cond, ◌⊎◌, List, [], ◌∷◌, sym, refl, inl, inr}
use Rattle.std.proofs.lemmas.Slice.Eq.{bytes_eq-Decides}
use Rattle.std.specs.Str.{bytes_eq}
use Rattle.std.specs.List.{find}
use Rattle.std.specs.Option.{unwrap_or}
use Rattle.letters.specs.declared.kind.Kind.{Kind}
use Rattle.letters.specs.declared.kind.Kind.TheVariants.{Name}
use Rattle.letters.specs.Kinds.{word, written_so}

pub written_found : (w : List ℕ) (ks : List Kind) → written_so w ks ≡ unwrap_or (find (λ k. bytes_eq (word k) w) ks) Name
unfolding written_so
written_found w [] = refl
written_found w (k ∷ ks) = go (bytes_eq (word k) w) (written_found w ks)
  where
    go : (t : Bool) → written_so w ks ≡ unwrap_or (find (λ k. bytes_eq (word k) w) ks) Name → cond t k (written_so w ks) ≡ unwrap_or (cond t (Some k) (find (λ k. bytes_eq (word k) w) ks)) Name
    go true h = refl
    go false h = h

-- a word is a name, or written as its keyword is
pub written_as : (w : List ℕ) (ks : List Kind) → (written_so w ks ≡ Name) ⊎ (w ≡ word (written_so w ks))
unfolding written_so
written_as w [] = inl refl
written_as w (k ∷ ks) = go (bytes_eq (word k) w) refl (written_as w ks)
  where
    go : (t : Bool) → bytes_eq (word k) w ≡ t → (written_so w ks ≡ Name) ⊎ (w ≡ word (written_so w ks)) → (cond t k (written_so w ks) ≡ Name) ⊎ (w ≡ word (cond t k (written_so w ks)))
    go true e h = inr (sym ((bytes_eq-Decides (word k) w).0 e))
    go false e h = h
