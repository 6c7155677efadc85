-- Farkas' lemma, the way that is needed: multipliers that meet the condition show that the goal follows.
use Rattle.std.specs.Prelude.{◌≡◌, ℕ, true, List, [], ◌∷◌, ℤ, pos, ◌+ℤ◌, ◌-ℤ◌, ◌*ℤ◌, neg_ℤ, ◌≤ℤ◌}
use Rattle.std.proofs.Math.Path.{sym, ap₂}
use Rattle.std.proofs.Common.{ap, subst, ◌∙◌, arith}
use Rattle.std.proofs.Math.IntN.{zero-*ℤ}
use Rattle.std.specs.Int.Signed.{≤ℤ_refl}
use Rattle.std.proofs.lemmas.Int.{ints, by_lt_z}
use Rattle.std.proofs.lemmas.Bool.{and_parts, eqb-true}
use Rattle.ints.proofs.Products.{mul_mono}
use Rattle.ints.proofs.Sums.{at, at_sum, at-times, at-neg, at-zeros, at_none}
use Rattle.rows.specs.declared.row.Row.{Row}
use Rattle.rows.specs.declared.row.Kind.{Kind}
use Rattle.rows.specs.declared.row.Kind.TheVariants.{AtMost, Unequal}
use Rattle.rows.specs.Meaning.{coef, value, Holds, MeetsAll, Follows, Assignment}
use Rattle.rows.specs.Questions.{well_shaped}
use Rattle.rows.proofs.Shapes.{at-most-is}
use Rattle.domains.specs.declared.fault.Reason.TheVariants.{Shape, Number, Kind as OfKind, Sum}
use Rattle.domains.specs.declared.linear.Column.TheVariants.{Coef}
use Rattle.domains.specs.Faults.{Good}
use Rattle.domains.specs.Linear.{weigh, total, numbers, kind_ok, kinds, fitting, sums, linear}
use Rattle.domains.specs.Outcomes.{good-parts}

module _ (q : Assignment) where
  -- the weighted sum of the rows' values is the value of the weighted columns
  weigh-at : (ms : List ℕ) (rs : List Row) (last : ℕ → ℤ) (n : ℕ) → weigh ms rs (λ r. at q (coef r) n) (at q last n) ≡ at q (λ j. weigh ms rs (λ r. coef r j) (last j)) n
  unfolding weigh
  weigh-at [] rs last n = sym (at_none q n)
  weigh-at (m ∷ ms) [] last n = sym (at-times q m last n)
  weigh-at (m ∷ ms) (r ∷ rs) last n =
      ap₂ (λ x y. x +ℤ y) (sym (at-times q m (coef r) n)) (weigh-at ms rs last n) ∙ sym (at_sum q (λ j. pos m *ℤ coef r j) (λ j. weigh ms rs (λ s. coef s j) (last j)) n)

  weighted : (m : ℕ) (k : Kind) (v b : ℤ) → kind_ok m k ≡ true → Holds k v b → (pos m *ℤ v) ≤ℤ (pos m *ℤ b)
  weighted m AtMost v b e h = mul_mono m v b h
  weighted m Unequal v b e h =
      let z = eqb-true m 0 e in
      let s = ap (λ n. pos n *ℤ v) z ∙ zero-*ℤ v in
      let t = ap (λ n. pos n *ℤ b) z ∙ zero-*ℤ b in
      omega (arith, ints)

  weigh-mono : (ms : List ℕ) (rs : List Row) (v b : ℤ) → kinds ms rs ≡ true → MeetsAll q rs → v ≤ℤ b → weigh ms rs (λ r. value r q) v ≤ℤ weigh ms rs (λ r. r.bound) b
  unfolding weigh kinds
  weigh-mono [] rs v b k h le = ≤ℤ_refl (pos 0)
  weigh-mono (m ∷ ms) [] v b k h le = mul_mono m v b le
  weigh-mono (m ∷ ms) (r ∷ rs) v b k h le =
      let p = and_parts _ _ k in
      let e = weigh-mono ms rs v b p.1 h.1 le in
      let d = weighted m r.kind (value r q) r.bound p.0 h.0 in
      omega (arith, ints)

  farkas : (facts : List Row) (goal : Row) (cert : List ℕ) → kinds cert facts ≡ true → sums facts goal cert ≡ true → MeetsAll q facts → value goal q ≤ℤ goal.bound
  farkas facts goal cert k s h =
      let p = and_parts _ _ s in
      by_lt_z goal.bound (value goal q)
      (λ over.
      let denied : neg_ℤ (value goal q) ≤ℤ (neg_ℤ goal.bound -ℤ pos 1) = omega (arith, ints) in
      let le = weigh-mono cert facts (neg_ℤ (value goal q)) (neg_ℤ goal.bound -ℤ pos 1) k h denied in
      let e = ap (λ z. weigh cert facts (λ r. value r q) z) (sym (at-neg q (coef goal) 16)) ∙ weigh-at cert facts (λ j. neg_ℤ (coef goal j)) 16 ∙ at-zeros q (λ j. total facts goal cert (Coef j)) 16 p.0 in
      let b = p.1 in
      omega (arith, ints))
      (λ le. le)

pub linear-sound : (low high : ℤ) (facts : List Row) (goal : Row) (cert : List ℕ) → Good (linear facts goal cert) → Follows low high facts goal
linear-sound low high facts goal cert g =
    let p = good-parts (fitting facts goal cert) _ Shape g in
    let n = good-parts (numbers cert) _ Number p.1 in
    let k = good-parts (kinds cert facts) _ OfKind n.1 in
    let s = good-parts (sums facts goal cert) _ Sum k.1 in
    let a = at-most-is goal.kind (and_parts _ _ (and_parts (well_shaped facts goal) _ p.0).0).1 in
    record { follows = λ q w h. let F : Kind → Type 0 = λ kind. Holds kind (value goal q) goal.bound in subst F (sym a) (farkas q facts goal cert k.0 s.0 h) }
