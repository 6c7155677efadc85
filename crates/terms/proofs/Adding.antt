-- What one item more comes to, and that a total stays as small as its count says.
use Rattle.std.proofs.Common.{◌≡◌, ℕ, ◌+◌, ◌*◌, ◌<◌, ◌≤◌, true, ◌&&◌, ltb, leb, get_or, ℤ, pos, ◌+ℤ◌, ◌*ℤ◌, refl, ap, ◌∙◌, arith}
use Rattle.std.proofs.lemmas.Int.{ints}
use Rattle.std.proofs.lemmas.Bool.{and_parts, and_from, leb-true, ltb-true, le-leb}
use Rattle.ints.specs.Sums.{Near}
use Rattle.ints.specs.Tests.{within, all_within}
use Rattle.ints.proofs.Products.{product-near}
use Rattle.language.specs.declared.term.Term.{Term}
use Rattle.language.specs.Terms.{each, coef_of, plus, scaled, near, all_near, fits_term}
use Rattle.language.proofs.Worths.{each_at}
use Rattle.terms.specs.declared.wide.Wide.{Wide}
use Rattle.terms.specs.Narrow.{room, most_item, modest, term_of, wide_term}
use Rattle.terms.specs.Totals.{takes}
use Rattle.terms.proofs.Filling.{filled-all}
use Rattle.terms.proofs.Holding.{within_near}
use Rattle.terms.proofs.Bounds.{within-is, within-from, within-at, within-each, within_wider, all-wider}

pub each_same : (f g : ℕ → ℤ) → ((j : ℕ) → j < 16 → f j ≡ g j) → each f ≡ each g
unfolding each
each_same f g h = filled-all g (each f) 16 (record { long = refl; done = λ k l. each_at f k l ∙ h k l }) (omega arith)

pub one_more : (k : ℤ) (t u : Term) → plus (scaled k t) u ≡ term_of (k *ℤ t.constant +ℤ u.constant) (each (λ j. k *ℤ coef_of t j +ℤ coef_of u j))
unfolding plus scaled
one_more k t u = ap (term_of (k *ℤ t.constant +ℤ u.constant)) (each_same _ _ (λ j l. ap (λ (x : ℤ). x +ℤ coef_of u j) (each_at (λ i. k *ℤ coef_of t i) j l)))

module _ (n : ℕ) (w : Wide) (h : modest n w ≡ true) where
  abbrev reach : ℕ
  reach = n * most_item

  parts : (n ≤ 16384) × ((within (pos reach) w.constant ≡ true) × (all_within (pos reach) w.coefs ≡ true))
  parts =
      let p = and_parts (leb n 16384) (within (pos reach) w.constant && all_within (pos reach) w.coefs) h in
      let q = and_parts (within (pos reach) w.constant) (all_within (pos reach) w.coefs) p.1 in
      (leb-true n 16384 p.0, q)

  roomy : reach ≤ room
  roomy = let p = parts in omega arith

  pub room-constant : within (pos room) w.constant ≡ true
  room-constant = within_wider reach room roomy w.constant parts.1.0

  pub room-coefs : all_within (pos room) w.coefs ≡ true
  room-coefs = all-wider reach room roomy w.coefs parts.1.1

  module _ (k : ℤ) (t : Term) (e : takes n k t ≡ true) where
    item : (x z : ℤ) → Near 1000000 x → Near reach z → Near ((n + 1) * most_item) (k *ℤ x +ℤ z)
    item x z a b =
        let p = and_parts (ltb n 16384) (near k && fits_term t) e in
        let q = and_parts (near k) (fits_term t) p.1 in
        let m = product-near k x 1000000 1000000 (within-is 1000000 k q.0) a in
        (omega (arith, ints), omega (arith, ints))

    modest-sum : modest (n + 1) (record { constant = k *ℤ t.constant +ℤ w.constant; coefs = each (λ j. k *ℤ coef_of t j +ℤ get_or w.coefs j (pos 0)) }) ≡ true
    modest-sum =
        let p = and_parts (ltb n 16384) (near k && fits_term t) e in
        let q = and_parts (near t.constant) (all_near t.coefs) (and_parts (near k) (fits_term t) p.1).1 in
        let l : n + 1 ≤ 16384 = omega (arith, ltb-true n 16384 p.0) in
        let r = within-at 1000000 t.coefs (within_near t.coefs ∙ q.1) in
        let s = within-at reach w.coefs parts.1.1 in
        let a = within-from ((n + 1) * most_item) (k *ℤ t.constant +ℤ w.constant) (item t.constant w.constant (within-is 1000000 t.constant q.0) (within-is reach w.constant parts.1.0)) in
        let b = within-each ((n + 1) * most_item) (λ j. k *ℤ coef_of t j +ℤ get_or w.coefs j (pos 0)) (λ j. item (coef_of t j) (get_or w.coefs j (pos 0)) (r j) (s j)) in
        and_from _ _ (le-leb (n + 1) 16384 l) (and_from _ _ a b)

    pub modest-more : (v : Wide) → wide_term v ≡ plus (scaled k t) (wide_term w) → modest (n + 1) v ≡ true
    modest-more v s =
        let tested = λ (u : Term). leb (n + 1) 16384 && (within (pos ((n + 1) * most_item)) u.constant && all_within (pos ((n + 1) * most_item)) u.coefs) in
        ap tested (s ∙ one_more k t (wide_term w)) ∙ modest-sum
