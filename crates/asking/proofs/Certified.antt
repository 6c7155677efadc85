-- Every proposal is a good certificate: each row is its multipliers' combination of the facts and the negated goal.
use Rattle.std.proofs.Common.{◌≡◌, ℕ, zero, suc, ◌+◌, ◌<◌, ◌≤◌, true, false, ◌≢◌, List, [], ◌∷◌, length, get_or, take, replicate, pos, ◌+ℤ◌, nat_abs, Some, sym, refl, ap, ◌∙◌, subst, ap₂, ⊎_elim, arith}
use lib.IntN.{*ℤ-zero}
use lib.Signed.{lt_z}
use Rattle.std.proofs.lemmas.List.{get_or_default, length-set, length-take-le}
use Rattle.std.proofs.lemmas.Bool.{true≢false, and_parts, and_from, cases_eq, eq-eqb, leb-true}
use Rattle.std.proofs.lemmas.Option.{same_Some}
use Rattle.ints.specs.Tests.{is_zero}
use Rattle.ints.proofs.Belows.{all_from}
use Rattle.ints.proofs.Zeros.{zero_is}
use Rattle.rows.specs.declared.row.Row.{Row}
use Rattle.rows.specs.declared.row.Kind.{Kind}
use Rattle.rows.specs.declared.row.Kind.TheVariants.{AtMost, Unequal}
use Rattle.rows.specs.Questions.{is_at_most, well_shaped}
use Rattle.domains.specs.declared.fault.Reason.TheVariants.{Shape, Number, Kind as OfKind, Sum}
use Rattle.domains.specs.declared.linear.Column.{Column}
use Rattle.domains.specs.declared.linear.Column.TheVariants.{Coef, Bound}
use Rattle.domains.specs.Faults.{Good}
use Rattle.domains.specs.Outcomes.{good-at}
use Rattle.domains.specs.Linear.{entry, negated, fitting, numbers, kind_ok, kinds, sums, linear}
use Rattle.provers.specs.declared.derived.Derived.{Derived}
use Rattle.provers.specs.Derivations.{coef_at, times_at, blend, original, negation, all_modest, combine}
use Rattle.provers.specs.Elimination.{bind, push_all, originals, without_all, from, first_below, refutation}
use Rattle.asking.specs.Certificates.{Proposals-good}
use Rattle.asking.proofs.Columns.{derived_entry, Listed, column, combination, in-order-at, in-order-last, total-is}
use Rattle.asking.proofs.Combining.{times_none, times_long, times-modest, column-is, entry-combined, zero-combined, cancels}
use Rattle.asking.proofs.Options.{opened, passed}
use Rattle.asking.proofs.Originals.{alone, alone-there, alone-modest, alone-picks, original-entry, negation-entry, sure-originals}
use Rattle.asking.proofs.Stepping.{Each, pushed, run, Below, first_below-law}

module _ (facts : List Row) (goal : Row) (few : length facts ≤ 24) where
  -- a row once the quantities below n have left
  record Derives (n : ℕ) (w : Derived) : Type 0 where
    comes : (c : Column) → Listed c → derived_entry c w ≡ combination (column facts goal c) w.times
    zeros : (j : ℕ) → j < n → coef_at j w ≡ pos 0
    long : length w.times ≡ 25
    modest : all_modest w.times ≡ true
    unused : (k : ℕ) (r : Row) → k < length facts → r ≡ get_or facts k r → is_at_most r.kind ≡ false → times_at k w ≡ 0

  keep : (q : ℕ) (r : Derived) → Derives q r → is_zero (coef_at q r) ≡ true → Derives (q + 1) r
  keep q r h z = record {
    comes = h.comes;
    zeros = λ j l. ⊎_elim (λ e. ap (λ k. coef_at k r) e ∙ zero_is (coef_at q r) z) (λ ne. h.zeros j (omega arith)) (cases_eq j q);
    long = h.long;
    modest = h.modest;
    unused = h.unused;
  }

  join : (q : ℕ) → q < 16 → (p m w : Derived) → Derives q p → Derives q m → lt_z (pos 0) (coef_at q p) ≡ true → lt_z (coef_at q m) (pos 0) ≡ true → combine q p m ≡ Some w → Derives (q + 1) w
  join q l p m w h k up down e =
      let a = nat_abs (coef_at q m) in let b = nat_abs (coef_at q p) in
      record {
        comes = λ c i. entry-combined q p m w e c i _ (ap₂ (blend a b) (h.comes c i) (k.comes c i) ∙ column-is q p m w e (column facts goal c));
        zeros = λ j i. ⊎_elim
            (λ s. ap (λ x. coef_at x w) s ∙ zero-combined q p m w e q l (cancels (coef_at q p) (coef_at q m) up down))
            (λ ne. zero-combined q p m w e j (omega arith) (ap₂ (blend a b) (h.zeros j (omega arith)) (k.zeros j (omega arith)) ∙ ap₂ (λ x y. x +ℤ y) (*ℤ-zero (pos a)) (*ℤ-zero (pos b))))
            (cases_eq j q);
        long = times_long q p m w e;
        modest = times-modest q p m w e;
        unused = λ i r n s z. times_none q p m w e i (omega arith) (h.unused i r n s z) (k.unused i r n s z);
      }

  alone-long : (i : ℕ) → length (alone i) ≡ 25
  alone-long i = length-set {A = ℕ} (replicate 25 0) i 1

  begin-fact : (i : ℕ) (r : Row) → i < length facts → r ≡ get_or facts i r → is_at_most r.kind ≡ true → Derives 0 (original i r)
  begin-fact i r l e m = record {
    comes = λ c k. original-entry c i r ∙ sym (alone-picks (column facts goal c) i (omega arith) ∙ in-order-at facts i r (entry c) (negated c goal) l e);
    zeros = λ j n. let no : ⊥ = omega arith in absurd no;
    long = alone-long i;
    modest = alone-modest i;
    unused = λ k s n f z. alone-there i k (λ q.
        let d = e ∙ get_or_default facts i r s l ∙ ap (λ x. get_or facts x s) (sym q) ∙ sym f in
        true≢false (sym m ∙ ap (λ (y : Row). is_at_most y.kind) d ∙ z));
  }

  begin-goal : (r : Row) → negation goal ≡ Some r → Derives 0 (original (length facts) r)
  begin-goal r e = record {
    comes = λ c k. original-entry c (length facts) r ∙ negation-entry c goal r k e ∙ sym (alone-picks (column facts goal c) (length facts) (omega arith) ∙ in-order-last facts (entry c) (negated c goal));
    zeros = λ j n. let no : ⊥ = omega arith in absurd no;
    long = alone-long (length facts);
    modest = alone-modest (length facts);
    unused = λ k s n f z. let ne : k ≢ length facts = omega arith in alone-there (length facts) k ne;
  }

  begun : (rows : List Derived) → push_all [] (originals 0 facts goal) ≡ Some rows → Each (Derives 0) rows
  begun rows e =
      pushed (Derives 0) [] (originals 0 facts goal) rows tt
      (sure-originals (Derives 0) goal 0 facts
      (λ k r l i m. let z : k ≡ 0 + k = omega arith in subst (λ (x : ℕ). Derives 0 (original x r)) z (begin-fact k r l i m))
      (λ r n. let z : length facts ≡ 0 + length facts = omega arith in subst (λ (x : ℕ). Derives 0 (original x r)) z (begin-goal r n))) e

  found : (times : List ℕ) → refutation facts goal ≡ Some times → Below (Derives 16) times
  unfolding refutation
  found times e =
      let p = opened (push_all [] (originals 0 facts goal)) (λ rows. bind (without_all (from 0) rows) first_below) times e in
      let o = opened (without_all (from 0) p.0) first_below times p.1.1 in
      first_below-law (Derives 16) o.0 times (run Derives keep join 16 0 p.0 o.0 (omega arith) (begun p.0 p.1.0) o.1.0) o.1.1

  numbers-front : (k : ℕ) (ms : List ℕ) → all_modest ms ≡ true → numbers (take k ms) ≡ true
  unfolding numbers all_modest
  numbers-front zero ms h = refl
  numbers-front (suc k) [] h = refl
  numbers-front (suc k) (m ∷ ms) h = and_from _ _ (and_parts _ _ h).0 (numbers-front k ms (and_parts _ _ h).1)

  kind_ok-law : (m : ℕ) (k : Kind) → (is_at_most k ≡ false → m ≡ 0) → kind_ok m k ≡ true
  kind_ok-law m AtMost h = refl
  kind_ok-law m Unequal h = eq-eqb m 0 (h refl)

  kinds-front : (k : ℕ) (ms : List ℕ) (rs : List Row) → ((i : ℕ) (r : Row) → i < length rs → r ≡ get_or rs i r → is_at_most r.kind ≡ false → get_or ms i 0 ≡ 0) → kinds (take k ms) rs ≡ true
  unfolding kinds
  kinds-front zero ms rs h = refl
  kinds-front (suc k) [] rs h = refl
  kinds-front (suc k) (m ∷ ms) [] h = refl
  kinds-front (suc k) (m ∷ ms) (r ∷ rs) h = and_from _ _ (kind_ok-law m r.kind (h 0 r (omega arith) refl)) (kinds-front k ms rs (λ i s l e z. h (suc i) s (omega arith) e z))

  good : (w : Derived) → Derives 16 w → lt_z w.bound (pos 0) ≡ true → well_shaped facts goal ≡ true → Good (linear facts goal (take (length facts + 1) w.times))
  good w d below shaped =
      let ms = w.times in
      let n = d.long in
      let cert = take (length facts + 1) ms in
      let same : (c : Column) → Listed c → _ = λ c l. total-is facts goal ms c (omega arith) n ∙ sym (d.comes c l) in
      good-at (fitting facts goal cert) _ Shape (and_from _ _ shaped (eq-eqb _ _ (length-take-le (length facts + 1) ms (omega arith))))
      (good-at (numbers cert) _ Number (numbers-front (length facts + 1) ms d.modest)
      (good-at (kinds cert facts) _ OfKind (kinds-front (length facts + 1) ms facts (λ i r l e z. d.unused i r l e z))
      (good-at (sums facts goal cert) _ Sum
      (and_from _ _
      (all_from _ 16 (λ j l. ap is_zero (same (Coef j) l ∙ d.zeros j l)))
      (ap (λ x. lt_z x (pos 0)) (same Bound tt) ∙ below)) tt)))

pub proposals-good : Proposals-good
proposals-good facts goal certificate e =
    let s = passed (well_shaped facts goal) _ certificate e in
    let few = leb-true _ _ (and_parts _ _ s.0).0 in
    let o = opened (refutation facts goal) (λ times. Some (take (length facts + 1) times)) certificate s.1 in
    let f = found facts goal few o.0 o.1.0 in
    let F : List ℕ → Type 0 = λ l. Good (linear facts goal l) in
    subst F (ap (take (length facts + 1)) f.its ∙ same_Some _ _ o.1.1) (good facts goal few f.row f.has f.below s.0)
