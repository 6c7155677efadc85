-- A column of the facts and the negated goal, and its sum under multipliers.
use Rattle.std.proofs.Common.{◌≡◌, ℕ, zero, suc, ◌+◌, ◌<◌, List, [], ◌∷◌, length, get_or, take, ℤ, pos, ◌+ℤ◌, ◌*ℤ◌, sym, refl, ap, ◌∙◌, add-one, arith}
use lib.IntN.{*ℤ-zero}
use Rattle.std.proofs.lemmas.Int.{ints}
use Rattle.ints.proofs.Weighted.{weighted, sum-front, sum_zeros}
use Rattle.rows.specs.declared.row.Row.{Row}
use Rattle.domains.specs.declared.linear.Column.{Column}
use Rattle.domains.specs.declared.linear.Column.TheVariants.{Coef, Bound}
use Rattle.domains.specs.Linear.{entry, negated, weigh, total}
use Rattle.provers.specs.declared.derived.Derived.{Derived}
use Rattle.provers.specs.Derivations.{coef_at}

-- what a derived row has in a column
abbrev pub derived_entry : Column → Derived → ℤ
derived_entry (Coef j) d = coef_at j d
derived_entry Bound d = d.bound

-- the columns that there are
abbrev pub Listed : Column → Type 0
Listed (Coef j) = j < 16
Listed Bound = Unit {0}

-- what f gives of the facts in order, then the last, then nothing
abbrev pub in_order : List Row → (Row → ℤ) → ℤ → ℕ → ℤ
in_order [] f last zero = last
in_order [] f last (suc i) = pos 0
in_order (r ∷ rs) f last zero = f r
in_order (r ∷ rs) f last (suc i) = in_order rs f last i

pub in-order-at : (facts : List Row) (k : ℕ) (r : Row) (f : Row → ℤ) (last : ℤ) → k < length facts → r ≡ get_or facts k r → in_order facts f last k ≡ f r
in-order-at [] k r f last h e = let no : ⊥ = omega arith in absurd no
in-order-at (x ∷ xs) zero r f last h e = ap f (sym e)
in-order-at (x ∷ xs) (suc k) r f last h e = in-order-at xs k r f last (omega arith) e

pub in-order-last : (facts : List Row) (f : Row → ℤ) (last : ℤ) → in_order facts f last (length facts) ≡ last
in-order-last [] f last = refl
in-order-last (x ∷ xs) f last = in-order-last xs f last

-- the 25 multipliers times a column of the facts and the negated goal
abbrev pub column : List Row → Row → Column → ℕ → ℤ
column facts goal c = in_order facts (entry c) (negated c goal)

abbrev pub combination : (ℕ → ℤ) → List ℕ → ℤ
combination t ms = weighted t (λ i. get_or ms i 0) 25

weigh-sum : (ms : List ℕ) (rs : List Row) (f : Row → ℤ) (last : ℤ) (n : ℕ) → length rs < n → length rs < length ms → weigh ms rs f last ≡ weighted (in_order rs f last) (λ i. get_or ms i 0) n
unfolding weigh
weigh-sum [] rs f last n h k = let no : ⊥ = omega arith in absurd no
weigh-sum (m ∷ ms) rs f last zero h k = let no : ⊥ = omega arith in absurd no
weigh-sum (m ∷ ms) [] f last (suc n) h k =
    let e = sum-front (λ i. pos (get_or (m ∷ ms) i 0) *ℤ in_order [] f last i) n in
    let z = sum_zeros (λ i. pos (get_or ms i 0) *ℤ pos 0) n (λ i l. *ℤ-zero (pos (get_or ms i 0))) in
    omega (arith, ints)
weigh-sum (m ∷ ms) (r ∷ rs) f last (suc n) h k =
    let e = sum-front (λ i. pos (get_or (m ∷ ms) i 0) *ℤ in_order (r ∷ rs) f last i) n in
    let d = weigh-sum ms rs f last n (omega arith) (omega arith) in
    omega (arith, ints)

weigh-front : (ms : List ℕ) (rs : List Row) (f : Row → ℤ) (last : ℤ) → weigh (take (suc (length rs)) ms) rs f last ≡ weigh ms rs f last
unfolding weigh
weigh-front [] rs f last = refl
weigh-front (m ∷ ms) [] f last = refl
weigh-front (m ∷ ms) (r ∷ rs) f last = ap (λ x. (pos m *ℤ f r) +ℤ x) (weigh-front ms rs f last)

-- the domain's sum of a column, under the multipliers of the facts and the negated goal alone
pub total-is : (facts : List Row) (goal : Row) (ms : List ℕ) (c : Column) → length facts < 25 → length ms ≡ 25 → total facts goal (take (length facts + 1) ms) c ≡ combination (column facts goal c) ms
total-is facts goal ms c h n = rw add-one (weigh-front ms facts (entry c) (negated c goal)) ∙ weigh-sum ms facts (entry c) (negated c goal) 25 h (omega arith)
