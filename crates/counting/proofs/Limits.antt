-- No place is past a limit exactly where no limit is passed.
use Rattle.std.proofs.Common.{◌≡◌, ℕ, zero, suc, ◌≤◌, true, false, List, [], ◌∷◌, ◌++◌, length, Some, None, Option, sym, refl, ◌∙◌, arith}
use Rattle.std.proofs.lemmas.List.{length-map}
use Rattle.std.proofs.lemmas.Option.{slice_get_past}
use Rattle.std.specs.List.{AllByRecursion, slice_get}
use Rattle.grammar.specs.Raw as Raw
use Rattle.naming.specs.Least.{merged, least}
use Rattle.naming.proofs.Smallest.{least-append, least-both}
use Rattle.counting.specs.Counts.{first_over, keywords, places_of, listed, head_over, heads_over, rules_over, fault_by, Within}
use Rattle.counting.proofs.Firsts.{Rising, first-kept, first-none}
use Rattle.counting.proofs.Rules.{least-listed, rules-few}

none-parts : (a b : Option ℕ) → merged a b ≡ None → (a ≡ None) × (b ≡ None)
none-parts None b e = (refl, e)
none-parts (Some p) b e = let z : ◌≡◌ {A = ℕ} 0 1 = cc in let no : ⊥ = omega arith in absurd no

none_both : (xs ys : List ℕ) → least (xs ++ ys) ≡ None → (least xs ≡ None) × (least ys ≡ None)
none_both xs ys e = none-parts (least xs) (least ys) (sym (least-append xs ys) ∙ e)

both-none : (xs ys : List ℕ) → least xs ≡ None → least ys ≡ None → least (xs ++ ys) ≡ None
both-none xs ys e f = sym (least-both xs ys {a = None} {b = None} {r = None} refl (sym e) (sym f))

nth-none : (xs : List ℕ) (i : ℕ) → slice_get xs i ≡ None → length xs ≤ i
nth-none [] i e = omega arith
nth-none (x ∷ xs) zero e = let z : ◌≡◌ {A = ℕ} 0 1 = cc in omega arith
nth-none (x ∷ xs) (suc i) e = omega (arith, nth-none xs i e)

listed-none : (o : Option ℕ) → least (listed o) ≡ None → o ≡ None
listed-none o e = least-listed o ∙ e

none-listed : (o : Option ℕ) → o ≡ None → least (listed o) ≡ None
none-listed o e = sym (least-listed o) ∙ e

rules-kept : (rs : List Raw.Rule) → least (rules_over rs) ≡ None → length rs ≤ 32
unfolding rules_over
rules-kept rs e = let k = length-map rs (λ (r : Raw.Rule). r.keyword.place) in omega (arith, nth-none (keywords rs) 32 (listed-none (slice_get (keywords rs) 32) e))

heads-kept : (rs : List Raw.Rule) → least (heads_over rs) ≡ None → AllByRecursion (λ (r : Raw.Rule). length (places_of true r.params) ≤ 4) rs × AllByRecursion (λ (r : Raw.Rule). length (places_of false r.params) ≤ 8) rs
unfolding heads_over
heads-kept [] e = (tt, tt)
heads-kept (r ∷ rs) e =
    let a = none_both (head_over r.params) (heads_over rs) e in
    let b = none_both (listed (slice_get (places_of true r.params) 4)) (listed (slice_get (places_of false r.params) 8)) a.0 in
    let k = heads-kept rs a.1 in
    ((nth-none (places_of true r.params) 4 (listed-none _ b.0), k.0), (nth-none (places_of false r.params) 8 (listed-none _ b.1), k.1))

heads-none : (rs : List Raw.Rule) → AllByRecursion (λ (r : Raw.Rule). length (places_of true r.params) ≤ 4) rs → AllByRecursion (λ (r : Raw.Rule). length (places_of false r.params) ≤ 8) rs → least (heads_over rs) ≡ None
unfolding heads_over least
heads-none [] a b = refl
heads-none (r ∷ rs) a b =
    let lists = slice_get (places_of true r.params) 4 in
    let numbers = slice_get (places_of false r.params) 8 in
    both-none (head_over r.params) (heads_over rs)
    (both-none (listed lists) (listed numbers) (none-listed lists (slice_get_past (places_of true r.params) 4 a.0)) (none-listed numbers (slice_get_past (places_of false r.params) 8 b.0)))
    (heads-none rs a.1 b.1)

pub none_within : (bytes : ℕ) (written : List Raw.Rule) (exprs conditions : ℕ → ℕ) → fault_by bytes written exprs conditions ≡ None → Within written (exprs bytes) (conditions bytes)
none_within bytes written exprs conditions e =
    let o = first_over 1024 exprs 0 (suc bytes) in
    let p = first_over 128 conditions 0 (suc bytes) in
    let a = none_both (rules_over written ++ heads_over written) (listed o ++ listed p) e in
    let b = none_both (rules_over written) (heads_over written) a.0 in
    let c = none_both (listed o) (listed p) a.1 in
    let h = heads-kept written b.1 in
    record { rules = rules-kept written b.0; lists = h.0; numbers = h.1; exprs-few = first-kept 1024 exprs bytes (listed-none o c.0); conditions-few = first-kept 128 conditions bytes (listed-none p c.1) }

pub within_none : (bytes : ℕ) (written : List Raw.Rule) (exprs conditions : ℕ → ℕ) → Rising exprs → Rising conditions → Within written (exprs bytes) (conditions bytes) → fault_by bytes written exprs conditions ≡ None
within_none bytes written exprs conditions f g w =
    let o = first_over 1024 exprs 0 (suc bytes) in
    let p = first_over 128 conditions 0 (suc bytes) in
    both-none (rules_over written ++ heads_over written) (listed o ++ listed p)
    (both-none (rules_over written) (heads_over written) (sym (rules-few written w.rules)) (heads-none written w.lists w.numbers))
    (both-none (listed o) (listed p) (none-listed o (first-none 1024 exprs bytes f w.exprs-few)) (none-listed p (first-none 128 conditions bytes g w.conditions-few)))
