-- Where the walk notes no fault, no rule has more needs than there is room for facts.
use Rattle.std.proofs.Common.{◌≡◌, ℕ, ◌+◌, ◌≤◌, Bool, true, false, cond, ◌&&◌, ltb, List, [], ◌∷◌, ◌++◌, map, length, pos, Some, None, Option, arith, ltb→lt}
use Rattle.std.specs.List.{AllByRecursion}
use Rattle.std.proofs.lemmas.List.{length-append}
use Rattle.rows.specs.declared.row.Row.{Row}
use Rattle.language.specs.declared.refusal.Refusal.TheVariants.{Full}
use Rattle.language.specs.declared.comparison.Comparison.{Comparison}
use Rattle.language.specs.declared.comparison.Comparison.TheVariants.{Less, LessOrEqual, Equal, NotEqual}
use Rattle.language.specs.declared.term.Term.{Term}
use Rattle.language.specs.Tree.{Condition, Rule}
use Rattle.language.specs.Terms.{zero_term, fits_term}
use Rattle.language.specs.Comparing.{at_most, rows, side_term, condition_rows}
use Rattle.language.specs.Walking.{limit, assume, assume_all, start_names, start_scope, start_known, walk_body, walk_rules}
use Rattle.language.proofs.Duties.{all_left, all_right}
use Rattle.entering.proofs.Callables.{Clear, AllClear, limit_clear}

assume_few : (place : ℕ) (facts : List Row) (rs : List (Option Row)) → length facts ≤ 24 → AllClear (assume place facts rs).notes → (length (assume place facts rs).facts ≡ length facts + length rs) × (length (assume place facts rs).facts ≤ 24)
unfolding assume
assume_few place facts [] l h = (omega arith, l)
assume_few place facts (None ∷ rs) l h = absurd h.0
assume_few place facts (Some row ∷ rs) l h =
    let first = limit (ltb (length facts) 24) (Full place) in
    let t = ltb→lt (length facts) 24 (limit_clear (ltb (length facts) 24) (Full place) (all_left Clear first _ h)) in
    let e = length-append facts (row ∷ []) in
    let k = assume_few place (facts ++ row ∷ []) rs (omega (arith, t, e)) (all_right Clear first _ h) in
    (omega (arith, e, k.0), k.1)

rows_one : (c : Comparison) (t u : Term) → 1 ≤ length (rows c t u)
rows_one Less t u = omega arith
rows_one LessOrEqual t u = omega arith
rows_one Equal t u = omega arith
rows_one NotEqual t u = omega arith

condition_one : (ts : List Term) (r : Term) (c : Condition) → 1 ≤ length (condition_rows ts r c)
unfolding condition_rows
condition_one ts r c = go (fits_term (side_term ts r c.left) && fits_term (side_term ts r c.right)) (rows c.comparison (side_term ts r c.left) (side_term ts r c.right)) (rows_one c.comparison (side_term ts r c.left) (side_term ts r c.right))
  where
    go : (b : Bool) (rs : List (Option Row)) → 1 ≤ length rs → 1 ≤ length (cond b rs (None ∷ []))
    go true rs h = h
    go false rs h = omega arith

assume_all_few : (at : Condition → ℕ) (ts : List Term) (r : Term) (facts : List Row) (cs : List Condition) → length facts ≤ 24 → AllClear (assume_all at ts r facts cs).notes → length facts + length cs ≤ 24
unfolding assume_all
assume_all_few at ts r facts [] l h = omega (arith, l)
assume_all_few at ts r facts (c ∷ cs) l h =
    let rs = condition_rows ts r c in let k = assume (at c) facts rs in
    let a = assume_few (at c) facts rs l (all_left Clear k.notes _ h) in
    let b = assume_all_few at ts r k.facts cs a.1 (all_right Clear k.notes _ h) in
    let one = condition_one ts r c in
    omega (arith, a.0, b, one)

start_few : (r : Rule) → AllClear (start_known r).notes → length r.needs ≤ 24
unfolding start_known
start_few r h =
    let k = assume r.place [] (map (at_most (pos 0) zero_term) (start_scope r).lengths) in
    let l = assume_all (λ c. c.place) (start_names r) zero_term k.facts r.needs in
    let kl = all_right Clear _ (k.notes ++ l.notes) h in
    let a = assume_few r.place [] (map (at_most (pos 0) zero_term) (start_scope r).lengths) (omega arith) (all_left Clear k.notes l.notes kl) in
    let b = assume_all_few (λ c. c.place) (start_names r) zero_term k.facts r.needs a.1 (all_right Clear k.notes l.notes kl) in
    omega (arith, b)

pub few_needs : (R : List Rule) (n : ℕ) (rs : List Rule) → AllClear (walk_rules R n rs).notes → AllByRecursion (λ (r : Rule). length r.needs ≤ 24) rs
unfolding walk_rules
few_needs R n [] h = tt
few_needs R n (r ∷ rs) h =
    let g = walk_body R n r in let first = (start_known r).notes in let w = walk_rules R g.stand.count rs in
    let here = all_left Clear (first ++ g.notes) w.notes h in
    (start_few r (all_left Clear first g.notes here), few_needs R g.stand.count rs (all_right Clear (first ++ g.notes) w.notes h))
