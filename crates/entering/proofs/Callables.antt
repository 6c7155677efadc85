-- Where the walk notes no fault, each call in a body is of a rule that there is, with no more arguments than a rule has parameters.
use Rattle.std.proofs.Common.{◌≡◌, ℕ, suc, ◌<◌, ◌≤◌, Bool, true, false, T, ltb, List, [], ◌∷◌, ◌++◌, length, Some, None, Option, sym, refl, ap, ◌∙◌, arith, ltb→lt}
use Rattle.std.specs.List.{AllByRecursion}
use Rattle.std.proofs.lemmas.Option.{none-some}
use Rattle.language.specs.declared.refusal.Refusal.{Refusal}
use Rattle.language.specs.declared.refusal.Refusal.TheVariants.{Name, Full}
use Rattle.language.specs.declared.term.Term.{Term}
use Rattle.language.specs.Tree.{Condition, Expr, num, name, calc, read, call, bind, test, put, claim, Args, end, value, lent, Param, a_number, a_list, Rule, rule_at, shape}
use Rattle.language.specs.Terms.{zero_term, term_at, worked}
use Rattle.language.specs.Comparing.{rows, otherwise, conditions_rows}
use Rattle.language.specs.Walking.{Note, owes, fault, Stand, Scope, Found, limit, owe_all, assume, owe_checks, counted, knowing, binding, fresh, fresh_with, or_fresh, Mode, infer, check, finish, join, same_params, callable, walk, walks, start_known, walk_body, walk_rules, first_fault}
use Rattle.language.proofs.Duties.{all_left, all_right}
use Rattle.language.proofs.Tests.{both_left, both_right, cond-none}
use Rattle.running.specs.Standing.{Few, FewArgs}

-- a note that is no fault
abbrev pub Clear : Note → Type 0
Clear (owes o work) = Unit {0}
Clear (fault r) = ⊥

abbrev pub AllClear : List Note → Type 0
AllClear ns = AllByRecursion Clear ns

pub clear_notes : (ns : List Note) → first_fault ns ≡ None → AllClear ns
unfolding first_fault
clear_notes [] e = tt
clear_notes (fault r ∷ ns) e = absurd (none-some r (sym e))
clear_notes (owes o work ∷ ns) e = (tt, clear_notes ns (cond-none (ltb o.number 128) (first_fault ns) (Full work) e).1)

pub limit_clear : (b : Bool) (r : Refusal) → AllClear (limit b r) → T b
unfolding limit
limit_clear true r h = tt
limit_clear false r h = h.0

fresh_clear : (place : ℕ) (s : Stand) (notes : List Note) → AllClear (fresh place s notes).notes → AllClear notes
unfolding fresh
fresh_clear place s notes h = all_left Clear notes _ h

with_clear : (place : ℕ) (ts : List Term) (cs : List Condition) (s : Stand) (notes : List Note) → AllClear (fresh_with place ts cs s notes).notes → AllClear notes
unfolding fresh_with
with_clear place ts cs s notes h = fresh_clear place s notes (all_left Clear (fresh place s notes).notes _ h)

or_clear : (place : ℕ) (t : Option Term) (s : Stand) (notes : List Note) → AllClear (or_fresh place t s notes).notes → AllClear notes
unfolding or_fresh
or_clear place None s notes h = fresh_clear place s notes h
or_clear place (Some t) s notes h = h

join_clear : (m : Mode) (place : ℕ) (s : Stand) (notes : List Note) → AllClear (join m place s notes).notes → AllClear notes
unfolding join
join_clear infer place s notes h = fresh_clear place s notes h
join_clear (check ts cs) place s notes h = h

finish_clear : (m : Mode) (place : ℕ) (f : Found) → AllClear (finish m place f).notes → AllClear f.notes
unfolding finish
finish_clear infer place f h = h
finish_clear (check ts cs) place f h = all_left Clear f.notes _ h

same_length : (ps qs : List Param) → T (same_params ps qs) → length ps ≡ length qs
unfolding same_params
same_length [] [] h = refl
same_length [] (q ∷ qs) h = absurd h
same_length (p ∷ ps) [] h = absurd h
same_length (a_number ∷ ps) (a_number ∷ qs) h = ap suc (same_length ps qs h)
same_length (a_number ∷ ps) (a_list ∷ qs) h = absurd h
same_length (a_list ∷ ps) (a_number ∷ qs) h = absurd h
same_length (a_list ∷ ps) (a_list ∷ qs) h = ap suc (same_length ps qs h)

same_shape : (R : List Rule) (Γ : Scope) (s : Stand) (es : Args) → shape (walks R Γ s es).tree ≡ shape es
unfolding walk shape
same_shape R Γ s end = refl
same_shape R Γ s (value e es) = ap (λ ps. a_number ∷ ps) (same_shape R Γ (walk R infer Γ s e).stand es)
same_shape R Γ s (lent l es) = ap (λ ps. a_list ∷ ps) (same_shape R Γ s es)

module _ (R : List Rule) (few : (f : ℕ) → f < length R → length (rule_at R f).params ≤ 12) where
  mutual
    unfolding walk

    pub few_tree : (m : Mode) (Γ : Scope) (s : Stand) (e : Expr) → AllClear (walk R m Γ s e).notes → Few (length R) (walk R m Γ s e).tree
    few_tree m Γ s (num p n) h = tt
    few_tree m Γ s (name p i) h = tt
    few_tree m Γ s (calc p o a b) h =
        let g = walk R infer Γ s a in let u = walk R infer Γ g.stand b in
        let n = or_clear p (worked o g.term u.term) u.stand (g.notes ++ u.notes) (finish_clear m p _ h) in
        (few_tree infer Γ s a (all_left Clear g.notes u.notes n), few_tree infer Γ g.stand b (all_right Clear g.notes u.notes n))
    few_tree m Γ s (read site e) h =
        let g = walk R infer Γ s e in let o = owe_checks site site.place g.stand g.term (term_at Γ.lengths site.list) in
        few_tree infer Γ s e (all_left Clear g.notes o.notes (fresh_clear site.place (counted g.stand o.count) (g.notes ++ o.notes) (finish_clear m site.place _ h)))
    few_tree m Γ s (call p f es) h =
        let g = walks R Γ s es in let first = limit (callable R f es) (Name p) in
        let o = owe_all p g.stand.facts g.stand.count (conditions_rows g.terms zero_term (rule_at R f).needs) in
        let n = all_left Clear (first ++ g.notes) o.notes (with_clear p g.terms (rule_at R f).gives (counted g.stand o.count) ((first ++ g.notes) ++ o.notes) (finish_clear m p _ h)) in
        let able = limit_clear (callable R f es) (Name p) (all_left Clear first g.notes n) in
        let there = ltb→lt f (length R) (both_left (ltb f (length R)) _ able) in
        let as_long = ap length (same_shape R Γ s es) ∙ same_length (shape es) (rule_at R f).params (both_right (ltb f (length R)) _ able) in
        let k = few f there in
        (there, (omega (arith, as_long, k), few_trees Γ s es (all_right Clear first g.notes n)))
    few_tree m Γ s (bind p a b) h =
        let g = walk R infer Γ s a in let u = walk R m (binding Γ g.term) g.stand b in
        (few_tree infer Γ s a (all_left Clear g.notes u.notes h), few_tree m (binding Γ g.term) g.stand b (all_right Clear g.notes u.notes h))
    few_tree m Γ s (test p c a b d e) h =
        let g = walk R infer Γ s a in let u = walk R infer Γ g.stand b in
        let k = assume p u.stand.facts (rows c g.term u.term) in let x = walk R m Γ (knowing u.stand k.facts) d in
        let l = assume p u.stand.facts (otherwise c g.term u.term) in let y = walk R m Γ (counted (knowing u.stand l.facts) x.stand.count) e in
        let n = join_clear m p (counted u.stand y.stand.count) ((g.notes ++ u.notes) ++ ((k.notes ++ x.notes) ++ (l.notes ++ y.notes))) h in
        let sides = all_left Clear (g.notes ++ u.notes) ((k.notes ++ x.notes) ++ (l.notes ++ y.notes)) n in
        let branches = all_right Clear (g.notes ++ u.notes) ((k.notes ++ x.notes) ++ (l.notes ++ y.notes)) n in (
          few_tree infer Γ s a (all_left Clear g.notes u.notes sides),
          (
            few_tree infer Γ g.stand b (all_right Clear g.notes u.notes sides),
            (
              few_tree m Γ (knowing u.stand k.facts) d (all_right Clear k.notes x.notes (all_left Clear (k.notes ++ x.notes) (l.notes ++ y.notes) branches)),
              few_tree m Γ (counted (knowing u.stand l.facts) x.stand.count) e (all_right Clear l.notes y.notes (all_right Clear (k.notes ++ x.notes) (l.notes ++ y.notes) branches)),
            ),
          ),
        )
    few_tree m Γ s (put p site a b e) h =
        let g = walk R infer Γ s a in let u = walk R infer Γ g.stand b in
        let o = owe_checks site p u.stand g.term (term_at Γ.lengths site.list) in let x = walk R m Γ (counted u.stand o.count) e in
        let sides = all_left Clear (g.notes ++ u.notes) (o.notes ++ x.notes) h in (
          few_tree infer Γ s a (all_left Clear g.notes u.notes sides),
          (
            few_tree infer Γ g.stand b (all_right Clear g.notes u.notes sides),
            few_tree m Γ (counted u.stand o.count) e (all_right Clear o.notes x.notes (all_right Clear (g.notes ++ u.notes) (o.notes ++ x.notes) h)),
          ),
        )
    few_tree m Γ s (claim p e cs) h =
        let g = walk R (check Γ.names cs) Γ s e in
        few_tree (check Γ.names cs) Γ s e (with_clear p Γ.names cs (counted s g.stand.count) g.notes (finish_clear m p _ h))

    pub few_trees : (Γ : Scope) (s : Stand) (es : Args) → AllClear (walks R Γ s es).notes → FewArgs (length R) (walks R Γ s es).tree
    few_trees Γ s end h = tt
    few_trees Γ s (value e es) h =
        let g = walk R infer Γ s e in let u = walks R Γ g.stand es in
        (few_tree infer Γ s e (all_left Clear g.notes u.notes h), few_trees Γ g.stand es (all_right Clear g.notes u.notes h))
    few_trees Γ s (lent l es) h = few_trees Γ s es h

  -- the bodies of rules
  pub few_bodies : (n : ℕ) (rs : List Rule) → AllClear (walk_rules R n rs).notes → AllByRecursion (Few (length R)) (walk_rules R n rs).bodies
  unfolding walk_rules
  few_bodies n [] h = tt
  few_bodies n (r ∷ rs) h =
      let g = walk_body R n r in let first = (start_known r).notes in
      let here = all_left Clear (first ++ g.notes) (walk_rules R g.stand.count rs).notes h in
      (few_tree _ _ _ r.body (all_right Clear first g.notes here), few_bodies g.stand.count rs (all_right Clear (first ++ g.notes) (walk_rules R g.stand.count rs).notes h))
