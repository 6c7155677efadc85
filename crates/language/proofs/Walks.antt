-- The walk alone: what it has at some point mentions only quantities below the next, and its obligations are numbered one by one.
use Rattle.std.proofs.Common.{◌≡◌, ℕ, suc, ◌≤◌, Bool, true, false, T, ltb, leb, List, [], ◌∷◌, ◌++◌, map, length, ℤ, pos, Some, None, Option, sym, refl, subst, le_trans, le_refl, arith}
use Rattle.std.specs.List.{AllByRecursion}
use Rattle.std.proofs.ByRecursion.{All-push, All-weaker}
use Rattle.rows.specs.declared.row.Row.{Row}
use Rattle.rows.specs.Meaning.{Assignment, Meets, MeetsAll}
use Rattle.language.specs.declared.term.Term.{Term}
use Rattle.language.specs.declared.duty.Duty.{Duty}
use Rattle.language.specs.declared.check.Check.TheVariants.{Below, Above}
use Rattle.language.specs.declared.duty.Duty.TheVariants.{Check, Guard}
use Rattle.language.specs.declared.refusal.Refusal.{Refusal}
use Rattle.language.specs.Tree.{Condition, Site, Expr, num, name, calc, read, call, bind, test, put, claim, Args, end, value, lent, Rule, rule_at}
use Rattle.language.specs.Terms.{zero_term, quantity, worth, term_at, worked, constant, limited}
use Rattle.language.specs.Comparing.{at_most, rows, otherwise, satisfied, condition_rows, conditions_rows}
use Rattle.language.specs.Walking.{Note, owes, fault, Stand, Scope, Found, Got, Gots, limit, owe, owe_all, assume, assume_all, owe_checks, counted, knowing, binding, fresh, fresh_with, or_fresh, Mode, infer, check, finish, join, walk, walks, start_names, start_scope, start_known, start_stand, walk_body, walk_rules}
use Rattle.language.proofs.Worths.{Agree, agree_less, Stable, stable-more, stable-constant, stable-quantity, stable-worked, StableAll, stables-more, stables-nil, stables-cons, stables-push, limited-is}
use Rattle.language.proofs.Assigning.{quantities-stable, at_lists-stable, lengths-firm}
use Rattle.language.proofs.Comparisons.{IfMade, Firm, IfFirm, rows-firm, otherwise-firm, condition-firm, condition-from}

-- facts that are met, and that mention quantities below n only
pub meets-push : (q : Assignment) (F : List Row) (r : Row) → MeetsAll q F → Meets q r → MeetsAll q (F ++ r ∷ [])
meets-push q [] r h k = (k, tt)
meets-push q (x ∷ F) r h k = (h.0, meets-push q F r h.1 k)

pub facts-move : (n : ℕ) (q p : Assignment) → Agree n q p → (F : List Row) → AllByRecursion (Firm n) F → MeetsAll q F → MeetsAll p F
facts-move n q p a [] k h = tt
facts-move n q p a (r ∷ F) k h = (k.0 q p a h.0, facts-move n q p a F k.1 h.1)

pub firms-more : (n m : ℕ) → n ≤ m → (F : List Row) → AllByRecursion (Firm n) F → AllByRecursion (Firm m) F
firms-more n m h F k = All-weaker (Firm n) (Firm m) (λ r f q p a. f q p (agree_less h a)) F k

pub assume-meets : (q : Assignment) (place : ℕ) (F : List Row) (rs : List (Option Row)) → MeetsAll q F → AllByRecursion (IfMade q) rs → MeetsAll q (assume place F rs).facts
unfolding assume
assume-meets q place F [] h k = h
assume-meets q place F (None ∷ rs) h k = assume-meets q place F rs h k.1
assume-meets q place F (Some r ∷ rs) h k = assume-meets q place (F ++ r ∷ []) rs (meets-push q F r h (k.0 r refl)) k.1

pub assume-firm : (n : ℕ) (place : ℕ) (F : List Row) (rs : List (Option Row)) → AllByRecursion (Firm n) F → AllByRecursion (IfFirm n) rs → AllByRecursion (Firm n) (assume place F rs).facts
unfolding assume
assume-firm n place F [] h k = h
assume-firm n place F (None ∷ rs) h k = assume-firm n place F rs h k.1
assume-firm n place F (Some r ∷ rs) h k = assume-firm n place (F ++ r ∷ []) rs (All-push (Firm n) F r h (k.0 r refl)) k.1

pub assume_all-meets : (q : Assignment) (at : Condition → ℕ) (ts : List Term) (r : Term) (xs : List ℤ) (v : ℤ) → map (worth q) ts ≡ xs → worth q r ≡ v
    → (F : List Row) (cs : List Condition) → MeetsAll q F → AllByRecursion (λ c. T (satisfied xs v c)) cs → MeetsAll q (assume_all at ts r F cs).facts
unfolding assume_all
assume_all-meets q at ts r xs v ex ev F [] h k = h
assume_all-meets q at ts r xs v ex ev F (c ∷ cs) h k =
    assume_all-meets q at ts r xs v ex ev (assume (at c) F (condition_rows ts r c)).facts cs (assume-meets q (at c) F (condition_rows ts r c) h (condition-from q ts r xs v ex ev c k.0)) k.1

pub assume_all-firm : (n : ℕ) (at : Condition → ℕ) (ts : List Term) (r : Term) → StableAll n ts → Stable n r
    → (F : List Row) (cs : List Condition) → AllByRecursion (Firm n) F → AllByRecursion (Firm n) (assume_all at ts r F cs).facts
unfolding assume_all
assume_all-firm n at ts r a b F [] h = h
assume_all-firm n at ts r a b F (c ∷ cs) h =
    assume_all-firm n at ts r a b (assume (at c) F (condition_rows ts r c)).facts cs (assume-firm n (at c) F (condition_rows ts r c) h (condition-firm n ts r a b c))

-- the obligations among notes have the numbers from k up to m
abbrev pub Counts : ℕ → List Note → ℕ → Type 0
Counts k [] m = k ≡ m
Counts k (owes o work ∷ ns) m = (o.number ≡ k) × Counts (suc k) ns m
Counts k (fault r ∷ ns) m = Counts k ns m

pub record Numbered (k : ℕ) (ns : List Note) (m : ℕ) : Type 0 where
  pub counts : Counts k ns m

counts-append : (k m l : ℕ) (ns bs : List Note) → Counts k ns m → Counts m bs l → Counts k (ns ++ bs) l
counts-append k m l [] bs h b = subst (λ (x : ℕ). Counts x bs l) (sym h) b
counts-append k m l (owes o work ∷ ns) bs h b = (h.0, counts-append (suc k) m l ns bs h.1 b)
counts-append k m l (fault r ∷ ns) bs h b = counts-append k m l ns bs h b

pub numbered-append : {k : ℕ} (m : ℕ) {l : ℕ} (ns bs : List Note) → Numbered k ns m → Numbered m bs l → Numbered k (ns ++ bs) l
numbered-append {k} m {l} ns bs h b = record { counts = counts-append k m l ns bs h.counts b.counts }

pub numbered-nil : (k : ℕ) → Numbered k [] k
numbered-nil k = record { counts = refl }

pub numbered-limit : (k : ℕ) (b : Bool) (r : Refusal) → Numbered k (limit b r) k
unfolding limit
numbered-limit k true r = record { counts = refl }
numbered-limit k false r = record { counts = refl }

numbered-owe : (duty : Duty) (place work : ℕ) (F : List Row) (k : ℕ) (o : Option Row) → Numbered k (owe duty place work F k o).notes (owe duty place work F k o).count
unfolding owe
numbered-owe duty place work F k None = record { counts = refl }
numbered-owe duty place work F k (Some r) = record { counts = (refl, refl) }

numbered-owe_all : (place : ℕ) (F : List Row) (k : ℕ) (rs : List (Option Row)) → Numbered k (owe_all place F k rs).notes (owe_all place F k rs).count
unfolding owe_all
numbered-owe_all place F k [] = numbered-nil k
numbered-owe_all place F k (r ∷ rs) =
    let o = owe Guard place place F k r in
    numbered-append o.count o.notes (owe_all place F o.count rs).notes (numbered-owe Guard place place F k r) (numbered-owe_all place F o.count rs)

numbered-owe_checks : (site : Site) (work : ℕ) (s : Stand) (t u : Term) → Numbered s.count (owe_checks site work s t u).notes (owe_checks site work s t u).count
unfolding owe_checks
numbered-owe_checks site work s t u =
    let b = owe (Check Below) site.place work s.facts s.count (at_most (pos 0) zero_term t) in
    numbered-append b.count b.notes _ (numbered-owe (Check Below) site.place work s.facts s.count (at_most (pos 0) zero_term t)) (numbered-owe (Check Above) site.place work s.facts b.count (at_most (pos 1) t u))

pub numbered-assume : (k place : ℕ) (F : List Row) (rs : List (Option Row)) → Numbered k (assume place F rs).notes k
unfolding assume
numbered-assume k place F [] = numbered-nil k
numbered-assume k place F (None ∷ rs) = record { counts = (numbered-assume k place F rs).counts }
numbered-assume k place F (Some r ∷ rs) = numbered-append k (limit (ltb (length F) 24) _) _ (numbered-limit k (ltb (length F) 24) _) (numbered-assume k place (F ++ r ∷ []) rs)

pub numbered-assume_all : (k : ℕ) (at : Condition → ℕ) (ts : List Term) (r : Term) (F : List Row) (cs : List Condition) → Numbered k (assume_all at ts r F cs).notes k
unfolding assume_all
numbered-assume_all k at ts r F [] = numbered-nil k
numbered-assume_all k at ts r F (c ∷ cs) =
    numbered-append k (assume (at c) F (condition_rows ts r c)).notes _ (numbered-assume k (at c) F (condition_rows ts r c)) (numbered-assume_all k at ts r (assume (at c) F (condition_rows ts r c)).facts cs)

-- what is so of a walk from the next quantity n and the number k on
pub record OkStand (n : ℕ) (s : Stand) : Type 0 where
  pub up : n ≤ s.next
  pub facts : AllByRecursion (Firm s.next) s.facts

pub record Ok (n k : ℕ) (g : Found) : Type 0 where
  pub stand : OkStand n g.stand
  pub term : Stable g.stand.next g.term
  pub numbered : Numbered k g.notes g.stand.count

abbrev pub found : Got → Found
found g = record { term = g.term; stand = g.stand; notes = g.notes }

pub record Oks (n k : ℕ) (g : Gots) : Type 0 where
  pub stand : OkStand n g.stand
  pub terms : StableAll g.stand.next g.terms
  pub numbered : Numbered k g.notes g.stand.count

pub record OkScope (n : ℕ) (Γ : Scope) : Type 0 where
  pub names : StableAll n Γ.names
  pub lengths : StableAll n Γ.lengths

pub scope-more : (n m : ℕ) (Γ : Scope) → n ≤ m → OkScope n Γ → OkScope m Γ
scope-more n m Γ h k = record { names = stables-more n m Γ.names h k.names; lengths = stables-more n m Γ.lengths h k.lengths }

pub scope-binding : (n : ℕ) (Γ : Scope) (t : Term) → Stable n t → OkScope n Γ → OkScope n (binding Γ t)
scope-binding n Γ t h k = record { names = stables-push n t Γ.names h k.names; lengths = k.lengths }

module _ (n k place : ℕ) (s : Stand) (notes : List Note) (o : OkStand n s) (b : Numbered k notes s.count) where
  ok-fresh : Ok n k (fresh place s notes)
  unfolding fresh
  ok-fresh = record {
    stand = record { up = omega (arith, o.up); facts = firms-more s.next (suc s.next) (omega arith) s.facts o.facts };
    term = stable-quantity s.next;
    numbered = numbered-append s.count notes _ b (numbered-limit s.count (ltb s.next 16) _);
  }

  ok-or_fresh : (t : Option Term) → ((u : Term) → t ≡ Some u → Stable s.next u) → Ok n k (or_fresh place t s notes)
  unfolding or_fresh
  ok-or_fresh None h = ok-fresh
  ok-or_fresh (Some u) h = record { stand = o; term = h u refl; numbered = b }

  ok-fresh_with : (ts : List Term) (cs : List Condition) → StableAll s.next ts → Ok n k (fresh_with place ts cs s notes)
  unfolding fresh_with fresh
  ok-fresh_with ts cs h = record {
    stand = record {
      up = omega (arith, o.up);
      facts = assume_all-firm (suc s.next) (λ c. place) ts (quantity s.next) (stables-more s.next (suc s.next) ts (omega arith) h) (stable-quantity s.next) s.facts cs (firms-more s.next (suc s.next) (omega arith) s.facts o.facts);
    };
    term = stable-quantity s.next;
    numbered = numbered-append s.count (notes ++ limit (ltb s.next 16) _) _ (numbered-append s.count notes _ b (numbered-limit s.count (ltb s.next 16) _)) (numbered-assume_all s.count (λ c. place) ts (quantity s.next) s.facts cs);
  }

  ok-join : (m : Mode) → Ok n k (join m place s notes)
  unfolding join
  ok-join infer = ok-fresh
  ok-join (check ts cs) = record { stand = o; term = stable-constant s.next (pos 0); numbered = b }

ok-finish : (n k : ℕ) (m : Mode) (place : ℕ) (g : Found) → Ok n k g → Ok n k (finish m place g)
unfolding finish
ok-finish n k infer place g h = h
ok-finish n k (check ts cs) place g h = record {
  stand = record { up = h.stand.up; facts = h.stand.facts };
  term = h.term;
  numbered = numbered-append g.stand.count g.notes _ h.numbered (numbered-owe_all place g.stand.facts g.stand.count (conditions_rows ts g.term cs));
}

-- from a stand on
pub from : (n : ℕ) (s t : Stand) → OkStand n s → OkStand s.next t → OkStand n t
from n s t h k = record { up = le_trans h.up k.up; facts = k.facts }

pub here : (s : Stand) → AllByRecursion (Firm s.next) s.facts → OkStand s.next s
here s f = record { up = le_refl s.next; facts = f }

mutual
  unfolding walk

  pub walk-ok : (R : List Rule) (m : Mode) (Γ : Scope) (s : Stand) (e : Expr) → OkScope s.next Γ → AllByRecursion (Firm s.next) s.facts → Ok s.next s.count (found (walk R m Γ s e))
  walk-ok R m Γ s (num p n) c f =
      ok-finish s.next s.count m p _ (ok-or_fresh s.next s.count p s [] (here s f) (numbered-nil s.count) (limited (constant (pos n))) (λ u e. subst (Stable s.next) (limited-is (constant (pos n)) u e) (stable-constant s.next (pos n))))
  walk-ok R m Γ s (name p i) c f = ok-finish s.next s.count m p _ (record { stand = here s f; term = c.names i; numbered = numbered-nil s.count })
  walk-ok R m Γ s (calc p o a b) c f =
      let g = walk R infer Γ s a in
      let gk = walk-ok R infer Γ s a c f in
      let h = walk R infer Γ g.stand b in
      let hk = walk-ok R infer Γ g.stand b (scope-more s.next g.stand.next Γ gk.stand.up c) gk.stand.facts in
      ok-finish s.next s.count m p _ (ok-or_fresh s.next s.count p h.stand (g.notes ++ h.notes) (from s.next g.stand h.stand gk.stand hk.stand)
      (numbered-append g.stand.count g.notes h.notes gk.numbered hk.numbered) (worked o g.term h.term)
      (λ v e. stable-worked h.stand.next o g.term h.term v e (stable-more g.stand.next h.stand.next g.term hk.stand.up gk.term) hk.term))
  walk-ok R m Γ s (read site e) c f =
      let g = walk R infer Γ s e in
      let gk = walk-ok R infer Γ s e c f in
      let u = term_at Γ.lengths site.list in
      let o = owe_checks site site.place g.stand g.term u in
      ok-finish s.next s.count m site.place _ (ok-fresh s.next s.count site.place (counted g.stand o.count) (g.notes ++ o.notes) (record { up = gk.stand.up; facts = gk.stand.facts })
      (numbered-append g.stand.count g.notes o.notes gk.numbered (numbered-owe_checks site site.place g.stand g.term u)))
  walk-ok R m Γ s (call p fn es) c f =
      let g = walks R Γ s es in
      let gk = walks-ok R Γ s es c f in
      let rs = conditions_rows g.terms zero_term (rule_at R fn).needs in
      let o = owe_all p g.stand.facts g.stand.count rs in
      ok-finish s.next s.count m p _ (ok-fresh_with s.next s.count p (counted g.stand o.count) _ (record { up = gk.stand.up; facts = gk.stand.facts })
      (numbered-append g.stand.count (limit _ _ ++ g.notes) o.notes (numbered-append s.count (limit _ _) g.notes (numbered-limit s.count _ _) gk.numbered) (numbered-owe_all p g.stand.facts g.stand.count rs))
      g.terms (rule_at R fn).gives gk.terms)
  walk-ok R m Γ s (bind p a b) c f =
      let g = walk R infer Γ s a in
      let gk = walk-ok R infer Γ s a c f in
      let h = walk R m (binding Γ g.term) g.stand b in
      let hk = walk-ok R m (binding Γ g.term) g.stand b (scope-binding g.stand.next Γ g.term gk.term (scope-more s.next g.stand.next Γ gk.stand.up c)) gk.stand.facts in
      record { stand = from s.next g.stand h.stand gk.stand hk.stand; term = hk.term; numbered = numbered-append g.stand.count g.notes h.notes gk.numbered hk.numbered }
  walk-ok R m Γ s (test p o a b d e) c f =
      let g = walk R infer Γ s a in
      let gk = walk-ok R infer Γ s a c f in
      let cg = scope-more s.next g.stand.next Γ gk.stand.up c in
      let h = walk R infer Γ g.stand b in
      let hk = walk-ok R infer Γ g.stand b cg gk.stand.facts in
      let ch = scope-more g.stand.next h.stand.next Γ hk.stand.up cg in
      let tg = stable-more g.stand.next h.stand.next g.term hk.stand.up gk.term in
      let k = assume p h.stand.facts (rows o g.term h.term) in
      let kf = assume-firm h.stand.next p h.stand.facts (rows o g.term h.term) hk.stand.facts (rows-firm o h.stand.next g.term h.term tg hk.term) in
      let x = walk R m Γ (knowing h.stand k.facts) d in
      let xk = walk-ok R m Γ (knowing h.stand k.facts) d ch kf in
      let l = assume p h.stand.facts (otherwise o g.term h.term) in
      let lf = assume-firm h.stand.next p h.stand.facts (otherwise o g.term h.term) hk.stand.facts (otherwise-firm o h.stand.next g.term h.term tg hk.term) in
      let y = walk R m Γ (counted (knowing h.stand l.facts) x.stand.count) e in
      let yk = walk-ok R m Γ (counted (knowing h.stand l.facts) x.stand.count) e ch lf in
      ok-join s.next s.count p (counted h.stand y.stand.count) ((g.notes ++ h.notes) ++ ((k.notes ++ x.notes) ++ (l.notes ++ y.notes)))
      (record { up = le_trans gk.stand.up hk.stand.up; facts = hk.stand.facts })
      (numbered-append h.stand.count (g.notes ++ h.notes) ((k.notes ++ x.notes) ++ (l.notes ++ y.notes)) (numbered-append g.stand.count g.notes h.notes gk.numbered hk.numbered)
      (numbered-append x.stand.count (k.notes ++ x.notes) (l.notes ++ y.notes)
      (numbered-append h.stand.count k.notes x.notes (numbered-assume h.stand.count p h.stand.facts (rows o g.term h.term)) xk.numbered)
      (numbered-append x.stand.count l.notes y.notes (numbered-assume x.stand.count p h.stand.facts (otherwise o g.term h.term)) yk.numbered)))
      m
  walk-ok R m Γ s (put p site a b e) c f =
      let g = walk R infer Γ s a in
      let gk = walk-ok R infer Γ s a c f in
      let cg = scope-more s.next g.stand.next Γ gk.stand.up c in
      let h = walk R infer Γ g.stand b in
      let hk = walk-ok R infer Γ g.stand b cg gk.stand.facts in
      let u = term_at Γ.lengths site.list in
      let o = owe_checks site p h.stand g.term u in
      let x = walk R m Γ (counted h.stand o.count) e in
      let xk = walk-ok R m Γ (counted h.stand o.count) e (scope-more g.stand.next h.stand.next Γ hk.stand.up cg) hk.stand.facts in
      record {
        stand = record { up = le_trans gk.stand.up (le_trans hk.stand.up xk.stand.up); facts = xk.stand.facts };
        term = xk.term;
        numbered = numbered-append h.stand.count (g.notes ++ h.notes) (o.notes ++ x.notes) (numbered-append g.stand.count g.notes h.notes gk.numbered hk.numbered)
            (numbered-append o.count o.notes x.notes (numbered-owe_checks site p h.stand g.term u) xk.numbered);
      }
  walk-ok R m Γ s (claim p e cs) c f =
      let g = walk R (check Γ.names cs) Γ s e in
      let gk = walk-ok R (check Γ.names cs) Γ s e c f in
      ok-finish s.next s.count m p _ (ok-fresh_with s.next s.count p (counted s g.stand.count) g.notes (record { up = le_refl s.next; facts = f }) gk.numbered Γ.names cs c.names)

  pub walks-ok : (R : List Rule) (Γ : Scope) (s : Stand) (es : Args) → OkScope s.next Γ → AllByRecursion (Firm s.next) s.facts → Oks s.next s.count (walks R Γ s es)
  walks-ok R Γ s end c f = record { stand = here s f; terms = stables-nil s.next; numbered = numbered-nil s.count }
  walks-ok R Γ s (value e es) c f =
      let g = walk R infer Γ s e in
      let gk = walk-ok R infer Γ s e c f in
      let h = walks R Γ g.stand es in
      let hk = walks-ok R Γ g.stand es (scope-more s.next g.stand.next Γ gk.stand.up c) gk.stand.facts in
      record {
        stand = from s.next g.stand h.stand gk.stand hk.stand;
        terms = stables-cons h.stand.next g.term h.terms (stable-more g.stand.next h.stand.next g.term hk.stand.up gk.term) hk.terms;
        numbered = numbered-append g.stand.count g.notes h.notes gk.numbered hk.numbered;
      }
  walks-ok R Γ s (lent l es) c f =
      let h = walks R Γ s es in
      let hk = walks-ok R Γ s es c f in
      record { stand = hk.stand; terms = stables-cons h.stand.next (term_at Γ.lengths l) h.terms (stable-more s.next h.stand.next (term_at Γ.lengths l) hk.stand.up (c.lengths l)) hk.terms; numbered = hk.numbered }

-- where a body begins, and rule after rule
pub start-scope : (r : Rule) → OkScope (length r.params) (start_scope r)
start-scope r =
    let k = length r.params in
    let stable = quantities-stable k 0 k (omega arith) in
    record { names = stable; lengths = at_lists-stable k r.params (start_names r) stable }

pub start-firm : (r : Rule) → AllByRecursion (Firm (length r.params)) (start_known r).facts
unfolding start_known
start-firm r =
    let k = length r.params in
    assume_all-firm k (λ c. c.place) (start_names r) zero_term (start-scope r).names (stable-constant k (pos 0)) _ r.needs
    (assume-firm k r.place [] (map (at_most (pos 0) zero_term) (start_scope r).lengths) tt (lengths-firm k (start_scope r).lengths (start-scope r).lengths))

start-numbered : (k : ℕ) (r : Rule) → Numbered k (start_known r).notes k
unfolding start_known
start-numbered k r =
    let a = assume r.place [] (map (at_most (pos 0) zero_term) (start_scope r).lengths) in
    numbered-append k (limit (leb (length r.params) 16) _) _ (numbered-limit k (leb (length r.params) 16) _)
    (numbered-append k a.notes _ (numbered-assume k r.place [] (map (at_most (pos 0) zero_term) (start_scope r).lengths)) (numbered-assume_all k (λ c. c.place) (start_names r) zero_term a.facts r.needs))

pub rules-numbered : (R : List Rule) (k : ℕ) (rs : List Rule) → (m : ℕ) × Numbered k (walk_rules R k rs).notes m
unfolding walk_rules
rules-numbered R k [] = (k, numbered-nil k)
rules-numbered R k (r ∷ rs) =
    let g = walk_body R k r in
    let o = walk-ok R _ (start_scope r) (start_stand r k) r.body (start-scope r) (start-firm r) in
    let rest = rules-numbered R g.stand.count rs in
    (rest.0, numbered-append g.stand.count ((start_known r).notes ++ g.notes) _ (numbered-append k (start_known r).notes g.notes (start-numbered k r) o.numbered) rest.1)
