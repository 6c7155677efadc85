-- The walk: which term an expression has, what a sheet owes, and the first limit that it meets.
-- A limit that is met is noted, and the walk goes on as if there were none.
use Rattle.std.specs.Prelude.{◌≡◌, ℕ, suc, Bool, true, false, cond, ◌&&◌, List, [], ◌∷◌, ◌++◌, map, length, pos, Some, None, Option, nat_le, nat_lt}
use Rattle.std.specs.List.{range_with_len, AllByRecursion}
use Rattle.rows.specs.declared.row.Row.{Row}
use Rattle.language.specs.declared.term.Term.{Term}
use Rattle.language.specs.declared.duty.Duty.{Duty}
use Rattle.language.specs.declared.check.Check.TheVariants.{Below, Above}
use Rattle.language.specs.declared.duty.Duty.TheVariants.{Check, Guard}
use Rattle.language.specs.declared.refusal.Refusal.{Refusal}
use Rattle.language.specs.declared.refusal.Refusal.TheVariants.{Name, Full, Large}
use Rattle.language.specs.Limits.{quantities, most_facts, most_obligations}
use Rattle.language.specs.Tree.{Condition, Site, Expr, num, name, calc, read, call, bind, test, put, claim, Args, end, value, lent, Param, a_number, a_list, Rule, rule_at, at_lists, shape}
use Rattle.language.specs.Terms.{constant, zero_term, quantity, term_at, fits_term, limited, worked}
use Rattle.language.specs.Comparing.{at_most, rows, otherwise, condition_rows, conditions_rows}

-- an obligation's question is whether its goal follows from the facts in force when it was owed
pub record Obligation : Type 0 where
  pub number : ℕ
  pub duty : Duty
  pub place : ℕ
  pub facts : List Row
  pub goal : Row

-- what the walk notes, first to last: an obligation with the place of the expression at work, or a fault
pub data Note : Type 0 where
  owes : Obligation → ℕ → Note
  fault : Refusal → Note

-- where the walk stands: the next quantity, the facts in force, and how many obligations there are
pub record Stand : Type 0 where
  pub next : ℕ
  pub facts : List Row
  pub count : ℕ

-- the terms that the names in force stand for, and those of the lengths of the rule's lists
pub record Scope : Type 0 where
  pub names : List Term
  pub lengths : List Term

-- an expression's term, where the walk then stands, and what it noted on the way
pub record Found : Type 0 where
  pub term : Term
  pub stand : Stand
  pub notes : List Note

-- the same, and the expression with its sites numbered
pub record Got : Type 0 where
  pub term : Term
  pub stand : Stand
  pub notes : List Note
  pub tree : Expr

abbrev pub got : Expr → Found → Got
got tree f = record { term = f.term; stand = f.stand; notes = f.notes; tree = tree }

pub record Gots : Type 0 where
  pub terms : List Term
  pub stand : Stand
  pub notes : List Note
  pub tree : Args

-- a limit that is kept, or met
unfoldable pub limit : Bool → Refusal → List Note
limit true r = []
limit false r = fault r ∷ []

-- owing a row: a duty at a place, the place of the expression at work, the facts in force, and the number that the obligation gets
pub record Owing : Type 0 where
  pub count : ℕ
  pub notes : List Note

unfoldable pub owe : Duty → ℕ → ℕ → List Row → ℕ → Option Row → Owing
owe duty place work facts count None = record { count = count; notes = fault (Large work) ∷ [] }
owe duty place work facts count (Some row) =
    record { count = suc count; notes = owes (record { number = count; duty = duty; place = place; facts = facts; goal = row }) work ∷ [] }

unfoldable pub owe_all : ℕ → List Row → ℕ → List (Option Row) → Owing
owe_all place facts count [] = record { count = count; notes = [] }
owe_all place facts count (r ∷ rs) =
    let o = owe Guard place place facts count r in
    let os = owe_all place facts o.count rs in
    record { count = os.count; notes = o.notes ++ os.notes }

-- taking rows as facts; the place is that of a limit that is met
pub record Known : Type 0 where
  pub facts : List Row
  pub notes : List Note

unfoldable pub assume : ℕ → List Row → List (Option Row) → Known
assume place facts [] = record { facts = facts; notes = [] }
assume place facts (None ∷ rs) =
    let k = assume place facts rs in
    record { facts = k.facts; notes = fault (Large place) ∷ k.notes }
assume place facts (Some row ∷ rs) =
    let k = assume place (facts ++ row ∷ []) rs in
    record { facts = k.facts; notes = limit (nat_lt (length facts) most_facts) (Full place) ++ k.notes }

-- taking conditions as facts, each at its place
unfoldable pub assume_all : (Condition → ℕ) → List Term → Term → List Row → List Condition → Known
assume_all at ts r facts [] = record { facts = facts; notes = [] }
assume_all at ts r facts (c ∷ cs) =
    let k = assume (at c) facts (condition_rows ts r c) in
    let l = assume_all at ts r k.facts cs in
    record { facts = l.facts; notes = k.notes ++ l.notes }

-- the two checks of an index
unfoldable pub owe_checks : Site → ℕ → Stand → Term → Term → Owing
owe_checks site work s index length =
    let b = owe (Check Below) site.place work s.facts s.count (at_most (pos 0) zero_term index) in
    let a = owe (Check Above) site.place work s.facts b.count (at_most (pos 1) index length) in
    record { count = a.count; notes = b.notes ++ a.notes }

abbrev pub numbered : Site → ℕ → Site
numbered site count = record { place = site.place; number = count; list = site.list }

abbrev pub counted : Stand → ℕ → Stand
counted s count = record { next = s.next; facts = s.facts; count = count }

abbrev pub knowing : Stand → List Row → Stand
knowing s facts = record { next = s.next; facts = facts; count = s.count }

abbrev pub binding : Scope → Term → Scope
binding Γ t = record { names = Γ.names ++ t ∷ []; lengths = Γ.lengths }

-- the next quantity, without facts
unfoldable pub fresh : ℕ → Stand → List Note → Found
fresh place s notes = record {
  term = quantity s.next;
  stand = record { next = suc s.next; facts = s.facts; count = s.count };
  notes = notes ++ limit (nat_lt s.next quantities) (Full place);
}

-- the next quantity, of which conditions are facts
unfoldable pub fresh_with : ℕ → List Term → List Condition → Stand → List Note → Found
fresh_with place ts cs s notes =
    let f = fresh place s notes in
    let k = assume_all (λ c. place) ts f.term s.facts cs in
    record { term = f.term; stand = knowing f.stand k.facts; notes = f.notes ++ k.notes }

-- a term that was worked out, or else the next quantity
unfoldable pub or_fresh : ℕ → Option Term → Stand → List Note → Found
or_fresh place (Some t) s notes = record { term = t; stand = s; notes = notes }
or_fresh place None s notes = fresh place s notes

-- an expression is inferred, or checked against conditions, whose names stand for these terms
pub data Mode : Type 0 where
  infer : Mode
  check : List Term → List Condition → Mode

-- what is checked owes each row of the conditions, with its term for the result
unfoldable pub finish : Mode → ℕ → Found → Found
finish infer place f = f
finish (check ts cs) place f =
    let o = owe_all place f.stand.facts f.stand.count (conditions_rows ts f.term cs) in
    record { term = f.term; stand = counted f.stand o.count; notes = f.notes ++ o.notes }

-- after an if: back to after the sides; where it is inferred its term is fresh
unfoldable pub join : Mode → ℕ → Stand → List Note → Found
join infer place s notes = fresh place s notes
join (check ts cs) place s notes = record { term = zero_term; stand = s; notes = notes }

unfoldable pub same_params : List Param → List Param → Bool
same_params [] [] = true
same_params [] (q ∷ qs) = false
same_params (p ∷ ps) [] = false
same_params (a_number ∷ ps) (a_number ∷ qs) = same_params ps qs
same_params (a_number ∷ ps) (a_list ∷ qs) = false
same_params (a_list ∷ ps) (a_number ∷ qs) = false
same_params (a_list ∷ ps) (a_list ∷ qs) = same_params ps qs

-- a call of a rule that there is, with what it takes
abbrev pub callable : List Rule → ℕ → Args → Bool
callable rules f es = nat_lt f (length rules) && same_params (shape es) (rule_at rules f).params

unfoldable mutual
  pub walk : List Rule → Mode → Scope → Stand → Expr → Got
  walk R m Γ s (num p n) = got (num p n) (finish m p (or_fresh p (limited (constant (pos n))) s []))
  walk R m Γ s (name p i) = got (name p i) (finish m p (record { term = term_at Γ.names i; stand = s; notes = [] }))
  walk R m Γ s (calc p o a b) =
      let g = walk R infer Γ s a in
      let h = walk R infer Γ g.stand b in
      got (calc p o g.tree h.tree) (finish m p (or_fresh p (worked o g.term h.term) h.stand (g.notes ++ h.notes)))
  walk R m Γ s (read site e) =
      let g = walk R infer Γ s e in
      let o = owe_checks site site.place g.stand g.term (term_at Γ.lengths site.list) in
      got (read (numbered site g.stand.count) g.tree) (finish m site.place (fresh site.place (counted g.stand o.count) (g.notes ++ o.notes)))
  walk R m Γ s (call p f es) =
      let g = walks R Γ s es in
      let o = owe_all p g.stand.facts g.stand.count (conditions_rows g.terms zero_term (rule_at R f).needs) in
      got (call p f g.tree) (finish m p (fresh_with p g.terms (rule_at R f).gives (counted g.stand o.count) ((limit (callable R f es) (Name p) ++ g.notes) ++ o.notes)))
  walk R m Γ s (bind p a b) =
      let g = walk R infer Γ s a in
      let h = walk R m (binding Γ g.term) g.stand b in
      record { term = h.term; stand = h.stand; notes = g.notes ++ h.notes; tree = bind p g.tree h.tree }
  walk R m Γ s (test p c a b d e) =
      let g = walk R infer Γ s a in
      let h = walk R infer Γ g.stand b in
      let k = assume p h.stand.facts (rows c g.term h.term) in
      let x = walk R m Γ (knowing h.stand k.facts) d in
      let l = assume p h.stand.facts (otherwise c g.term h.term) in
      let y = walk R m Γ (counted (knowing h.stand l.facts) x.stand.count) e in
      got (test p c g.tree h.tree x.tree y.tree)
      (join m p (counted h.stand y.stand.count) ((g.notes ++ h.notes) ++ ((k.notes ++ x.notes) ++ (l.notes ++ y.notes))))
  walk R m Γ s (put p site a b e) =
      let g = walk R infer Γ s a in
      let h = walk R infer Γ g.stand b in
      let o = owe_checks site p h.stand g.term (term_at Γ.lengths site.list) in
      let x = walk R m Γ (counted h.stand o.count) e in
      record { term = x.term; stand = x.stand; notes = (g.notes ++ h.notes) ++ (o.notes ++ x.notes); tree = put p (numbered site h.stand.count) g.tree h.tree x.tree }
  walk R m Γ s (claim p e cs) =
      let g = walk R (check Γ.names cs) Γ s e in
      got (claim p g.tree cs) (finish m p (fresh_with p Γ.names cs (counted s g.stand.count) g.notes))

  -- arguments, from the left; a list that is lent stands for its length
  pub walks : List Rule → Scope → Stand → Args → Gots
  walks R Γ s end = record { terms = []; stand = s; notes = []; tree = end }
  walks R Γ s (value e es) =
      let g = walk R infer Γ s e in
      let h = walks R Γ g.stand es in
      record { terms = g.term ∷ h.terms; stand = h.stand; notes = g.notes ++ h.notes; tree = value g.tree h.tree }
  walks R Γ s (lent l es) =
      let h = walks R Γ s es in
      record { terms = term_at Γ.lengths l ∷ h.terms; stand = h.stand; notes = h.notes; tree = lent l h.tree }

-- every term that the walk has lies within its limits
pub record TermsFit : Type 0 where
  pub kept : (R : List Rule) (m : Mode) (Γ : Scope) (s : Stand) (e : Expr)
      → AllByRecursion (λ t. fits_term t ≡ true) Γ.names → AllByRecursion (λ t. fits_term t ≡ true) Γ.lengths → fits_term (walk R m Γ s e).term ≡ true

-- where a rule's body begins: numbers and lengths are the first quantities, each length is at least 0, and the needs hold
abbrev pub start_names : Rule → List Term
start_names r = map quantity (range_with_len 0 (length r.params))

abbrev pub start_scope : Rule → Scope
start_scope r = record { names = start_names r; lengths = at_lists r.params (start_names r) }

unfoldable pub start_known : Rule → Known
start_known r =
    let k = assume r.place [] (map (at_most (pos 0) zero_term) (start_scope r).lengths) in
    let l = assume_all (λ c. c.place) (start_names r) zero_term k.facts r.needs in
    record { facts = l.facts; notes = limit (nat_le (length r.params) quantities) (Full r.place) ++ (k.notes ++ l.notes) }

abbrev pub start_stand : Rule → ℕ → Stand
start_stand r count = record { next = length r.params; facts = (start_known r).facts; count = count }

-- a body is checked against its gives
abbrev pub walk_body : List Rule → ℕ → Rule → Got
walk_body R count r = walk R (check (start_names r) r.gives) (start_scope r) (start_stand r count) r.body

-- rule after rule
pub record Walked : Type 0 where
  pub notes : List Note
  pub bodies : List Expr

unfoldable pub walk_rules : List Rule → ℕ → List Rule → Walked
walk_rules R count [] = record { notes = []; bodies = [] }
walk_rules R count (r ∷ rs) =
    let g = walk_body R count r in
    let w = walk_rules R g.stand.count rs in
    record { notes = ((start_known r).notes ++ g.notes) ++ w.notes; bodies = g.tree ∷ w.bodies }

-- the obligations, in their order
unfoldable pub obligations_of : List Note → List Obligation
obligations_of [] = []
obligations_of (owes o work ∷ ns) = o ∷ obligations_of ns
obligations_of (fault r ∷ ns) = obligations_of ns

-- the first fault: one that was noted, or the obligation past the last that there is room for
unfoldable pub first_fault : List Note → Option Refusal
first_fault [] = None
first_fault (owes o work ∷ ns) = cond (nat_lt o.number most_obligations) (first_fault ns) (Some (Full work))
first_fault (fault r ∷ ns) = Some r
