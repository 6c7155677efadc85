-- The promise, put together: a sheet that is taken, a history, and the runs of its book.
use Rattle.std.proofs.Common.{◌≡◌, ℕ, zero, suc, ◌+◌, ◌<◌, Bool, true, false, ◌&&◌, ◌||◌, T, ltb, List, [], ◌∷◌, length, get_or, ℤ, pos, ◌≤ℤ◌, Some, None, Ok, Option, sym, refl, ap, ◌∙◌, subst, ⊎_elim, add-zero, arith, ltb→lt}
use Rattle.std.proofs.lemmas.Bool.{eq-eqb, ne_eqb}
use lib.Signed.{le_z, le_z_yes}
use Rattle.std.specs.List.{AllByRecursion, slice_get}
use Rattle.rows.specs.Meaning.{Follows}
use Rattle.language.specs.declared.part.Part.{Part}
use Rattle.language.specs.declared.refusal.Refusal.{Refusal}
use Rattle.language.specs.declared.refusal.Refusal.TheVariants.{Range}
use Rattle.language.specs.Tree.{Expr, Rule, no_expr}
use Rattle.language.specs.Walking.{Obligation, walk_rules, obligations_of, first_fault}
use Rattle.language.specs.Running.{in_range, Dropped}
use Rattle.language.specs.Drafts.{Sheet, Book, refusal_of, sheet_if, sheet_of, draft_of, is_guard, marked, first_open, answered}
use Rattle.language.specs.Histories.{Step, draft_after, plain_after, on}
use Rattle.language.specs.Entering.{Answer, refused, ended, astray, program_of, run_if_open, book_run, full_run}
use Rattle.language.specs.Promise.{HadGood, Answers, Agrees, Promise}
use Rattle.language.proofs.Walks.{rules-numbered}
use Rattle.language.proofs.Duties.{Fine}
use Rattle.language.proofs.Same.{full}
use Rattle.language.proofs.Induction.{BodyOk}
use Rattle.language.proofs.Settlings.{listed-from, listed-to, marks-after, marks-fresh, settled-follows}
use Rattle.language.proofs.Readiness.{all_closed, answers, fine-notes, bodies}
use Rattle.language.proofs.Entry.{runs-agree}
use Rattle.language.proofs.Tests.{both-from, both_left, both_right, cond-none}

-- a sheet is what the walk made of its rules, without a fault
pub record Proper (sheet : Sheet) : Type 0 where
  pub low : sheet.low ≤ℤ pos 0
  pub high : pos 0 ≤ℤ sheet.high
  pub no-fault : first_fault (walk_rules sheet.rules 0 sheet.rules).notes ≡ None
  pub bodies-are : sheet.bodies ≡ (walk_rules sheet.rules 0 sheet.rules).bodies
  pub obligations-are : sheet.obligations ≡ obligations_of (walk_rules sheet.rules 0 sheet.rules).notes

pub proper : (low high : ℤ) (rules : List Rule) → Proper (sheet_of low high rules)
proper low high rules = go (refusal_of low high rules) refl
  where
    unfold-none : (refusal_of low high rules ≡ None) → T (le_z low (pos 0) && le_z (pos 0) high) × (first_fault (walk_rules rules 0 rules).notes ≡ None)
    unfold-none e = unfold refusal_of in cond-none (le_z low (pos 0) && le_z (pos 0) high) (first_fault (walk_rules rules 0 rules).notes) Range e

    go : (o : Option Refusal) → refusal_of low high rules ≡ o → Proper (sheet_if o low high rules)
    go None e =
        let t = unfold-none e in
        record { low = le_z_yes (both_left (le_z low (pos 0)) _ t.0); high = le_z_yes (both_right (le_z low (pos 0)) _ t.0); no-fault = t.1; bodies-are = refl; obligations-are = refl }
    go (Some r) e = unfold walk_rules first_fault obligations_of in
        record { low = le_z_yes tt; high = le_z_yes tt; no-fault = refl; bodies-are = refl; obligations-are = refl }

-- the settled rows of a sheet follow, and no guard is open
module _ (sheet : Sheet) (p : Proper sheet) (S : Dropped) (list : List ℕ) (same : (n : ℕ) → S n ≡ on list n)
    (holds : (n : ℕ) (o : Obligation) → slice_get sheet.obligations n ≡ Some o → T (S n) → Follows sheet.low sheet.high o.facts o.goal) (closed : first_open 0 sheet.obligations S ≡ None) where
  fine : AllByRecursion (Fine sheet.low sheet.high S) (walk_rules sheet.rules 0 sheet.rules).notes
  fine =
      let w = rules-numbered sheet.rules 0 sheet.rules in
      fine-notes sheet.low sheet.high S 0 w.0 (walk_rules sheet.rules 0 sheet.rules).notes w.1.counts p.no-fault
      (λ i o e.
      let is : slice_get sheet.obligations i ≡ Some o = ap (λ (os : List Obligation). slice_get os i) p.obligations-are ∙ e in
      subst (λ (j : ℕ). (T (is_guard o.duty) → T (S j)) × (T (S j) → Follows sheet.low sheet.high o.facts o.goal)) (sym (add-zero i))
      ((λ g. all_closed S sheet.obligations closed i o is g), (λ t. holds i o is t)))

  zero-fits : T (in_range sheet.low sheet.high (pos 0))
  zero-fits = both-from (le_z sheet.low (pos 0)) _ p.low.le p.high.le

  body_ok : (N f : ℕ) → T (ltb f (length sheet.rules)) → BodyOk sheet.rules (program_of sheet) S N f
  body_ok N f l =
      let b = bodies sheet.low sheet.high S sheet.rules 0 sheet.rules fine f (ltb→lt f (length sheet.rules) l) in
      record { count = b.count; body = ap (λ (es : List Expr). get_or es f no_expr) p.bodies-are ∙ b.body; start = b.start; notes = b.notes }

  open-agree : (f fuel : ℕ) (xs : List ℤ) (ps : List Part) (cells : List ℤ)
      → Agrees sheet list (run_if_open (first_open 0 sheet.obligations S) sheet S f fuel xs ps cells) (run_if_open (first_open 0 sheet.obligations S) sheet full f fuel xs ps cells)
  open-agree f fuel xs ps cells =
      subst (λ (o : Option Refusal). Agrees sheet list (run_if_open o sheet S f fuel xs ps cells) (run_if_open o sheet full f fuel xs ps cells)) (sym closed)
      (runs-agree sheet list S same p.low zero-fits body_ok f fuel xs ps cells)

answered-yes : (o : Option Refusal) → answered o ≡ Ok tt → o ≡ None
answered-yes None e = refl
answered-yes (Some r) e = let no : ◌≡◌ {A = ℕ} 0 1 = cc in let bad : ⊥ = omega arith in absurd bad

pub theorem : Promise
theorem low high rules history =
    let sheet = sheet_of low high rules in
    let list = plain_after sheet [] history in
    let draft = draft_after (draft_of sheet) history in
    let m = marks-after sheet history (draft_of sheet) [] (marks-fresh sheet) in
    let had = λ (n : ℕ) (t : T (on list n)). ⊎_elim (λ x. absurd (nothing n x)) (λ (x : HadGood sheet n history). x) (listed-to sheet history [] n t) in
    record {
      listed = λ n. (had n, listed-from sheet history [] n);
      marks = m.same;
      answer = subst (λ (s : Sheet). Answers sheet list (answered (first_open 0 s.obligations (marked draft.marks)))) (sym m.sheet-is) (answers sheet list (marked draft.marks) m.same);
      runs = λ yes-answer f fuel xs ps cells.
          subst (λ (s : Sheet). Agrees sheet list (run_if_open (first_open 0 s.obligations (marked draft.marks)) s (marked draft.marks) f fuel xs ps cells) (run_if_open (first_open 0 s.obligations (marked draft.marks)) s full f fuel xs ps cells)) (sym m.sheet-is)
          (open-agree sheet (proper low high rules) (marked draft.marks) list m.same (λ n o is t. settled-follows sheet n history (had n (subst T (m.same n) t)) o is)
          (ap (λ (s : Sheet). first_open 0 s.obligations (marked draft.marks)) (sym m.sheet-is) ∙ answered-yes _ yes-answer) f fuel xs ps cells);
    }
  where
    nothing : (n : ℕ) → T (on [] n) → ⊥
    nothing n t = unfold on in t

-- the numbers of the marks that are set, from k on
unfoldable set_from : ℕ → List Bool → List ℕ
set_from k [] = []
set_from k (true ∷ bs) = k ∷ set_from (suc k) bs
set_from k (false ∷ bs) = set_from (suc k) bs

not_before : (k n : ℕ) (bs : List Bool) → n < k → on (set_from k bs) n ≡ false
unfolding on set_from
not_before k n [] l = refl
not_before k n (true ∷ bs) l = ap (λ b. b || on (set_from (suc k) bs) n) (ne_eqb k n (λ e. let no : ⊥ = omega (arith, l, e) in no)) ∙ not_before (suc k) n bs (omega arith)
not_before k n (false ∷ bs) l = not_before (suc k) n bs (omega arith)

set_on : (k n : ℕ) (bs : List Bool) → marked bs n ≡ on (set_from k bs) (k + n)
unfolding on set_from
set_on k n [] = refl
set_on k zero (true ∷ bs) = sym (ap (λ b. b || on (set_from (suc k) bs) (k + 0)) (eq-eqb k (k + 0) (omega arith)))
set_on k zero (false ∷ bs) = sym (not_before (suc k) (k + 0) bs (omega arith))
set_on k (suc n) (true ∷ bs) = set_on (suc k) n bs ∙ ap (on (set_from (suc k) bs)) (let e : suc k + n ≡ k + suc n = omega arith in e) ∙ sym (ap (λ b. b || on (set_from (suc k) bs) (k + suc n)) (ne_eqb k (k + suc n) (λ e. let no : ⊥ = omega (arith, e) in no)))
set_on k (suc n) (false ∷ bs) = set_on (suc k) n bs ∙ ap (on (set_from (suc k) bs)) (let e : suc k + n ≡ k + suc n = omega arith in e)

-- a run that touches what lies outside
abbrev pub Inside : Answer → Type 0
Inside (refused r) = Unit {0}
Inside (ended e cells log) = Unit {0}
Inside astray = ⊥

inside_both : (sheet : Sheet) (list : List ℕ) (a b : Answer) → Agrees sheet list a b → Inside a × Inside b
inside_both sheet list (refused r) (refused q) g = (tt, tt)
inside_both sheet list (refused r) (ended e cells log) g = absurd g
inside_both sheet list (refused r) astray g = absurd g
inside_both sheet list (ended e cells log) (refused q) g = absurd g
inside_both sheet list (ended e cells log) (ended e' cells' log') g = (tt, tt)
inside_both sheet list (ended e cells log) astray g = absurd g
inside_both sheet list astray (refused q) g = absurd g
inside_both sheet list astray (ended e cells log) g = absurd g
inside_both sheet list astray astray g = absurd g

-- of a book whose settled rows follow, and which has no open guard, neither run touches what lies outside
pub never_astray : (book : Book) → Proper book.sheet → ((n : ℕ) (o : Obligation) → slice_get book.sheet.obligations n ≡ Some o → T (marked book.marks n) → Follows book.sheet.low book.sheet.high o.facts o.goal)
    → (f fuel : ℕ) (xs : List ℤ) (ps : List Part) (cells : List ℤ) → Inside (book_run book f fuel xs ps cells) × Inside (full_run book f fuel xs ps cells)
never_astray book p holds f fuel xs ps cells = go (first_open 0 book.sheet.obligations (marked book.marks)) refl
  where
    go : (o : Option Refusal) → first_open 0 book.sheet.obligations (marked book.marks) ≡ o → Inside (run_if_open o book.sheet (marked book.marks) f fuel xs ps cells) × Inside (run_if_open o book.sheet full f fuel xs ps cells)
    go (Some r) e = (tt, tt)
    go None e =
        let list = set_from 0 book.marks in
        let a = open-agree book.sheet p (marked book.marks) list (λ n. set_on 0 n book.marks ∙ ap (on list) (let z : 0 + n ≡ n = omega arith in z)) holds e f fuel xs ps cells in
        inside_both book.sheet list _ _ (subst (λ (o : Option Refusal). Agrees book.sheet list (run_if_open o book.sheet (marked book.marks) f fuel xs ps cells) (run_if_open o book.sheet full f fuel xs ps cells)) e a)
