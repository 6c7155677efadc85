-- A book that can be run is entered as the definition's.
use Rattle.std.proofs.Common.{◌≡◌, ℕ, ◌-◌, Bool, true, false, T, List, [], length, ℤ, Some, None, Err, Option, Result, sym, refl, ap, ◌∙◌, subst, arith}
use Rattle.std.specs.List.{slice_get}
use Rattle.std.proofs.lemmas.Option.{slice_get_within}
use Rattle.rows.specs.Meaning.{Follows}
use Rattle.language.specs.declared.ending.End.{End}
use Rattle.language.specs.declared.part.Part.{Part}
use Rattle.language.specs.declared.refusal.Refusal.{Refusal}
use Rattle.language.specs.Tree.{rule_at}
use Rattle.language.specs.Walking.{Obligation}
use Rattle.language.specs.Drafts as Drafts
use Rattle.language.specs.Drafts.{Sheet, sheet_of, marked, first_open}
use Rattle.language.specs.Running.{Dropped}
use Rattle.language.specs.Entering.{Answer, refused, ended, astray, values_for, run_if_callable, run_if_open, run_with}
use Rattle.language.proofs.Theorem.{Proper, proper, Inside, never_astray}
use Rattle.records.proofs.Asking.{owes_at}
use Rattle.records.specs.declared.record.Record.{Record}
use Rattle.running.specs.declared.program.Program.{Program}
use Rattle.running.specs.Standing as Standing
use Rattle.entering.specs.Inputs.{Headed, Tamed, Ready, Answered}
use Rattle.engine.specs.declared.book.Book.{Book}
use Rattle.engine.specs.Kept.{Kept}
use Rattle.engine.proofs.Runnable.{Runnable}
use Rattle.engine.proofs.Marks.{marked_front}

tamed : (a : Answer) → Inside a → Tamed a
tamed (refused r) x = x
tamed (ended e cells log) x = x
tamed astray x = x

is_true : (b : Bool) → T b → b ≡ true
is_true true t = refl
is_true false t = absurd t

module _ (book : Book) (b : Drafts.Book) (k : Runnable book b) where
  marks_are : (n : ℕ) → marked book.marks n ≡ marked b.marks n
  marks_are n = marked_front book.marks b.marks (128 - length b.marks) n k.is.marks

  pub same_marks : marked book.marks ≡ marked b.marks
  same_marks = λ i n. marks_are n i

  sheet_proper : Proper b.sheet
  sheet_proper = subst Proper (sym k.taken) (proper k.low k.high k.rules)

  -- what is settled follows
  settled_follows : Kept book.low book.high book.records.now book.sizes.owed book.marks → (n : ℕ) (o : Obligation) → slice_get b.sheet.obligations n ≡ Some o → T (marked b.marks n) → Follows b.sheet.low b.sheet.high o.facts o.goal
  settled_follows kept n o is t =
      let f = kept (record { number = n; obligation = o; below = (let h = slice_get_within b.sheet.obligations n o is in let e = k.is.holds.owed in omega (arith, h, e)); marked = marks_are n ∙ is_true (marked b.marks n) t; owes = owes_at book.records.now b.sheet.obligations n o k.is.holds.owes is }) in
      subst (λ (h : ℤ). Follows b.sheet.low h o.facts o.goal) k.is.high (subst (λ (l : ℤ). Follows l book.high o.facts o.goal) k.is.low f)

  module _ (kept : Kept book.low book.high book.records.now book.sizes.owed book.marks) (none_open : first_open 0 b.sheet.obligations (marked b.marks) ≡ None) where
    -- neither run touches what lies outside
    book_inside : (f fuel : ℕ) (xs : List ℤ) (ps : List Part) (cells : List ℤ) → Tamed (run_if_callable (values_for b.sheet.rules f xs ps) b.sheet (marked b.marks) f fuel xs ps cells)
    book_inside f fuel xs ps cells =
        tamed _ (subst (λ (o : Option Refusal). Inside (run_if_open o b.sheet (marked b.marks) f fuel xs ps cells)) none_open (never_astray b sheet_proper (settled_follows kept) f fuel xs ps cells).0)

    full_inside : (f fuel : ℕ) (xs : List ℤ) (ps : List Part) (cells : List ℤ) → Tamed (run_if_callable (values_for b.sheet.rules f xs ps) b.sheet (λ n. false) f fuel xs ps cells)
    full_inside f fuel xs ps cells =
        tamed _ (subst (λ (o : Option Refusal). Inside (run_if_open o b.sheet (λ n. false) f fuel xs ps cells)) none_open (never_astray b sheet_proper (settled_follows kept) f fuel xs ps cells).1)

    -- a program over the book's records, with these checks dropped
    module _ (p : Program) (S : Dropped) (rs : p.records.now ≡ book.records.now) (lo : p.low ≡ book.low) (hi : p.high ≡ book.high) (ds : marked p.dropped.now ≡ S)
        (inside : (f fuel : ℕ) (xs : List ℤ) (ps : List Part) (cells : List ℤ) → Tamed (run_if_callable (values_for b.sheet.rules f xs ps) b.sheet S f fuel xs ps cells)) where
      pub program_ready : Ready p book.sizes.rules b.sheet
      program_ready = record {
        low = lo ∙ k.is.low;
        high = hi ∙ k.is.high;
        many = k.is.holds.rules;
        heads = λ f h. subst (λ (r : List Record). Headed r f (rule_at b.sheet.rules f)) (sym rs) (k.heads f h);
        book = (library_in).0;
        bodies = (library_in).1;
        as_many = k.as_many;
        inside = λ f fuel xs ps cells. subst (λ (S : Dropped). Tamed (run_if_callable (values_for b.sheet.rules f xs ps) b.sheet S f fuel xs ps cells)) (sym ds) (inside f fuel xs ps cells);
      }
        where
          library_in : (l : Standing.Book p.records.now) × (l.bodies ≡ b.sheet.bodies)
          library_in = subst (λ (r : List Record). (l : Standing.Book r) × (l.bodies ≡ b.sheet.bodies)) (sym rs) (k.library, k.bodies)

    pub book_ready : (p : Program) → p.records.now ≡ book.records.now → p.low ≡ book.low → p.high ≡ book.high → p.dropped.now ≡ book.marks → Ready p book.sizes.rules b.sheet
    book_ready p rs lo hi ds = program_ready p (marked b.marks) rs lo hi (ap marked ds ∙ same_marks) book_inside

    pub full_ready : (p : Program) → p.records.now ≡ book.records.now → p.low ≡ book.low → p.high ≡ book.high → p.dropped.now ≡ [] → Ready p book.sizes.rules b.sheet
    full_ready p rs lo hi ds = program_ready p (λ n. false) rs lo hi (ap marked ds) full_inside

-- a closed book, and an open one
module _ (S : Dropped) (b : Drafts.Book) (f fuel : ℕ) (xs : List ℤ) (ps : List Part) (cells : List ℤ) where
  pub closed_refuses : (r : Refusal) → Some r ≡ first_open 0 b.sheet.obligations (marked b.marks) → Answered (Err r) cells cells (run_with S b f fuel xs ps cells)
  closed_refuses r e = subst (λ (o : Option Refusal). Answered (Err r) cells cells (run_if_open o b.sheet S f fuel xs ps cells)) e (refl, refl)

  pub open_answers : (r : Result End Refusal) (after : List ℤ) (D : Dropped) → D ≡ S → first_open 0 b.sheet.obligations (marked b.marks) ≡ None
      → Answered r cells after (run_if_callable (values_for b.sheet.rules f xs ps) b.sheet D f fuel xs ps cells) → Answered r cells after (run_with S b f fuel xs ps cells)
  open_answers r after D d e x =
      subst (λ (o : Option Refusal). Answered r cells after (run_if_open o b.sheet S f fuel xs ps cells)) (sym e)
      (subst (λ (D : Dropped). Answered r cells after (run_if_callable (values_for b.sheet.rules f xs ps) b.sheet D f fuel xs ps cells)) d x)
