-- A book of a sheet that was taken can be run: the head, the needs and the body of each rule lie in its records.
use Rattle.std.proofs.Common.{◌≡◌, ℕ, zero, suc, ◌<◌, ◌≤◌, List, [], ◌∷◌, map, length, ℤ, Some, None, Option, sym, refl, ap, ◌∙◌, subst, arith, pos, ◌&&◌}
use Rattle.std.specs.Prelude.{int_le}
use Rattle.std.specs.List.{AllByRecursion, slice_get}
use Rattle.std.proofs.lemmas.Option.{none-some, same_Some}
use Rattle.language.specs.declared.refusal.Refusal.{Refusal}
use Rattle.language.specs.declared.refusal.Refusal.TheVariants.{Range}
use Rattle.language.proofs.Tests.{cond-none}
use Rattle.language.specs.Tree.{Expr, Rule, rule_at}
use Rattle.language.specs.Walking.{walk_rules, first_fault}
use Rattle.language.specs.Drafts as Drafts
use Rattle.language.specs.Drafts.{Sheet, sheet_of, sheet_if, refusal_of}
use Rattle.records.specs.declared.entry.Entry.{Entry}
use Rattle.records.specs.Columns.{entries_in}
use Rattle.walking.specs.Walked.{with_bodies}
use Rattle.reading.specs.Answers.{Holds}
use Rattle.running.specs.Standing as Standing
use Rattle.running.specs.Standing.{Few}
use Rattle.running.proofs.Standing.{book_of, bodies_of}
use Rattle.entering.specs.Inputs.{Headed}
use Rattle.entering.proofs.Callables.{clear_notes, few_bodies}
use Rattle.entering.proofs.Needing.{few_needs}
use Rattle.engine.specs.declared.book.Book.{Book}
use Rattle.engine.specs.Clearing.{BookIs, BookOf}
use Rattle.engine.specs.Sheeted.{Sheeted}
use Rattle.engine.proofs.Heads.{headed}

-- what is so of all is so of each
all_at : {X : Type 0} (P : X → Type 0) (xs : List X) (i : ℕ) (x : X) → AllByRecursion P xs → slice_get xs i ≡ Some x → P x
all_at P [] i x a e = absurd (none-some x e)
all_at P (y ∷ ys) zero x a e = subst P (same_Some y x e) a.0
all_at P (y ∷ ys) (suc i) x a e = all_at P ys i x a.1 e

all_rules_at : (P : Rule → Type 0) (rs : List Rule) (f : ℕ) → AllByRecursion P rs → f < length rs → P (rule_at rs f)
all_rules_at P [] f a h = absurd (omega arith)
all_rules_at P (r ∷ rs) zero a h = a.0
all_rules_at P (r ∷ rs) (suc f) a h = all_rules_at P rs f a.1 (omega arith)

-- rules with other bodies have these bodies
bodies_are : (rs : List Rule) (bs : List Expr) → length bs ≡ length rs → map (λ (r : Rule). r.body) (with_bodies rs bs) ≡ bs
unfolding with_bodies
bodies_are [] [] e = refl
bodies_are [] (b ∷ bs) e = absurd (omega arith)
bodies_are (r ∷ rs) [] e = absurd (omega arith)
bodies_are (r ∷ rs) (b ∷ bs) e = ap (λ xs. b ∷ xs) (bodies_are rs bs (omega arith))

as_many_rules : (rs : List Rule) (bs : List Expr) → length bs ≡ length rs → length (with_bodies rs bs) ≡ length rs
unfolding with_bodies
as_many_rules [] [] e = refl
as_many_rules [] (b ∷ bs) e = absurd (omega arith)
as_many_rules (r ∷ rs) [] e = absurd (omega arith)
as_many_rules (r ∷ rs) (b ∷ bs) e = ap suc (as_many_rules rs bs (omega arith))

few_with : (n : ℕ) (rs : List Rule) (bs : List Expr) → AllByRecursion (Few n) bs → AllByRecursion (λ (r : Rule). Few n r.body) (with_bodies rs bs)
unfolding with_bodies
few_with n [] bs a = tt
few_with n (r ∷ rs) [] a = tt
few_with n (r ∷ rs) (b ∷ bs) a = (a.0, few_with n rs bs a.1)

-- a sheet that was taken has few needs a rule, and calls that keep to its rules
record Taken (sheet : Sheet) : Type 0 where
  needs : AllByRecursion (λ (r : Rule). length r.needs ≤ 24) sheet.rules
  calls : ((f : ℕ) → f < length sheet.rules → length (rule_at sheet.rules f).params ≤ 12) → AllByRecursion (Few (length sheet.rules)) sheet.bodies

taken_so : (o : Option Refusal) (low high : ℤ) (rules : List Rule) → (o ≡ None → first_fault (walk_rules rules 0 rules).notes ≡ None) → Taken (sheet_if o low high rules)
taken_so (Some r) low high rules h = record { needs = tt; calls = λ few. tt }
taken_so None low high rules h =
    let clear = clear_notes (walk_rules rules 0 rules).notes (h refl) in
    record { needs = few_needs rules 0 rules clear; calls = λ few. few_bodies rules few 0 rules clear }

no_fault : (low high : ℤ) (rules : List Rule) → refusal_of low high rules ≡ None → first_fault (walk_rules rules 0 rules).notes ≡ None
unfolding refusal_of
no_fault low high rules e = (cond-none (int_le low (pos 0) && int_le (pos 0) high) (first_fault (walk_rules rules 0 rules).notes) Range e).1

-- what a run needs of a book
pub record Runnable (book : Book) (b : Drafts.Book) : Type 0 where
  pub is : BookIs book b
  pub low : ℤ
  pub high : ℤ
  pub rules : List Rule
  pub taken : b.sheet ≡ sheet_of low high rules
  pub heads : (f : ℕ) → f < book.sizes.rules → Headed book.records.now f (rule_at b.sheet.rules f)
  pub library : Standing.Book book.records.now
  pub bodies : library.bodies ≡ b.sheet.bodies
  pub as_many : length b.sheet.bodies ≡ book.sizes.rules

module _ (book : Book) (b : Drafts.Book) (k : BookOf book b) where
  taken : Taken b.sheet
  taken = subst Taken (sym k.taken) (taken_so (refusal_of k.low k.high k.rules) k.low k.high k.rules (no_fault k.low k.high k.rules))

  holds : Holds book.records.now book.sizes b.sheet
  holds = k.is.holds

  params_few : (f : ℕ) → f < length b.sheet.rules → length (rule_at b.sheet.rules f).params ≤ 12
  params_few f h = all_rules_at (λ (r : Rule). length r.params ≤ 12) b.sheet.rules f holds.small.heads h

  heads : (f : ℕ) → f < book.sizes.rules → Headed book.records.now f (rule_at b.sheet.rules f)
  heads f h =
      let within : f < length b.sheet.rules = omega (arith, h, holds.rules) in
      let n : length (rule_at b.sheet.rules f).needs ≤ 24 = all_rules_at (λ (r : Rule). length r.needs ≤ 24) b.sheet.rules f taken.needs within in
      headed book.records.now book.sizes.rules b.sheet.rules b.sheet.bodies holds.small.room holds.stand f h (params_few f within) (omega (arith, n))

  -- the bodies stand where the entries say
  library : (l : Standing.Book book.records.now) × (l.bodies ≡ b.sheet.bodies)
  library =
      let r = book.records.now in let n = book.sizes.rules in let rs = with_bodies b.sheet.rules b.sheet.bodies in
      let m = as_many_rules b.sheet.rules b.sheet.bodies holds.small.bodies in
      let fs = few_with (length b.sheet.rules) b.sheet.rules b.sheet.bodies (taken.calls params_few) in
      let below = λ (f : ℕ) (e : Entry) (g : slice_get (entries_in r n) f ≡ Some e). all_at (λ (e : Entry). e.body < 16384) (entries_in r n) f e holds.small.below g in
      let few = λ (f : ℕ) (q : Rule) (g : slice_get rs f ≡ Some q). subst (λ (k : ℕ). Few k q.body) (sym m) (all_at (λ (q : Rule). Few (length b.sheet.rules) q.body) rs f q fs g) in
      (book_of r n 0 rs holds.small.room holds.stand below few, bodies_of r n 0 rs holds.small.room holds.stand below few ∙ bodies_are b.sheet.rules b.sheet.bodies holds.small.bodies)

  pub runnable : Runnable book b
  runnable = record {
    is = k.is;
    low = k.low;
    high = k.high;
    rules = k.rules;
    taken = k.taken;
    heads = heads;
    library = library.0;
    bodies = library.1;
    as_many = holds.small.bodies ∙ sym holds.rules;
  }

-- the book of the sheet that a book's records hold
pub book_in : (book : Book) → Sheeted book.low book.high book.records.now book.sizes book.marks → Drafts.Book
book_in book s = record { sheet = sheet_of s.bottom s.top s.rules; marks = s.own }

pub runnable_in : (book : Book) (s : Sheeted book.low book.high book.records.now book.sizes book.marks) → Runnable book (book_in book s)
unfolding book_in
runnable_in book s = runnable book (book_in book s) (record {
  is = record { holds = s.holds; low = s.from; high = s.to; many = s.many; marks = s.stand };
  low = s.bottom;
  high = s.top;
  rules = s.rules;
  taken = refl;
})
