-- How a book is run: what its run is given, why it is refused, how it ends; the book's run and the full run.
use Rattle.std.specs.Prelude.{ℕ, suc, ◌+◌, ◌-◌, Bool, true, false, cond, ◌&&◌, List, [], ◌∷◌, length, ℤ, pos, Some, None, Option, int_le, nat_le, nat_lt}
use Rattle.language.specs.declared.part.Part.{Part}
use Rattle.language.specs.declared.refusal.Refusal.{Refusal}
use Rattle.language.specs.declared.refusal.Refusal.TheVariants.{Call, Input, Needs}
use Rattle.language.specs.declared.ending.Ending.TheVariants.{Value}
use Rattle.language.specs.declared.ending.End.{End}
use Rattle.language.specs.Limits.{most_depth, most_fuel, longest_part}
use Rattle.language.specs.Tree.{Condition, Param, a_number, a_list, Rule, rule_at}
use Rattle.language.specs.Comparing.{satisfied}
use Rattle.language.specs.Running.{Event, done, stop, wild, Ran, in_range, Dropped, length_of, Program, enter, run, made_in}
use Rattle.language.specs.Drafts.{Sheet, Book, marked, first_open}

-- the values of a rule's names, in the order of its head: a number, or the length of a part; none where there are too few or too many
unfoldable pub gathered : List Param → List ℤ → List Part → Option (List ℤ)
gathered [] [] [] = Some []
gathered [] (x ∷ xs) ps = None
gathered [] [] (p ∷ ps) = None
gathered (a_number ∷ qs) [] ps = None
gathered (a_number ∷ qs) (x ∷ xs) ps = elim (gathered qs xs ps) [ None ↦ None | Some vs ↦ Some (x ∷ vs) ]
gathered (a_list ∷ qs) xs [] = None
gathered (a_list ∷ qs) xs (p ∷ ps) = elim (gathered qs xs ps) [ None ↦ None | Some vs ↦ Some (length_of p ∷ vs) ]

unfoldable pub every : {A : Type 0} → (A → Bool) → List A → Bool
every p [] = true
every p (x ∷ xs) = p x && every p xs

-- a part lies in the cells, and its length is at most 4,096 and at most high
abbrev pub part_fits : ℤ → ℕ → Part → Bool
part_fits high size p = nat_le (p.start + p.length) size && (nat_le p.length longest_part && int_le (length_of p) high)

abbrev pub allowed : ℤ → ℤ → ℕ → List ℤ → List Part → List ℤ → Bool
allowed low high fuel xs ps cells =
    nat_le fuel most_fuel && (every (in_range low high) xs && (every (in_range low high) cells && every (part_fits high (length cells)) ps))

-- the number of the first condition from k on that is broken
unfoldable pub first_broken : ℕ → List ℤ → List Condition → Option ℕ
first_broken k xs [] = None
first_broken k xs (c ∷ cs) = cond (satisfied xs (pos 0) c) (first_broken (suc k) xs cs) (Some k)

-- how running a book ends: refused, or with an end, the cells and what happened; or wild
pub data Answer : Type 0 where
  refused : Refusal → Answer
  ended : End → List ℤ → List Event → Answer
  astray : Answer

abbrev pub end_of : ℕ → Ran ℤ → Answer
end_of fuel r = elim r.outcome [
  | done v s ↦ ended (record { kind = Value; value = v; place = 0; steps = fuel - s.fuel; checks = length (made_in r.log) }) s.cells r.log
  | stop kind place s ↦ ended (record { kind = kind; value = pos 0; place = place; steps = fuel - s.fuel; checks = length (made_in r.log) }) s.cells r.log
  | wild ↦ astray
]

abbrev pub program_of : Sheet → Program
program_of sheet = record { low = sheet.low; high = sheet.high; bodies = sheet.bodies }

-- a body has depth 1
abbrev pub run_rule : Sheet → Dropped → ℕ → ℕ → List ℤ → List Part → List ℤ → Answer
run_rule sheet S f fuel vs ps cells =
    end_of fuel (enter (program_of sheet) (run (program_of sheet) S most_depth) f vs ps (record { fuel = fuel; cells = cells }))

abbrev pub run_if_met : Option ℕ → Sheet → Dropped → ℕ → ℕ → List ℤ → List Part → List ℤ → Answer
run_if_met (Some k) sheet S f fuel vs ps cells = refused (Needs k)
run_if_met None sheet S f fuel vs ps cells = run_rule sheet S f fuel vs ps cells

abbrev pub run_if_allowed : Bool → Sheet → Dropped → ℕ → ℕ → List ℤ → List Part → List ℤ → Answer
run_if_allowed false sheet S f fuel vs ps cells = refused Input
run_if_allowed true sheet S f fuel vs ps cells = run_if_met (first_broken 0 vs (rule_at sheet.rules f).needs) sheet S f fuel vs ps cells

abbrev pub run_if_callable : Option (List ℤ) → Sheet → Dropped → ℕ → ℕ → List ℤ → List Part → List ℤ → Answer
run_if_callable None sheet S f fuel xs ps cells = refused Call
run_if_callable (Some vs) sheet S f fuel xs ps cells = run_if_allowed (allowed sheet.low sheet.high fuel xs ps cells) sheet S f fuel vs ps cells

abbrev pub values_for : List Rule → ℕ → List ℤ → List Part → Option (List ℤ)
values_for rules f xs ps = cond (nat_lt f (length rules)) (gathered (rule_at rules f).params xs ps) None

abbrev pub run_if_open : Option Refusal → Sheet → Dropped → ℕ → ℕ → List ℤ → List Part → List ℤ → Answer
run_if_open (Some r) sheet S f fuel xs ps cells = refused r
run_if_open None sheet S f fuel xs ps cells = run_if_callable (values_for sheet.rules f xs ps) sheet S f fuel xs ps cells

-- a book's run, with these checks dropped
abbrev pub run_with : Dropped → Book → ℕ → ℕ → List ℤ → List Part → List ℤ → Answer
run_with S book f fuel xs ps cells =
    run_if_open (first_open 0 book.sheet.obligations (marked book.marks)) book.sheet S f fuel xs ps cells

-- a book's run drops what is settled; the full run makes every check
abbrev pub book_run : Book → ℕ → ℕ → List ℤ → List Part → List ℤ → Answer
book_run book = run_with (marked book.marks) book

abbrev pub full_run : Book → ℕ → ℕ → List ℤ → List Part → List ℤ → Answer
full_run book = run_with (λ n. false) book
