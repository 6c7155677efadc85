-- Worked sheets as trees: what they owe, and what their runs come to.
use Rattle.std.specs.Prelude.{◌≡◌, ℕ, Bool, true, false, List, [], ◌∷◌, map, take, replicate, ℤ, pos, negsuc}
use Rattle.rows.specs.declared.row.Row.{Row}
use Rattle.language.specs.declared.part.Part.{Part}
use Rattle.language.specs.declared.check.Check.TheVariants as Checks
use Rattle.language.specs.declared.duty.Duty.{Duty}
use Rattle.language.specs.declared.duty.Duty.TheVariants as Duties
use Rattle.language.specs.declared.ending.Ending.{Ending}
use Rattle.language.specs.declared.ending.Ending.TheVariants.{Value, Spent, Deep, Above}
use Rattle.language.specs.declared.refusal.Refusal.TheVariants.{Closed, Needs}
use Rattle.language.specs.declared.operator.Operator.TheVariants.{Sum, Product}
use Rattle.language.specs.declared.comparison.Comparison.TheVariants.{Less, LessOrEqual}
use Rattle.language.specs.Tree.{one, named, result, Side, Site, num, name, calc, read, call, bind, test, put, claim, end, value, lent, a_number, a_list, Rule}
use Rattle.language.specs.Walking.{Obligation}
use Rattle.language.specs.Drafts.{Sheet, sheet_of}
use Rattle.language.specs.Entering.{Answer, refused, ended, astray, book_run}

abbrev pub site : ℕ → ℕ → Site
site place list = record { place = place; number = 0; list = list }

abbrev pub slot : ℕ → Side
slot i = record { factor = pos 1; atom = named i } ∷ []

abbrev pub zero_side : Side
zero_side = record { factor = pos 0; atom = one } ∷ []

abbrev pub result_side : Side
result_side = record { factor = pos 1; atom = result } ∷ []

-- rule pick(a[n], b[m], i) needs 0 <= i, i < n = b[a[i]];
abbrev pub pick : Rule
pick = record {
  place = 0;
  params = a_list ∷ a_list ∷ a_number ∷ [];
  needs = record { place = 31; left = zero_side; comparison = LessOrEqual; right = slot 2 } ∷ record { place = 39; left = slot 2; comparison = Less; right = slot 0 } ∷ [];
  gives = [];
  body = read (site 47 1) (read (site 49 0) (name 51 2));
}

-- rule total(a[n], i) needs 0 <= i = if i < n then a[i] + total(a, i + 1) else 0;
abbrev pub total : Rule
total = record {
  place = 0;
  params = a_list ∷ a_number ∷ [];
  needs = record { place = 26; left = zero_side; comparison = LessOrEqual; right = slot 1 } ∷ [];
  gives = [];
  body = test 35 Less (name 38 1) (name 42 0)
      (calc 54 Sum (read (site 49 0) (name 51 1)) (call 56 0 (lent 0 (value (calc 67 Sum (name 65 1) (num 69 1)) end))))
      (num 77 0);
}

-- rule mark(a[n], x) gives result <= n = let y = (x * x as 0 <= result) in put a[y] := 1 in if y < n then y else n;
abbrev pub mark : Rule
mark = record {
  place = 0;
  params = a_list ∷ a_number ∷ [];
  needs = [];
  gives = record { place = 25; left = result_side; comparison = LessOrEqual; right = slot 0 } ∷ [];
  body = bind 39 (claim 54 (calc 50 Product (name 48 1) (name 52 1)) (record { place = 57; left = zero_side; comparison = LessOrEqual; right = result_side } ∷ []))
      (put 73 (site 77 0) (name 79 2) (num 85 1)
      (test 90 Less (name 93 2) (name 97 0) (name 104 2) (name 111 0)));
}

-- an obligation: its duty, its place, its facts and its goal, each row as its bound and its first three coefficients
pub record Shown : Type 0 where
  pub duty : Duty
  pub place : ℕ
  pub facts : List (List ℤ)
  pub goal : List ℤ

abbrev pub shown_row : Row → List ℤ
shown_row r = r.bound ∷ take 3 r.coefs

abbrev pub shown : Obligation → Shown
shown o = record { duty = o.duty; place = o.place; facts = map shown_row o.facts; goal = shown_row o.goal }

-- the sheet of one rule in the widest range
abbrev pub sheet_of_rule : Rule → Sheet
sheet_of_rule r = sheet_of (negsuc 2147483647) (pos 2147483647) (r ∷ [])

abbrev pub Owes : Rule → List Shown → Type 0
Owes r os = map shown (sheet_of_rule r).obligations ≡ os

abbrev pub row : ℤ → ℤ → ℤ → ℤ → List ℤ
row bound x y z = bound ∷ x ∷ y ∷ z ∷ []

abbrev pub owed : Duty → ℕ → List (List ℤ) → List ℤ → Shown
owed duty place facts goal = record { duty = duty; place = place; facts = facts; goal = goal }

abbrev pub total_facts : List (List ℤ)
total_facts = row (pos 0) (negsuc 0) (pos 0) (pos 0) ∷ row (pos 0) (pos 0) (negsuc 0) (pos 0) ∷ row (negsuc 0) (negsuc 0) (pos 1) (pos 0) ∷ []

-- 0 <= n, then 0 <= i and i < n; the index i of total's read, then the argument i + 1 of its call
abbrev pub total_owes : List Shown
total_owes =
    owed (Duties.Check Checks.Below) 49 total_facts (row (pos 0) (pos 0) (negsuc 0) (pos 0))
    ∷ owed (Duties.Check Checks.Above) 49 total_facts (row (negsuc 0) (negsuc 0) (pos 1) (pos 0))
    ∷ owed Duties.Guard 56 total_facts (row (pos 1) (pos 0) (negsuc 0) (pos 0))
    ∷ []

-- mark's facts: 0 <= n, then of the as 0 <= y, where y is the quantity that x * x had
abbrev pub mark_facts : List (List ℤ)
mark_facts = row (pos 0) (negsuc 0) (pos 0) (pos 0) ∷ row (pos 0) (pos 0) (pos 0) (negsuc 0) ∷ []

abbrev pub mark_owes : List Shown
mark_owes =
    owed Duties.Guard 50 (row (pos 0) (negsuc 0) (pos 0) (pos 0) ∷ []) (row (pos 0) (pos 0) (pos 0) (negsuc 0))
    ∷ owed (Duties.Check Checks.Below) 77 mark_facts (row (pos 0) (pos 0) (pos 0) (negsuc 0))
    ∷ owed (Duties.Check Checks.Above) 77 mark_facts (row (negsuc 0) (negsuc 0) (pos 0) (pos 1))
    ∷ owed Duties.Guard 104 (row (pos 0) (negsuc 0) (pos 0) (pos 0) ∷ row (pos 0) (pos 0) (pos 0) (negsuc 0) ∷ row (negsuc 0) (negsuc 0) (pos 0) (pos 1) ∷ []) (row (pos 0) (negsuc 0) (pos 0) (pos 1))
    ∷ owed Duties.Guard 111 (row (pos 0) (negsuc 0) (pos 0) (pos 0) ∷ row (pos 0) (pos 0) (pos 0) (negsuc 0) ∷ row (pos 0) (pos 1) (pos 0) (negsuc 0) ∷ []) (row (pos 0) (pos 0) (pos 0) (pos 0))
    ∷ []

-- the run of a book with these marks: how it ends
abbrev pub run_of : Rule → List Bool → ℕ → List ℤ → List Part → List ℤ → Answer
run_of r marks = book_run (record { sheet = sheet_of_rule r; marks = marks }) 0

abbrev pub Ends : Answer → Ending → ℤ → ℕ → ℕ → ℕ → Type 0
Ends (refused r) kind v place steps checks = ⊥
Ends (ended e cells log) kind v place steps checks = (e.kind ≡ kind) × (e.value ≡ v) × (e.place ≡ place) × (e.steps ≡ steps) × (e.checks ≡ checks)
Ends astray kind v place steps checks = ⊥

abbrev pub part : ℕ → ℕ → Part
part start length = record { start = start; length = length }

-- pick on two lists of two cells, the second 7 and 9
abbrev pub run_pick : ℕ → ℤ → Answer
run_pick fuel x = run_of pick [] fuel (pos 0 ∷ []) (part 0 2 ∷ part 2 2 ∷ []) (x ∷ pos 0 ∷ pos 7 ∷ pos 9 ∷ [])

-- total from 0, its guard settled, and its checks too or not
abbrev pub run_total : Bool → List ℤ → ℕ → Answer
run_total checks cells length = run_of total (checks ∷ checks ∷ true ∷ []) 1000000 (pos 0 ∷ []) (part 0 length ∷ []) cells

pub record Worked : Type 0 where
  pub pick-value : Ends (run_pick 1000000 (pos 1)) Value (pos 9) 0 3 4
  pub pick-spent : Ends (run_pick 2 (pos 1)) Spent (pos 0) 51 2 0
  pub pick-above : Ends (run_pick 1000000 (pos 2)) Above (pos 0) 47 3 4
  pub pick-needs : run_of pick [] 1000000 (pos 2 ∷ []) (part 0 2 ∷ part 2 2 ∷ []) (pos 0 ∷ pos 0 ∷ pos 0 ∷ pos 0 ∷ []) ≡ refused (Needs 1)
  pub total-closed : run_of total [] 1000000 (pos 0 ∷ []) (part 0 0 ∷ []) [] ≡ refused (Closed 2 56)
  pub total-value : Ends (run_total false (pos 2 ∷ pos 3 ∷ []) 2) Value (pos 5) 0 24 4
  pub total-dropped : Ends (run_total true (pos 2 ∷ pos 3 ∷ []) 2) Value (pos 5) 0 24 0
  pub total-long : Ends (run_total false (replicate 666 (pos 1)) 666) Value (pos 666) 0 6664 1332
  pub total-deep : Ends (run_total false (replicate 667 (pos 1)) 667) Deep (pos 0) 49 6665 1332
  pub total-owes : Owes total total_owes
  pub mark-owes : Owes mark mark_owes
