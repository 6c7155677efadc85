-- The numbers and words of refusals, endings, checks, duties, operators and comparisons, and what an operator gives and a comparison says.
use Rattle.std.specs.Prelude.{ℕ, Bool, not, List, ℤ, ◌+ℤ◌, ◌-ℤ◌, ◌*ℤ◌, Some, None, codes, Option, int_le, int_lt}
use Rattle.ints.specs.Tests.{eq_z}
use Rattle.domains.specs.declared.fault.Fault.{Fault}
use Rattle.domains.specs.Faults.{number}
use Rattle.language.specs.declared.refusal.Refusal.{Refusal}
use Rattle.language.specs.declared.refusal.Refusal.TheVariants as Refusals
use Rattle.language.specs.declared.ending.Ending.{Ending}
use Rattle.language.specs.declared.ending.Ending.TheVariants as Endings
use Rattle.language.specs.declared.check.Check.{Check}
use Rattle.language.specs.declared.check.Check.TheVariants as Checks
use Rattle.language.specs.declared.duty.Duty.{Duty}
use Rattle.language.specs.declared.duty.Duty.TheVariants as Duties
use Rattle.language.specs.declared.operator.Operator.{Operator}
use Rattle.language.specs.declared.operator.Operator.TheVariants.{Sum, Difference, Product}
use Rattle.language.specs.declared.comparison.Comparison.{Comparison}
use Rattle.language.specs.declared.comparison.Comparison.TheVariants.{Less, LessOrEqual, Equal, NotEqual}

abbrev pub refusal_number : Refusal → ℕ
refusal_number Refusals.Range = 1
refusal_number (Refusals.Letter p) = 2
refusal_number (Refusals.Grammar p) = 3
refusal_number (Refusals.Name p) = 4
refusal_number (Refusals.Full p) = 5
refusal_number (Refusals.Large p) = 6
refusal_number Refusals.Number = 7
refusal_number Refusals.Narrow = 8
refusal_number (Refusals.Unproved p f) = 9
refusal_number (Refusals.Closed n p) = 10
refusal_number Refusals.Call = 11
refusal_number Refusals.Input = 12
refusal_number (Refusals.Needs n) = 13

abbrev pub refusal_word : Refusal → List ℕ
refusal_word Refusals.Range = codes "range"
refusal_word (Refusals.Letter p) = codes "letter"
refusal_word (Refusals.Grammar p) = codes "grammar"
refusal_word (Refusals.Name p) = codes "name"
refusal_word (Refusals.Full p) = codes "full"
refusal_word (Refusals.Large p) = codes "large"
refusal_word Refusals.Number = codes "number"
refusal_word Refusals.Narrow = codes "narrow"
refusal_word (Refusals.Unproved p f) = codes "unproved"
refusal_word (Refusals.Closed n p) = codes "closed"
refusal_word Refusals.Call = codes "call"
refusal_word Refusals.Input = codes "input"
refusal_word (Refusals.Needs n) = codes "needs"

abbrev pub refusal_place : Refusal → ℕ
refusal_place Refusals.Range = 0
refusal_place (Refusals.Letter p) = p
refusal_place (Refusals.Grammar p) = p
refusal_place (Refusals.Name p) = p
refusal_place (Refusals.Full p) = p
refusal_place (Refusals.Large p) = p
refusal_place Refusals.Number = 0
refusal_place Refusals.Narrow = 0
refusal_place (Refusals.Unproved p f) = p
refusal_place (Refusals.Closed n p) = p
refusal_place Refusals.Call = 0
refusal_place Refusals.Input = 0
refusal_place (Refusals.Needs n) = 0

abbrev pub refusal_named : Refusal → ℕ
refusal_named Refusals.Range = 0
refusal_named (Refusals.Letter p) = 0
refusal_named (Refusals.Grammar p) = 0
refusal_named (Refusals.Name p) = 0
refusal_named (Refusals.Full p) = 0
refusal_named (Refusals.Large p) = 0
refusal_named Refusals.Number = 0
refusal_named Refusals.Narrow = 0
refusal_named (Refusals.Unproved p f) = 0
refusal_named (Refusals.Closed n p) = n
refusal_named Refusals.Call = 0
refusal_named Refusals.Input = 0
refusal_named (Refusals.Needs n) = n

abbrev pub refusal_fault : Refusal → Option Fault
refusal_fault Refusals.Range = None
refusal_fault (Refusals.Letter p) = None
refusal_fault (Refusals.Grammar p) = None
refusal_fault (Refusals.Name p) = None
refusal_fault (Refusals.Full p) = None
refusal_fault (Refusals.Large p) = None
refusal_fault Refusals.Number = None
refusal_fault Refusals.Narrow = None
refusal_fault (Refusals.Unproved p f) = f
refusal_fault (Refusals.Closed n p) = None
refusal_fault Refusals.Call = None
refusal_fault Refusals.Input = None
refusal_fault (Refusals.Needs n) = None

abbrev pub refusal_reason : Refusal → ℕ
refusal_reason r = elim (refusal_fault r) [ None ↦ 0 | Some f ↦ number f.reason ]

abbrev pub refusal_depth : Refusal → ℕ
refusal_depth r = elim (refusal_fault r) [ None ↦ 0 | Some f ↦ f.depth ]

abbrev pub ending_number : Ending → ℕ
ending_number Endings.Value = 0
ending_number Endings.Spent = 1
ending_number Endings.Deep = 2
ending_number Endings.Range = 3
ending_number Endings.Below = 4
ending_number Endings.Above = 5

abbrev pub ending_word : Ending → List ℕ
ending_word Endings.Value = codes "value"
ending_word Endings.Spent = codes "spent"
ending_word Endings.Deep = codes "deep"
ending_word Endings.Range = codes "range"
ending_word Endings.Below = codes "below"
ending_word Endings.Above = codes "above"

abbrev pub check_word : Check → List ℕ
check_word Checks.Below = codes "below"
check_word Checks.Above = codes "above"

abbrev pub check_ending : Check → Ending
check_ending Checks.Below = Endings.Below
check_ending Checks.Above = Endings.Above

abbrev pub duty_word : Duty → List ℕ
duty_word (Duties.Check c) = check_word c
duty_word Duties.Guard = codes "guard"

abbrev pub operator_word : Operator → List ℕ
operator_word Sum = codes "+"
operator_word Difference = codes "-"
operator_word Product = codes "*"

abbrev pub comparison_word : Comparison → List ℕ
comparison_word Less = codes "<"
comparison_word LessOrEqual = codes "<="
comparison_word Equal = codes "="
comparison_word NotEqual = codes "!="

abbrev pub reckoned : Operator → ℤ → ℤ → ℤ
reckoned Sum x y = x +ℤ y
reckoned Difference x y = x -ℤ y
reckoned Product x y = x *ℤ y

abbrev pub holds : Comparison → ℤ → ℤ → Bool
holds Less x y = int_lt x y
holds LessOrEqual x y = int_le x y
holds Equal x y = eq_z x y
holds NotEqual x y = not (eq_z x y)
