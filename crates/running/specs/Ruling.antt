-- What a rule's body is run with, and that its run ends as the definition's.
use Rattle.std.specs.Prelude.{◌≡◌, ℕ, ◌<◌, List, ℤ, pos, length, Ok, Err, Result}
use Rattle.language.specs.declared.ending.End.{End}
use Rattle.language.specs.declared.ending.Ending.TheVariants.{Value}
use Rattle.language.specs.declared.part.Part.{Part}
use Rattle.language.specs.Drafts.{marked}
use Rattle.language.specs.Entering.{ended, end_of}
use Rattle.language.specs.Limits.{most_depth}
use Rattle.language.specs.Running.{Run, enter, run}
use Rattle.running.specs.declared.program.Program.{Program}
use Rattle.running.specs.declared.program.Stop.{Stop}
use Rattle.running.specs.declared.runner.Runner.{Runner}
use Rattle.running.specs.Ending.{Ends, Tame, state_of, program_of}
use Rattle.running.specs.Standing.{Book}

-- the definition's run of a rule's body, with the values of its names and the parts of its lists
abbrev pub rule_in : (p : Program) → Book p.records.now → ℕ → List ℤ → List Part → Run ℤ
rule_in p book rule xs ps = enter (program_of p book.bodies) (run (program_of p book.bodies) (marked p.dropped.now) most_depth) rule xs ps

-- the rules' bodies stand in the records, the rule is one of them, and its run touches nothing outside
pub record RuleRuns (p : Program) (rule : ℕ) (xs : List ℤ) (ps : List Part) (fuel : ℕ) (cells : List ℤ) : Type 0 where
  pub book : Book p.records.now
  pub there : rule < length book.bodies
  pub tame : Tame (rule_in p book rule xs ps (record { fuel = fuel; cells = cells }))

abbrev pub RuleEvals : Result ℤ Stop → Program → ℕ → List ℤ → List Part → Runner → Runner → Type 0
RuleEvals result p rule xs ps w v = (r : RuleRuns p rule xs ps w.fuel w.cells.now) → Ends result (rule_in p r.book rule xs ps (state_of w)) w v

-- the end by what was worked out or where it stopped
abbrev pub end_by : Result ℤ Stop → ℕ → ℕ → End
end_by (Ok v) steps checks = record { kind = Value; value = v; place = 0; steps = steps; checks = checks }
end_by (Err e) steps checks = record { kind = e.kind; value = pos 0; place = e.place; steps = steps; checks = checks }

-- the end and the cells are the definition's
abbrev pub Answers : End → List ℤ → Program → ℕ → List ℤ → List Part → ℕ → List ℤ → Type 0
Answers end after p rule xs ps fuel cells =
    (r : RuleRuns p rule xs ps fuel cells) → end_of fuel (rule_in p r.book rule xs ps (record { fuel = fuel; cells = cells })) ≡ ended end after (rule_in p r.book rule xs ps (record { fuel = fuel; cells = cells })).log
