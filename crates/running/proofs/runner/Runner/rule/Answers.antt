use Rattle.std.proofs.Common.{◌≡◌, ◌∙◌, sym, ap, ap₂, drop}
use Rattle.std.proofs.Math.Logic.{∥∥₁_map}
use Rattle.std.proofs.Math.Seq.{drop-append_seam}
use Rattle.language.specs.Running as Running
use Rattle.pile.specs.Entries.{entries}
use Rattle.running.specs.declared.runner.Frame.{Frame}
use Rattle.running.specs.Evaluating.{frame_of}
use Rattle.running.proofs.Bodies.{body_runs, body_any}
use Rattle.running.proofs.runner.Runner.rule.Goals as goal

pub eval-requires-clause-runs : goal.eval-requires-clause-runs
eval-requires-clause-runs c =
    let w = c.args.self.now in let h = c.enter-base.new.self in let xs = c.args.values.now in let ps = c.args.parts.now in
    let F : Frame = record { program = c.args.program; base = c.enter-base.result; parts = c.args.parts } in
    let found = sym c.entry_at.ensures ∙ c.in_ok-entry.ensures.ok_part in
    let fr : ◌≡◌ {A = Running.Frame} (record { values = xs; parts = ps }) (frame_of F h) = ap (λ vs. record { values = vs; parts = ps }) (sym (ap₂ drop c.enter-base.ensures.mark c.enter-base.ensures.values ∙ drop-append_seam (entries w.values.now) xs)) in
    ∥∥₁_map c.requires.runs (λ g. body_runs F 2000 g.book c.args.rule g.there c.in_ok-entry.entry found xs ps w h fr c.enter-base.ensures.beside.state c.enter-base.ensures.beside.checks g.tame)

pub returns-clause-evals : goal.returns-clause-evals
returns-clause-evals c = λ g.
    let w = c.args.self.now in let h = c.enter-base.new.self in let xs = c.args.values.now in let ps = c.args.parts.now in
    let F : Frame = record { program = c.args.program; base = c.enter-base.result; parts = c.args.parts } in
    let found = sym c.entry_at.ensures ∙ c.in_ok-entry.ensures.ok_part in
    let fr : ◌≡◌ {A = Running.Frame} (record { values = xs; parts = ps }) (frame_of F h) = ap (λ vs. record { values = vs; parts = ps }) (sym (ap₂ drop c.enter-base.ensures.mark c.enter-base.ensures.values ∙ drop-append_seam (entries w.values.now) xs)) in
    body_any F 2000 g.book c.args.rule g.there c.in_ok-entry.entry found xs ps w h fr c.enter-base.ensures.beside.state c.enter-base.ensures.beside.checks g.tame c.eval.result c.eval.new.self c.eval.ensures.evals
