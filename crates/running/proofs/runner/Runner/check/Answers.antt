use Rattle.std.proofs.Common.{refl, sym, ap, ◌∙◌}
use Rattle.running.proofs.Steps.{dropped_ends, passed_ends, failed_ends}
use Rattle.running.proofs.runner.Runner.check.Goals as goal

pub returns-then-dropped-clause-ends : goal.returns-then-dropped-clause-ends
returns-then-dropped-clause-ends c = λ S n e.
    dropped_ends S c.args.kind c.args.place n c.args.passes c.args.self.now (sym c.if-dropped.true ∙ e)

pub returns-then-passes-clause-ends : goal.returns-then-passes-clause-ends
returns-then-passes-clause-ends c = λ S n e.
    passed_ends S c.args.kind c.args.place n c.args.passes c.args.self.now _ (sym c.if-dropped.false ∙ e) c.if-passes.true refl refl

pub returns-clause-ends : goal.returns-clause-ends
returns-clause-ends c = λ S n e.
    failed_ends S c.args.kind c.args.place n c.args.passes _ c.args.self.now _ (sym c.if-dropped.false ∙ e) c.if-passes.false (ap (λ k. record { kind = k; place = c.args.place }) c.ending.ensures) refl refl
