use Rattle.std.proofs.Common.{rules, ◌≡◌, ◌∙◌, ap, true, false, sym, SFits, w32, int_le}
use Rattle.std.proofs.Math.Facts.{to_z-of_z}
use Rattle.std.proofs.lemmas.Bool.{and_parts}
use Rattle.language.specs.Running.{in_range, quiet, done}
use Rattle.running.proofs.Steps.{fit-not, fit-in}
use Rattle.running.specs.Ending.{program_of}
use Rattle.running.proofs.program.Program.fit.Goals as goal

pub returns-then-not-has : goal.returns-then-not-has
returns-then-not-has c = λ bodies s.
    let e : in_range c.args.self.low c.args.self.high c.args.value ≡ false = search rules in
    fit-not (program_of c.args.self bodies) c.args.place c.args.value s e

pub returns : goal.returns
returns c = λ bodies s.
    let e : in_range c.args.self.low c.args.self.high c.args.value ≡ true = search rules in
    let p = and_parts (int_le c.args.self.low c.args.value) (int_le c.args.value c.args.self.high) e in
    let f : SFits w32 c.args.value = search rules in
    fit-in (program_of c.args.self bodies) c.args.place c.args.value s e ∙ ap (λ v. quiet (done v s)) (sym (simp (to_z-of_z, c.ranges.value, f)))
