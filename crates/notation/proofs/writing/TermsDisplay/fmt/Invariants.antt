use Rattle.std.specs.Fmt.{HasWritten, IsPlainFormatter}
use Rattle.notation.specs.Written.{terms_to}
use Rattle.notation.proofs.writing.TermsDisplay.fmt.Given as goal

abbrev pub invariant-loop-j : goal.invariant-loop-j
invariant-loop-j g l = IsPlainFormatter l.initial.f → HasWritten g.W.Write.write_str_gives l.initial.f (terms_to l.self.0.now l.j) l.f
