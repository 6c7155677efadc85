use Rattle.std.proofs.Common.{sym, subst, take}
use Rattle.letters.specs.Bytes.{is_digit, EachDigit}
use Rattle.letters.proofs.Running.{run-passes}
use Rattle.letters.proofs.cutting.Ahead.numeral.Goals as goal

pub decimal-requires-clause-all : goal.decimal-requires-clause-all
decimal-requires-clause-all c = subst (λ n. EachDigit (take n c.args.self.rest.now)) (sym c.digits_ahead-size.ensures.told) (run-passes is_digit c.args.self.rest.now)
