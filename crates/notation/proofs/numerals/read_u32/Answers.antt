use Rattle.std.proofs.Common.{◌≡◌, ℕ, List, Option, None, Some, Result, Err, IfNone, IfErr, sym, ap, arith, rules}
use Rattle.std.specs.Option.{ok_or}
use Rattle.std.proofs.lemmas.Fmt.{parse-decimal}
use Rattle.notation.specs.declared.misread.Misread.{Misread}
use Rattle.notation.specs.declared.misread.Misread.TheVariants.{Number}
use Rattle.notation.specs.Misreadings.{Unwritten, NoNumber}
use Rattle.notation.proofs.numerals.read_u32.Goals as goal

refused : {H : Type 0} (found : Option ℕ) (word : List ℕ) (r : Result ℕ Misread) → r ≡ ok_or found Number → IfNone found H → (H → Unwritten word) → IfErr r (λ e. NoNumber e word)
refused (Some n) word r e h f = rw e tt
refused None word r e h f = rw e (f h)

-- a word that writes a number would be parsed as that number, and not refused
pub returns-in_err-n-clause-refuses : goal.returns-in_err-n-clause-refuses
returns-in_err-n-clause-refuses c =
    let no = refused c.in_ok-read_value.field-0 c.args.word.now (Err c.in_err-n.field-0.0) c.in_err-n.ensures.value c.in_ok-read_value.ensures.none (λ none n small is.
    none n (λ read given. parse-decimal 32 n c.args.word.now read small (omega arith) is given.0) (ap (λ text. Some text) (sym is))) in search rules
