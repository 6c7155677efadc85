use Rattle.std.proofs.Common.{◌≡◌, ◌++◌, codes, subst, get_or, pos, ap, sym, ◌∙◌, w32, rules}
use Rattle.std.proofs.Output.{has_written_append, has_written_of_eq}
use Rattle.std.proofs.lemmas.Int.{to_z-of_z}
use Rattle.std.specs.Fmt.{HasWritten}
use Rattle.ints.specs.Tests.{is_zero}
use Rattle.ints.proofs.Zeros.{is-zero, not-zero}
use Rattle.rows.specs.Meaning.{coef}
use Rattle.notation.specs.Written.{term_word, terms_to}
use Rattle.notation.proofs.Showing.{terms_some, terms_none}
use Rattle.notation.proofs.writing.TermsDisplay.fmt.Goals as goal
use Rattle.notation.proofs.writing.TermsDisplay.fmt.Goals.{then-c-ne0+in_ok-write, else-c-ne0}

pub loop-j-init : goal.loop-j-init
unfolding terms_to
loop-j-init g c = search rules

pub loop-j-preserved : goal.loop-j-preserved
loop-j-preserved g c =
    let j = c.loop-j.j in let r = c.args.self.now.0.now in let z = get_or c.coefs.result j (pos 0) in
    let e : z ≡ coef r j = ap (λ cs. get_or cs j (pos 0)) c.coefs.ensures in
    elim c.if-c-ne0.branch [
      | then-c-ne0+in_ok-write w ↦ λ p. has_written_of_eq _ _ _ _ _ (terms_some r j (sym (ap is_zero e) ∙ not-zero w32 z w.if-c-ne0.true))
          (has_written_append _ _ _ _ _ _ (c.loop-j.invariant p) (has_written_of_eq _ _ _ _ _ (ap (λ y. term_word y j ++ codes " ") (to_z-of_z w32 z (search rules) ∙ e)) (search rules)))
      | else-c-ne0 w ↦ λ p. has_written_of_eq _ _ _ _ _ (terms_none r j (sym (ap is_zero e) ∙ is-zero w32 z (search rules) w.if-c-ne0.false)) (subst (λ f. HasWritten g.W.Write.write_str_gives c.args.f.now (terms_to r j) f) (sym w.f-is) (c.loop-j.invariant p))
    ]
