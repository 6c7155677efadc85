use Rattle.std.proofs.Common.{◌≡◌, true, cond, ltb, length, [], ◌∷◌, ◌++◌, Option, Result, is_ok, sym, ap, ◌∙◌, subst, arith}
use Rattle.std.proofs.lemmas.List.{append-nil}
use Rattle.std.proofs.lemmas.Bool.{lt-ltb}
use Rattle.rows.specs.declared.row.Row.{Row}
use Rattle.pile.specs.Entries.{entries, room}
use Rattle.language.specs.declared.refusal.Refusal.{Refusal}
use Rattle.language.specs.declared.refusal.Refusal.TheVariants.{Large}
use Rattle.language.specs.Walking.{assume, first_fault}
use Rattle.walking.specs.Knowing.{Took}
use Rattle.walking.proofs.Knowings.{large, crowded, roomy, grown, went_well, refused_as}
use Rattle.walking.proofs.facts.Facts.assume_row.Goals as goal

pub returns-in_err-row-clause-took : goal.returns-in_err-row-clause-took
returns-in_err-row-clause-took c =
    let p = c.args.place in let fs = entries c.args.self.now.pile in
    let is = refused_as c.args.row (Large p) _ _ c.from_residual.ensures.1 c.in_err-row.ensures.value c.in_err-row.ensures.ok_part in
    subst (λ (r : Result (Unit {0}) Refusal). Took r (assume p fs (c.args.row ∷ [])) fs fs) (sym is)
    (ap (λ (o : Option Row). first_fault (assume p fs (o ∷ [])).notes) c.in_err-row.ensures.ok_part ∙ large p fs, ([], sym (append-nil fs)))

pub returns-then-mark-ge-MOST_FACTS-clause-took : goal.returns-then-mark-ge-MOST_FACTS-clause-took
returns-then-mark-ge-MOST_FACTS-clause-took c =
    let p = c.args.place in let fs = entries c.args.self.now.pile in
    let h = c.if-mark-ge-MOST_FACTS.true in let m = c.mark.ensures in
    (ap (λ (o : Option Row). first_fault (assume p fs (o ∷ [])).notes) c.in_ok-row.ensures.ok_part ∙ crowded p fs c.in_ok-row.row (omega arith), ([], sym (append-nil fs)))

pub returns-clause-took : goal.returns-clause-took
returns-clause-took c =
    let p = c.args.place in let fs = entries c.args.self.now.pile in let row = c.in_ok-row.row in let m = c.mark.ensures in let h = c.if-mark-ge-MOST_FACTS.false in
    let free : ltb (length fs) (room c.args.self.now.pile) ≡ true = lt-ltb (length fs) (room c.args.self.now.pile) (omega (arith, c.args.self.now.roomy)) in
    let yes : is_ok c.push.result ≡ true = c.push.ensures.value ∙ free in
    let held : entries c.push.new.self ≡ fs ++ row ∷ [] = c.push.ensures.held ∙ ap (λ b. cond b (fs ++ row ∷ []) fs) yes in
    subst (λ (r : Result (Unit {0}) Refusal). Took r (assume p fs (c.args.row ∷ [])) fs (entries c.push.new.self)) (sym (went_well c.map_err.result (c.map_err.ensures.variant ∙ yes))) (
      ap (λ (o : Option Row). first_fault (assume p fs (o ∷ [])).notes) c.in_ok-row.ensures.ok_part ∙ roomy p fs row (omega arith),
      held ∙ sym (ap (λ (o : Option Row). (assume p fs (o ∷ [])).facts) c.in_ok-row.ensures.ok_part ∙ grown p fs row),
    )
