use Rattle.std.proofs.Common.{◌≡◌, ℕ, ◌≤◌, true, false, ◌&&◌, eqb, length, Err, sym, ap, ap₂, ◌∙◌, subst, Bool, replicate}
use Rattle.std.proofs.lemmas.Bool.{and_from}
use Rattle.rows.specs.Questions.{well_shaped}
use Rattle.domains.specs.Modes.{width, broken}
use Rattle.domains.specs.Deciding.{modes-follow, modes-broken}
use Rattle.domains.proofs.Trying.{tried}
use Rattle.domains.proofs.modes.ModesDomain.verify.Goals as goal
use Rattle.domains.proofs.modes.ModesDomain.verify.Goals.{After-count}

shaped : (c : After-count) → (well_shaped c.args.question.facts.now c.args.question.goal.now && eqb (length c.args.certificate.now) 0) ≡ true
shaped c = and_from _ _ (sym c.well_shaped.ensures ∙ c.if-not-well_shaped.false) (sym c.is_empty.ensures ∙ c.if-not-is_empty.false)

counted : (c : After-count) → c.count.result ≡ width c.args.question.facts.now c.args.question.goal.now
counted c = c.count.ensures ∙ ap₂ width c.new-occurring.ensures.facts c.new-occurring.ensures.goal

searched : (c : After-count) (b : Bool) → b ≡ broken c.new-occurring.result.question.facts.now c.new-occurring.result.question.goal.now 16 (replicate 16 0) → broken c.args.question.facts.now c.args.question.goal.now 16 (replicate 16 0) ≡ b
searched c b e = sym (e ∙ ap₂ (λ facts goal. broken facts goal 16 (replicate 16 0)) c.new-occurring.ensures.facts c.new-occurring.ensures.goal)

pub returns-then-some_break : goal.returns-then-some_break
returns-then-some_break c =
    let at = (goal.at.returns-then-some_break c).After-count in
    let Narrow : ℕ → Type 0 = λ n. n ≤ 4 in
    let found = searched at true c.if-some_break.ensures in
    record {
      value = ap Err c.new-then-some_break.ensures ∙ tried _ _ _ (shaped at) true (subst Narrow (counted at) c.if-count-gt-MOST_WIDTH.false) found;
      decides = λ e. modes-broken _ _ found;
    }

pub returns : goal.returns
returns c =
    let at = (goal.at.returns c).After-count in
    let Narrow : ℕ → Type 0 = λ n. n ≤ 4 in
    let none = searched at false c.if-some_break.ensures in
    record {
      value = tried _ _ _ (shaped at) false (subst Narrow (counted at) c.if-count-gt-MOST_WIDTH.false) none;
      decides = modes-follow _ _ none;
    }
