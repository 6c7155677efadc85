use Rattle.std.proofs.Common.{◌+◌, drop, sym, refl, ap, ◌∙◌, subst, arith}
use Rattle.std.specs.List.{slice_get}
use Rattle.records.specs.declared.laid.Laid.{Laid}
use Rattle.records.specs.Laying.{columns_of}
use Rattle.records.specs.Sound.{Sound}
use Rattle.walking.specs.declared.debts.Debts.{Debts}
use Rattle.walking.specs.Walked.{WalkedWell}
use Rattle.walking.proofs.Sheets.{Along, along_all, along_here, along_turn, along_break, along_last, along_end, not_past, walked_well, walked_not}
use Rattle.walking.proofs.rules.walk.Goals as goal
use Rattle.walking.proofs.rules.walk.Goals.{in-Some+in_ok-walk_rule, in_default}

pub loop-rule-init : goal.loop-rule-init
loop-rule-init c = record { sound = c.requires.sound; kept = record { lender = refl }; along = λ R x. along_all R c.args.tables.now x c.requires.few }

pub returns-in_err-walk_rule : goal.returns-in_err-walk_rule
returns-in_err-walk_rule c =
    let t = c.args.tables.now in let l = c.loop-rule in let u = l.debts.tables.now in let e = c.in_err-walk_rule in
    let there = c.in-Some.ensures ∙ ap (λ (b : Laid). slice_get (columns_of b).entries.entries l.rule) c.laid.ensures in record {
      walked = λ R x.
          walked_not c.from_residual.result e.field-0.0 R t _ c.from_residual.ensures.1
          (along_break R c.in-Some.entry _ t u c.walk_rule.new.debts.tables.now e.field-0.0 c.requires.none (along_here R l.rule t u (l.invariant.along R x) c.in-Some.entry there) e.ensures.walked);
    }

pub loop-rule-preserved : goal.loop-rule-preserved
loop-rule-preserved c =
    let t = c.args.tables.now in let l = c.loop-rule in let u = l.debts.tables.now in let i = l.invariant in let es = (columns_of t).entries.entries in
    let here = ap (λ (b : Laid). slice_get (columns_of b).entries.entries l.rule) c.laid.ensures in elim c.match-get.branch [
      | in-Some+in_ok-walk_rule w ↦
          let k = w.in_ok-walk_rule.ensures in let d = w.debts-is in record {
            sound = subst (λ (d : Debts). Sound (columns_of d.tables.now)) (sym d) k.sound;
            kept = record { lender = ap (λ (d : Debts). d.tables.ghost_name) d ∙ k.kept.lender ∙ i.kept.lender };
            along = λ R x. subst (λ (d : Debts). Along R (columns_of t).params.entries (drop (l.rule + 1) es) t d.tables.now) (sym d)
                (along_turn R w.in-Some.entry (drop (l.rule + 1) es) t u w.walk_rule.new.debts.tables.now (along_here R l.rule t u (i.along R x) w.in-Some.entry (w.in-Some.ensures ∙ here)) k.walked);
          }
      | in_default w ↦
          let d = w.debts-is in record {
            sound = subst (λ (d : Debts). Sound (columns_of d.tables.now)) (sym d) i.sound;
            kept = record { lender = ap (λ (d : Debts). d.tables.ghost_name) d ∙ i.kept.lender };
            along = λ R x. absurd (not_past R l.rule t u (i.along R x) (sym w.in_default.is ∙ c.get.ensures ∙ here) (omega (arith, c.loop-rule-test.true, c.count-rules.ensures)));
          }
    ]

pub returns : goal.returns
returns c =
    let t = c.args.tables.now in let l = c.loop-rule in let u = l.debts.tables.now in let same = c.tables-1.given.1 (sym l.invariant.kept.lender) in record {
      walked = λ R x. subst (λ (v : Laid). WalkedWell R t v) (sym same) (walked_well R t u c.requires.none (along_end R t u (along_last R l.rule t u (l.invariant.along R x) (omega (arith, c.loop-rule-test.false, c.count-rules.ensures)))));
    }
