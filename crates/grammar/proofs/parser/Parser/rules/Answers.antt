use Rattle.std.proofs.Common.{List, length, Err, Result, sym, ap, ◌∙◌, subst}
use Rattle.std.proofs.lemmas.Result.{err_from_is_err_and}
use Rattle.grammar.specs.declared.misplaced.Misplaced.{Misplaced}
use Rattle.grammar.specs.declared.node.Node.{Node}
use Rattle.grammar.specs.Held.{held}
use Rattle.grammar.specs.Parsed.{RuledSo}
use Rattle.grammar.specs.Trees.{rules_to}
use Rattle.grammar.proofs.Ruling.{ruling-start, ruled-on, ruled-err, ruled-end, ruled-not}
use Rattle.grammar.proofs.parser.Parser.rules.Goals as goal

pub loop-self-init : goal.loop-self-init
unfolding rules_to
loop-self-init c = ruling-start _ (ap (λ (ns : List Node). rules_to (held c.args.self.now).source (length ns) ns) c.requires)

pub loop-self-preserved : goal.loop-self-preserved
loop-self-preserved c = ruled-on c.loop-self.invariant c.loop-self-test.ensures.told c.bump-token.ensures.token c.bump-token.ensures.bumped c.in_ok-rule.ensures.went c.push.ensures

pub returns-in_err-rule : goal.returns-in_err-rule
returns-in_err-rule c =
    let b = err_from_is_err_and c.from_residual.result c.from_residual.ensures.1 in
    record {
      lender = c.in_err-rule.ensures.went.lender ∙ c.bump-token.ensures.bumped.lender ∙ c.loop-self.invariant.lender;
      so = subst (λ (r : Result (Unit {0}) Misplaced). RuledSo r (held c.args.self.now) (held c.rule.new.self)) (sym (b.1 ∙ ap Err b.2))
          (ruled-err c.loop-self.invariant c.loop-self-test.ensures.told c.bump-token.ensures.token c.bump-token.ensures.bumped c.in_err-rule.ensures.went);
    }

pub returns-then-ended : goal.returns-then-ended
returns-then-ended c = record { lender = c.loop-self.invariant.lender; so = ruled-end c.loop-self.invariant c.loop-self-test.ensures.told c.if-ended.ensures }

pub returns-else-ended : goal.returns-else-ended
returns-else-ended c = record { lender = c.loop-self.invariant.lender; so = ruled-not c.loop-self.invariant c.loop-self-test.ensures.told c.if-ended.ensures c.fault.ensures }
