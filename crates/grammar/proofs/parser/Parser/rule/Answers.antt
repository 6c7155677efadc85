use Rattle.std.proofs.Common.{true, false, [], ◌∷◌}
use Rattle.letters.specs.declared.kind.Kind.TheVariants.{Needs, Gives}
use Rattle.grammar.specs.Sheets.{rule_of}
use Rattle.grammar.proofs.Laws.{lasts_on, gives, seq-ok, seq-err, broke}
use Rattle.grammar.proofs.Makes.{same-token, keep-token, keep}
use Rattle.grammar.proofs.Levels.{keep-optional, keep-params}
use Rattle.grammar.proofs.parser.Parser.rule.Goals as goal

pub returns-in_err-name-clause-went : goal.returns-in_err-name-clause-went
returns-in_err-name-clause-went c = broke c.from_residual.ensures.1 (seq-err _ c.in_err-name.ensures.went)

pub returns-in_err-take-clause-went : goal.returns-in_err-take-clause-went
returns-in_err-take-clause-went c = broke c.from_residual-in_err-take.ensures.1 (seq-ok _ c.in_ok-name.ensures.went (seq-err _ c.in_err-take.ensures.went))

pub returns-in_err-params-clause-went : goal.returns-in_err-params-clause-went
returns-in_err-params-clause-went c = broke c.from_residual-in_err-params.ensures.1 (seq-ok _ c.in_ok-name.ensures.went (seq-ok _ c.in_ok-take.ensures.went (seq-err _ c.in_err-params.ensures.went)))

pub returns-in_err-optional-clause-went : goal.returns-in_err-optional-clause-went
returns-in_err-optional-clause-went c = broke c.from_residual-in_err-optional.ensures.1 (seq-ok _ c.in_ok-name.ensures.went (seq-ok _ c.in_ok-take.ensures.went (seq-ok _ c.in_ok-params.ensures.went (seq-err _ c.in_err-optional.ensures.went))))

pub returns-in_err-optional-2-clause-went : goal.returns-in_err-optional-2-clause-went
returns-in_err-optional-2-clause-went c = broke c.from_residual-in_err-optional-2.ensures.1 (seq-ok _ c.in_ok-name.ensures.went (seq-ok _ c.in_ok-take.ensures.went (seq-ok _ c.in_ok-params.ensures.went (seq-ok _ c.in_ok-optional.ensures.went (seq-err _ c.in_err-optional-2.ensures.went)))))

pub returns-in_err-take-2-clause-went : goal.returns-in_err-take-2-clause-went
returns-in_err-take-2-clause-went c = broke c.from_residual-in_err-take-2.ensures.1 (seq-ok _ c.in_ok-name.ensures.went (seq-ok _ c.in_ok-take.ensures.went (seq-ok _ c.in_ok-params.ensures.went (seq-ok _ c.in_ok-optional.ensures.went (seq-ok _ c.in_ok-optional-2.ensures.went (seq-err _ c.in_err-take-2.ensures.went))))))

pub returns-in_err-body-clause-went : goal.returns-in_err-body-clause-went
returns-in_err-body-clause-went c = broke c.from_residual-in_err-body.ensures.1 (seq-ok _ c.in_ok-name.ensures.went (seq-ok _ c.in_ok-take.ensures.went (seq-ok _ c.in_ok-params.ensures.went (seq-ok _ c.in_ok-optional.ensures.went (seq-ok _ c.in_ok-optional-2.ensures.went (seq-ok _ c.in_ok-take-2.ensures.went (seq-err _ c.in_err-body.ensures.went)))))))

pub returns-in_err-take-3-clause-went : goal.returns-in_err-take-3-clause-went
returns-in_err-take-3-clause-went c = broke c.from_residual-in_err-take-3.ensures.1 (seq-ok _ c.in_ok-name.ensures.went (seq-ok _ c.in_ok-take.ensures.went (seq-ok _ c.in_ok-params.ensures.went (seq-ok _ c.in_ok-optional.ensures.went (seq-ok _ c.in_ok-optional-2.ensures.went (seq-ok _ c.in_ok-take-2.ensures.went (seq-ok _ c.in_ok-body.ensures.went (seq-err _ c.in_err-take-3.ensures.went))))))))

pub returns-clause-went : goal.returns-clause-went
returns-clause-went c = seq-ok _ c.in_ok-name.ensures.went (seq-ok _ c.in_ok-take.ensures.went (seq-ok _ c.in_ok-params.ensures.went (seq-ok _ c.in_ok-optional.ensures.went (seq-ok _ c.in_ok-optional-2.ensures.went (seq-ok _ c.in_ok-take-2.ensures.went (seq-ok _ c.in_ok-body.ensures.went (seq-ok _ c.in_ok-take-3.ensures.went (gives (λ i. rule_of ((same-token (lasts_on c.in_ok-name.ensures.went.told.lasts (lasts_on c.in_ok-take.ensures.went.told.lasts (lasts_on c.in_ok-params.ensures.went.told.lasts (lasts_on c.in_ok-optional.ensures.went.told.lasts (lasts_on c.in_ok-optional-2.ensures.went.told.lasts (lasts_on c.in_ok-take-2.ensures.went.told.lasts (lasts_on c.in_ok-body.ensures.went.told.lasts c.in_ok-take-3.ensures.went.told.lasts))))))) c.args.token) i) ((keep-token (lasts_on c.in_ok-take.ensures.went.told.lasts (lasts_on c.in_ok-params.ensures.went.told.lasts (lasts_on c.in_ok-optional.ensures.went.told.lasts (lasts_on c.in_ok-optional-2.ensures.went.told.lasts (lasts_on c.in_ok-take-2.ensures.went.told.lasts (lasts_on c.in_ok-body.ensures.went.told.lasts c.in_ok-take-3.ensures.went.told.lasts)))))) c.in_ok-name.ensures.went.told.rel).reads i) ((keep-params (lasts_on c.in_ok-params.ensures.went.told.lasts (lasts_on c.in_ok-optional.ensures.went.told.lasts (lasts_on c.in_ok-optional-2.ensures.went.told.lasts (lasts_on c.in_ok-take-2.ensures.went.told.lasts (lasts_on c.in_ok-body.ensures.went.told.lasts c.in_ok-take-3.ensures.went.told.lasts))))) _ c.in_ok-params.ensures.went.told.came) i) ((keep-optional (lasts_on c.in_ok-optional.ensures.went.told.lasts (lasts_on c.in_ok-optional-2.ensures.went.told.lasts (lasts_on c.in_ok-take-2.ensures.went.told.lasts (lasts_on c.in_ok-body.ensures.went.told.lasts c.in_ok-take-3.ensures.went.told.lasts)))) Needs false _ c.in_ok-optional.ensures.went.told.came) i) ((keep-optional (lasts_on c.in_ok-optional-2.ensures.went.told.lasts (lasts_on c.in_ok-take-2.ensures.went.told.lasts (lasts_on c.in_ok-body.ensures.went.told.lasts c.in_ok-take-3.ensures.went.told.lasts))) Gives true _ c.in_ok-optional-2.ensures.went.told.came) i) ((keep c.in_ok-take-3.ensures.went.told.lasts c.in_ok-body.ensures.went.told.rel).reads i) ∷ [])))))))))
