use Rattle.std.proofs.Common.{sym, subst}
use Rattle.std.specs.List.{slice_get}
use Rattle.engine.specs.Listing.{Poses, ReadBack}
use Rattle.engine.proofs.Listings.{read_posed, read_back}
use Rattle.engine.proofs.draft.Draft.question.Goals as goal

pub returns : goal.returns
returns c = record {
  poses = λ d is. subst (λ r. Poses r (slice_get d.sheet.obligations c.args.number) c.args.room.now c.obligation.new.room) (sym c.ok_or.ensures.value) (read_posed c.args.self.now d c.args.number c.obligation.result _ _ is c.if-number-self.false c.obligation.ensures);
  read = subst (λ r. ReadBack r c.args.self.now c.args.number c.args.room.now c.obligation.new.room) (sym c.ok_or.ensures.value) (read_back c.args.self.now c.args.number c.obligation.result _ _ c.if-number-self.false c.obligation.ensures);
}
