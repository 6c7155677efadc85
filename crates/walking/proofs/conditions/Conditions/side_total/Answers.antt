use Rattle.std.proofs.Common.{◌≡◌, true, w32, rules, sym, ap, ◌∙◌, subst}
use Rattle.std.proofs.lemmas.Int.{to_z-of_z}
use Rattle.language.specs.Terms.{fits_term}
use Rattle.records.specs.Laying.{columns_of}
use Rattle.records.specs.Leaving.{left_of}
use Rattle.records.specs.Tables.{atom_of, side_in}
use Rattle.terms.specs.declared.total.Total.{Total}
use Rattle.terms.specs.Totals.{seen, taken}
use Rattle.walking.proofs.Siding.{Adding, atom-fits, adding_none, adding_turn, adding_end}
use Rattle.walking.proofs.conditions.Conditions.side_total.Goals as goal

pub loop-item-init : goal.loop-item-init
loop-item-init c =
    let self = c.args.self in let side = c.args.side in let z = c.zero-total in
    adding_none self.terms.names.now self.terms.outcome.now (columns_of self.tables.now).items.entries _ side.from side.to z.result
    (ap (left_of (λ c. c.items)) c.into_iter-item-iterator.ensures.into_iter_gives ∙ c.entries_of-item-items.ensures) self.sound.items z.ensures.count z.ensures.sum

pub loop-item-preserved : goal.loop-item-preserved
loop-item-preserved c =
    let self = c.args.self in let ts = self.terms.names.now in let r = self.terms.outcome.now in let side = side_in (columns_of self.tables.now).items.entries c.args.side.from c.args.side.to in
    let x = c.in-Some.item in let t = c.loop-item.total in let u = c.of-term.result in
    let fits : fits_term u ≡ true = ap fits_term c.of-term.ensures ∙ atom-fits ts r self.terms.names_fit self.terms.outcome_fits (atom_of x.atom) in
    let took = subst (λ k. seen c.add.result ≡ taken t k u) (to_z-of_z w32 x.factor (search rules)) c.add.ensures in
    subst (λ (t : Total). Adding ts r side (left_of (λ c. c.items) c.next.new.self) t) (sym c.unwrap_or-total.ensures)
    (adding_turn ts r side _ x _ t u c.add.result c.in-Some.ensures.steps fits c.of-term.ensures took c.loop-item.invariant)

pub returns : goal.returns
returns c =
    let self = c.args.self in let ts = self.terms.names.now in let r = self.terms.outcome.now in let side = side_in (columns_of self.tables.now).items.entries c.args.side.from c.args.side.to in
    sym (adding_end ts r side _ c.loop-item.total c.in-None.ensures.steps.0 c.loop-item.invariant) ∙ c.zero-total.ensures.turn.side ts r side
