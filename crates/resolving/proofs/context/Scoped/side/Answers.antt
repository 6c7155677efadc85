use Rattle.std.specs.Prelude.{is_ok}
use Rattle.std.proofs.Common.{[], map, length, sym, refl, ap, ◌∙◌, subst, unwrap_or, arith}
use Rattle.std.proofs.lemmas.List.{length_push}
use Rattle.grammar.specs.Raw as Raw
use Rattle.grammar.specs.Trees.{look_of}
use Rattle.records.specs.Columns.{Columns}
use Rattle.records.specs.Kept.{item_laws}
use Rattle.records.specs.Laying.{columns_of}
use Rattle.records.specs.Tables as lists
use Rattle.records.proofs.Lawful.{taken}
use Rattle.naming.specs.Reaches.{scope_of}
use Rattle.naming.specs.Resolving.{factor_of, item_of}
use Rattle.naming.specs.Sides.{raw_item, side_left}
use Rattle.naming.specs.Sources.{source_of}
use Rattle.naming.specs.declared.side.Items.{Items}
use Rattle.resolving.specs.Making.{Fit}
use Rattle.resolving.proofs.Adding.{Adding, begun, turn, whole}
use Rattle.resolving.proofs.Alone.{item_alone, items_then, items_none}
use Rattle.resolving.proofs.Listings.{small_item}
use Rattle.resolving.proofs.context.Scoped.side.Goals as goal

pub loop-signed-init : goal.loop-signed-init
loop-signed-init c =
    let w = c.args.self.sheet in let R = item_of w.text.now (scope_of w c.args.self.names.now []) in let xs = (columns_of c.args.tables.now).items.entries in
    let e = c.into_iter-signed-iterator.ensures.into_iter_gives in let ys = map R (side_left c.args.side) in record {
      added = subst (λ (s : Items). Adding lists.item_of ys xs xs (map R (side_left s))) (sym e) (begun lists.item_of ys xs);
      room = omega (arith, c.requires.room, ap (λ (s : Items). length (side_left s)) e);
      others = items_none;
      owed = refl;
      sheet = ap (λ (s : Items). s.sheet) e ∙ c.requires.sheet;
    }

pub item_of-requires : goal.item_of-requires
item_of-requires c =
    let s = c.loop-signed.signed-iterator in
    let fit : Fit s.sheet = subst Fit (sym c.loop-signed.invariant.sheet) c.args.self.fit in
    let h = small_item (look_of (source_of s.sheet)) fit s.minus (unwrap_or s.next 0) in
    let e = ap (λ (i : Raw.Item). factor_of i.factor i.atom) c.in-Some.ensures.steps.read in
    omega arith

pub loop-signed-preserved : goal.loop-signed-preserved
loop-signed-preserved c =
    let w = c.args.self.sheet in let i = c.loop-signed.invariant in let q = c.push in let x = c.item_of.result in
    let R = item_of w.text.now (scope_of w c.args.self.names.now []) in
    let left = c.in-Some.ensures.steps.items in
    let g = taken item_laws (columns_of c.loop-signed.tables) (columns_of q.new.self) x (is_ok q.result) q.ensures.value (omega (arith, ap length left, i.room)) q.ensures.held in
    let p = ap (λ (c : Columns). c.items.entries) g in
    let k = ap length p ∙ length_push (columns_of c.loop-signed.tables).items.entries x in record {
      added = turn lists.item_of _ _ (columns_of c.args.tables.now).items.entries (columns_of c.loop-signed.tables).items.entries _ x (R (raw_item c.in-Some.signed)) _ i.added (ap (map R) left) c.item_of.ensures.item p;
      room = omega (arith, ap length left, i.room, ap (λ (c : Columns). c.items.room) g);
      others = items_then i.others (item_alone (columns_of c.loop-signed.tables) (columns_of q.new.self) x c.item_of.ensures.near g);
      owed = q.ensures.owed ∙ i.owed;
      sheet = c.in-Some.ensures.steps.sheet ∙ i.sheet;
    }

pub returns : goal.returns
returns c =
    let w = c.args.self.sheet in let i = c.loop-signed.invariant in let R = item_of w.text.now (scope_of w c.args.self.names.now []) in record {
      added = whole lists.item_of _ _ _ _ i.added (ap (map R) c.in-None.ensures.steps.items.0);
      stretch = (c.count-from.ensures, c.count.ensures);
      others = i.others;
      owed = i.owed;
    }
