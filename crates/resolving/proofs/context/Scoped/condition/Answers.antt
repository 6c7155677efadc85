use Rattle.std.proofs.Common.{[], ◌∙◌, arith}
use Rattle.std.proofs.lemmas.List.{length-map}
use Rattle.records.specs.Laying.{columns_of}
use Rattle.records.specs.Tables as lists
use Rattle.naming.specs.Reaches.{scope_of}
use Rattle.naming.specs.Resolving.{item_of}
use Rattle.naming.specs.Sides.{side_left, raw_condition}
use Rattle.resolving.proofs.Adding.{size}
use Rattle.resolving.proofs.Listings.{formed}
use Rattle.resolving.proofs.Alone.{items_then}
use Rattle.resolving.proofs.context.Scoped.condition.Goals as goal

pub side-left-requires : goal.side-left-requires
side-left-requires c = record { sheet = c.requires.sheets.0; room = omega (arith, c.requires.room) }

pub side-right-requires : goal.side-right-requires
side-right-requires c =
    let w = c.args.self.sheet in let f = c.side-left in let R = item_of w.text.now (scope_of w c.args.self.names.now []) in
    let k = size lists.item_of _ (columns_of c.args.tables.now).items.entries (columns_of f.new.tables).items.entries f.ensures.added in
    let m = length-map (side_left c.args.condition.left) R in record {
      sheet = c.requires.sheets.1;
      room = omega (arith, c.requires.room, f.ensures.others.room);
    }

pub returns : goal.returns
returns c =
    let w = c.args.self.sheet in let f = c.side-left in let g = c.side-right in let R = item_of w.text.now (scope_of w c.args.self.names.now []) in let d = c.args.condition in
    let k = size lists.item_of _ (columns_of c.args.tables.now).items.entries (columns_of f.new.tables).items.entries f.ensures.added in
    let m = length-map (side_left d.left) R in
    let k2 = size lists.item_of _ (columns_of f.new.tables).items.entries (columns_of g.new.tables).items.entries g.ensures.added in
    let m2 = length-map (side_left d.right) R in record {
      formed = formed w.text.now (scope_of w c.args.self.names.now []) (raw_condition d) _ (columns_of c.args.tables.now).items.entries (columns_of f.new.tables).items.entries (columns_of g.new.tables).items.entries f.ensures.added g.ensures.added
          c.place.ensures c.comparison_of.ensures f.ensures.stretch.0 f.ensures.stretch.1 g.ensures.stretch.0 g.ensures.stretch.1;
      size = omega arith;
      others = items_then f.ensures.others g.ensures.others;
      owed = g.ensures.owed ∙ f.ensures.owed;
    }
