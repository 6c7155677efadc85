-- The five tables keep their laws: what is put after the last entry is pushed, and the other tables stay.
use Rattle.std.proofs.Common.{◌≡◌, ℕ, ◌*◌, ◌/◌, ◌%◌, List, length, get_or, set, refl, arith}
use Rattle.std.proofs.lemmas.List.{length-set}
use Rattle.records.specs.declared.node.Node.{Node}
use Rattle.records.specs.declared.condition.Item.{Item}
use Rattle.records.specs.declared.condition.Condition.{Condition}
use Rattle.records.specs.declared.entry.Param.{Param}
use Rattle.records.specs.declared.entry.Entry.{Entry}
use Rattle.records.specs.declared.node.Node.TheVariants.{Blank}
use Rattle.records.specs.declared.entry.Param.TheVariants.{Number}
use Rattle.records.specs.declared.counts.Counts.{Counts}
use Rattle.records.specs.declared.record.Record.{Record}
use Rattle.records.specs.Columns.{Columns, no_condition, no_item, no_entry}
use Rattle.records.specs.Tabling.{TableLaws}
use Rattle.records.specs.Slots.{slots_put, slots_set, slots_kept}

-- columns with these entries, in so many records
abbrev pub laid : List Node → List Condition → List Item → List Param → List Entry → ℕ → ℕ → Columns
laid n d i p e records lender = record {
  nodes = record { entries = n; room = 4 * records };
  conditions = record { entries = d; room = 4 * records };
  items = record { entries = i; room = 4 * records };
  params = record { entries = p; room = 4 * records };
  entries = record { entries = e; room = 4 * records };
  lender = lender;
}

-- a record was written
pub same_columns : {n n' : List Node} {d d' : List Condition} {i i' : List Item} {p p' : List Param} {e e' : List Entry} (records : List Record) (at lender : ℕ) (new : Record)
    → n ≡ n' → d ≡ d' → i ≡ i' → p ≡ p' → e ≡ e' → laid n d i p e (length (set records at new)) lender ≡ laid n' d' i' p' e' (length records) lender
same_columns records at lender new a b c g h = rw (a, b, c, g, h, length-set records at new) refl

pub node_laws : TableLaws (λ (r : Record). r.nodes) (λ r xs. record r { nodes = xs }) Blank (λ (k : Counts). k.nodes) (λ k n. record k { nodes = n }) (λ (c : Columns). c.nodes) (λ c t. record c { nodes = t })
node_laws = record {
  reads = λ r k lender. refl;
  writes = λ r k lender d x h w.
      let new : Record = record (get_or r (k.nodes / 4) d) { nodes = set (get_or r (k.nodes / 4) d).nodes (k.nodes % 4) x } in
      same_columns r (k.nodes / 4) lender new (slots_put (λ (x : Record). x.nodes) Blank r new k.nodes x h d w refl) (slots_kept (λ (x : Record). x.conditions) no_condition r new d (k.nodes / 4) k.conditions h refl) (slots_kept (λ (x : Record). x.items) no_item r new d (k.nodes / 4) k.items h refl) (slots_kept (λ (x : Record). x.params) Number r new d (k.nodes / 4) k.params h refl) (slots_kept (λ (x : Record). x.entries) no_entry r new d (k.nodes / 4) k.entries h refl);
  rewrites = λ r k lender d x at l h w.
      let new : Record = record (get_or r (at / 4) d) { nodes = set (get_or r (at / 4) d).nodes (at % 4) x } in
      same_columns r (at / 4) lender new (slots_set (λ (x : Record). x.nodes) Blank r new at k.nodes x l h d w refl) (slots_kept (λ (x : Record). x.conditions) no_condition r new d (at / 4) k.conditions h refl) (slots_kept (λ (x : Record). x.items) no_item r new d (at / 4) k.items h refl) (slots_kept (λ (x : Record). x.params) Number r new d (at / 4) k.params h refl) (slots_kept (λ (x : Record). x.entries) no_entry r new d (at / 4) k.entries h refl);
  itself = λ c. refl;
  beside = λ r xs. (refl, refl);
  within = λ k m w. w.nodes;
  fits = λ k m w h. record { nodes = omega arith; conditions = w.conditions; items = w.items; params = w.params; entries = w.entries };
}

pub condition_laws : TableLaws (λ (r : Record). r.conditions) (λ r xs. record r { conditions = xs }) no_condition (λ (k : Counts). k.conditions) (λ k n. record k { conditions = n }) (λ (c : Columns). c.conditions) (λ c t. record c { conditions = t })
condition_laws = record {
  reads = λ r k lender. refl;
  writes = λ r k lender d x h w.
      let new : Record = record (get_or r (k.conditions / 4) d) { conditions = set (get_or r (k.conditions / 4) d).conditions (k.conditions % 4) x } in
      same_columns r (k.conditions / 4) lender new (slots_kept (λ (x : Record). x.nodes) Blank r new d (k.conditions / 4) k.nodes h refl) (slots_put (λ (x : Record). x.conditions) no_condition r new k.conditions x h d w refl) (slots_kept (λ (x : Record). x.items) no_item r new d (k.conditions / 4) k.items h refl) (slots_kept (λ (x : Record). x.params) Number r new d (k.conditions / 4) k.params h refl) (slots_kept (λ (x : Record). x.entries) no_entry r new d (k.conditions / 4) k.entries h refl);
  rewrites = λ r k lender d x at l h w.
      let new : Record = record (get_or r (at / 4) d) { conditions = set (get_or r (at / 4) d).conditions (at % 4) x } in
      same_columns r (at / 4) lender new (slots_kept (λ (x : Record). x.nodes) Blank r new d (at / 4) k.nodes h refl) (slots_set (λ (x : Record). x.conditions) no_condition r new at k.conditions x l h d w refl) (slots_kept (λ (x : Record). x.items) no_item r new d (at / 4) k.items h refl) (slots_kept (λ (x : Record). x.params) Number r new d (at / 4) k.params h refl) (slots_kept (λ (x : Record). x.entries) no_entry r new d (at / 4) k.entries h refl);
  itself = λ c. refl;
  beside = λ r xs. (refl, refl);
  within = λ k m w. w.conditions;
  fits = λ k m w h. record { nodes = w.nodes; conditions = omega arith; items = w.items; params = w.params; entries = w.entries };
}

pub item_laws : TableLaws (λ (r : Record). r.items) (λ r xs. record r { items = xs }) no_item (λ (k : Counts). k.items) (λ k n. record k { items = n }) (λ (c : Columns). c.items) (λ c t. record c { items = t })
item_laws = record {
  reads = λ r k lender. refl;
  writes = λ r k lender d x h w.
      let new : Record = record (get_or r (k.items / 4) d) { items = set (get_or r (k.items / 4) d).items (k.items % 4) x } in
      same_columns r (k.items / 4) lender new (slots_kept (λ (x : Record). x.nodes) Blank r new d (k.items / 4) k.nodes h refl) (slots_kept (λ (x : Record). x.conditions) no_condition r new d (k.items / 4) k.conditions h refl) (slots_put (λ (x : Record). x.items) no_item r new k.items x h d w refl) (slots_kept (λ (x : Record). x.params) Number r new d (k.items / 4) k.params h refl) (slots_kept (λ (x : Record). x.entries) no_entry r new d (k.items / 4) k.entries h refl);
  rewrites = λ r k lender d x at l h w.
      let new : Record = record (get_or r (at / 4) d) { items = set (get_or r (at / 4) d).items (at % 4) x } in
      same_columns r (at / 4) lender new (slots_kept (λ (x : Record). x.nodes) Blank r new d (at / 4) k.nodes h refl) (slots_kept (λ (x : Record). x.conditions) no_condition r new d (at / 4) k.conditions h refl) (slots_set (λ (x : Record). x.items) no_item r new at k.items x l h d w refl) (slots_kept (λ (x : Record). x.params) Number r new d (at / 4) k.params h refl) (slots_kept (λ (x : Record). x.entries) no_entry r new d (at / 4) k.entries h refl);
  itself = λ c. refl;
  beside = λ r xs. (refl, refl);
  within = λ k m w. w.items;
  fits = λ k m w h. record { nodes = w.nodes; conditions = w.conditions; items = omega arith; params = w.params; entries = w.entries };
}

pub param_laws : TableLaws (λ (r : Record). r.params) (λ r xs. record r { params = xs }) Number (λ (k : Counts). k.params) (λ k n. record k { params = n }) (λ (c : Columns). c.params) (λ c t. record c { params = t })
param_laws = record {
  reads = λ r k lender. refl;
  writes = λ r k lender d x h w.
      let new : Record = record (get_or r (k.params / 4) d) { params = set (get_or r (k.params / 4) d).params (k.params % 4) x } in
      same_columns r (k.params / 4) lender new (slots_kept (λ (x : Record). x.nodes) Blank r new d (k.params / 4) k.nodes h refl) (slots_kept (λ (x : Record). x.conditions) no_condition r new d (k.params / 4) k.conditions h refl) (slots_kept (λ (x : Record). x.items) no_item r new d (k.params / 4) k.items h refl) (slots_put (λ (x : Record). x.params) Number r new k.params x h d w refl) (slots_kept (λ (x : Record). x.entries) no_entry r new d (k.params / 4) k.entries h refl);
  rewrites = λ r k lender d x at l h w.
      let new : Record = record (get_or r (at / 4) d) { params = set (get_or r (at / 4) d).params (at % 4) x } in
      same_columns r (at / 4) lender new (slots_kept (λ (x : Record). x.nodes) Blank r new d (at / 4) k.nodes h refl) (slots_kept (λ (x : Record). x.conditions) no_condition r new d (at / 4) k.conditions h refl) (slots_kept (λ (x : Record). x.items) no_item r new d (at / 4) k.items h refl) (slots_set (λ (x : Record). x.params) Number r new at k.params x l h d w refl) (slots_kept (λ (x : Record). x.entries) no_entry r new d (at / 4) k.entries h refl);
  itself = λ c. refl;
  beside = λ r xs. (refl, refl);
  within = λ k m w. w.params;
  fits = λ k m w h. record { nodes = w.nodes; conditions = w.conditions; items = w.items; params = omega arith; entries = w.entries };
}

pub entry_laws : TableLaws (λ (r : Record). r.entries) (λ r xs. record r { entries = xs }) no_entry (λ (k : Counts). k.entries) (λ k n. record k { entries = n }) (λ (c : Columns). c.entries) (λ c t. record c { entries = t })
entry_laws = record {
  reads = λ r k lender. refl;
  writes = λ r k lender d x h w.
      let new : Record = record (get_or r (k.entries / 4) d) { entries = set (get_or r (k.entries / 4) d).entries (k.entries % 4) x } in
      same_columns r (k.entries / 4) lender new (slots_kept (λ (x : Record). x.nodes) Blank r new d (k.entries / 4) k.nodes h refl) (slots_kept (λ (x : Record). x.conditions) no_condition r new d (k.entries / 4) k.conditions h refl) (slots_kept (λ (x : Record). x.items) no_item r new d (k.entries / 4) k.items h refl) (slots_kept (λ (x : Record). x.params) Number r new d (k.entries / 4) k.params h refl) (slots_put (λ (x : Record). x.entries) no_entry r new k.entries x h d w refl);
  rewrites = λ r k lender d x at l h w.
      let new : Record = record (get_or r (at / 4) d) { entries = set (get_or r (at / 4) d).entries (at % 4) x } in
      same_columns r (at / 4) lender new (slots_kept (λ (x : Record). x.nodes) Blank r new d (at / 4) k.nodes h refl) (slots_kept (λ (x : Record). x.conditions) no_condition r new d (at / 4) k.conditions h refl) (slots_kept (λ (x : Record). x.items) no_item r new d (at / 4) k.items h refl) (slots_kept (λ (x : Record). x.params) Number r new d (at / 4) k.params h refl) (slots_set (λ (x : Record). x.entries) no_entry r new at k.entries x l h d w refl);
  itself = λ c. refl;
  beside = λ r xs. (refl, refl);
  within = λ k m w. w.entries;
  fits = λ k m w h. record { nodes = w.nodes; conditions = w.conditions; items = w.items; params = w.params; entries = omega arith };
}
