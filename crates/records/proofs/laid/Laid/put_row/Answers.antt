use Rattle.std.proofs.Common.{refl}
use Rattle.std.proofs.lemmas.List.{length-set}
use Rattle.records.specs.declared.record.Record.{Record}
use Rattle.records.proofs.Putting.{written, unwritten, unchanged, columns-kept}
use Rattle.records.proofs.laid.Laid.put_row.Goals as goal

pub returns : goal.returns
returns c =
    let t = c.args.self.now in let rs = t.records.now in let at = c.args.at in let d = c.index-self-at.result in
    record {
      same = record { columns = columns-kept rs at _ d c.requires t.counts.nodes t.counts.conditions t.counts.items t.counts.params t.counts.entries t.records.ghost_name (record { nodes = refl; conditions = refl; items = refl; params = refl; entries = refl }); length = length-set rs at _; owed = refl };
      here = written rs at _ d c.requires (λ (r : Record). r.row);
      rows = λ j ne. unwritten rs at _ d c.requires (λ (r : Record). r.row) j ne;
      headers = λ j. unchanged rs at _ d c.requires (λ (r : Record). r.owed) refl j;
    }
