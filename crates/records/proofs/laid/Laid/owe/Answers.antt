use Rattle.std.proofs.Common.{arith}
use Rattle.records.proofs.Putting.{put_columns, put_owes}
use Rattle.records.proofs.laid.Laid.owe.Goals as goal

pub returns-clause-put : goal.returns-clause-put
returns-clause-put c =
    let t = c.args.self.now in let u = c.put_rows.new.self in let v = c.put_row.new.self in let w = c.put_header.new.self in
    let few = c.if-facts-gt-MOST_FACTS.false in record {
      columns = put_columns t u v w c.args.duty c.args.place c.args.facts.now c.args.goal few c.put_rows.ensures c.put_row.ensures c.put_header.ensures;
      count = omega arith;
      owes = put_owes t u v w c.args.duty c.args.place c.args.facts.now c.args.goal few c.put_rows.ensures c.put_row.ensures c.put_header.ensures;
    }
