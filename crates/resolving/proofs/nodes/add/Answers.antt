use Rattle.std.specs.Prelude.{is_ok}
use Rattle.records.specs.Laying.{columns_of}
use Rattle.records.specs.Kept.{node_laws}
use Rattle.records.proofs.Lawful.{taken}
use Rattle.resolving.proofs.nodes.add.Goals as goal

pub returns-clause-held : goal.returns-clause-held
returns-clause-held c =
    let p = columns_of c.args.tables.now in
    taken node_laws p _ c.args.node (is_ok c.push.result) c.push.ensures.value c.requires c.push.ensures.held
