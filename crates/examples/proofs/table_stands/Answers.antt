use Rattle.examples.proofs.Computed.{table}
use Rattle.examples.proofs.table_stands.Goals as goal

pub returns : goal.returns
returns c = table
