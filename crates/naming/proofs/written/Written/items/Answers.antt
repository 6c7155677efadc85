use Rattle.std.proofs.Common.{length, sym}
use Rattle.grammar.specs.Trees.{look_of}
use Rattle.naming.specs.Sources.{source_of}
use Rattle.naming.specs.Stretching.{begun, ended}
use Rattle.naming.proofs.SideLists.{side-list, side-end}
use Rattle.naming.proofs.written.Written.items.Goals as goal

pub returns-clause-items : goal.returns-clause-items
unfolding begun
returns-clause-items c = let w = c.args.self in sym (side-list (look_of (source_of w)) (length w.tokens.now) c.args.at)

pub returns-clause-end : goal.returns-clause-end
unfolding ended
returns-clause-end c = let w = c.args.self in sym (side-end (look_of (source_of w)) (length w.tokens.now) c.args.at)
