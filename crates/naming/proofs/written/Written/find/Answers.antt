use Rattle.std.proofs.Common.{rules, ◌∙◌}
use Rattle.std.proofs.lemmas.Iterator.{YieldsList-from_slice}
use Rattle.std.proofs.lemmas.Iterator.Search.{position_from_yields_List}
use Rattle.letters.specs.Tokens.{same_name}
use Rattle.grammar.specs.Trees.{look_of}
use Rattle.naming.specs.Sources.{source_of}
use Rattle.naming.proofs.Slots.{slot_position}
use Rattle.naming.proofs.written.Written.find.Goals as goal

pub returns : goal.returns
returns c =
    let w = c.args.self in let l = look_of (source_of w) in let t = c.args.token in
    position_from_yields_List (λ n. same_name w.text.now (l n) t) c.position.new.self _ c.position.result c.position.ensures.ran (YieldsList-from_slice c.args.numbers.now (cc)) (λ x b q k. search rules) ∙ slot_position w.text.now l t c.args.numbers.now
