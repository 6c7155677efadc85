use Rattle.std.proofs.Common.{is_some, unwrap_or, ◌∙◌, inl, arith}
use Rattle.letters.specs.declared.kind.Kind.TheVariants.{Comma}
use Rattle.grammar.specs.Parsers.{is_a}
use Rattle.grammar.specs.Stretches.{param_at}
use Rattle.grammar.specs.Trees.{look_of}
use Rattle.naming.specs.Sources.{source_of}
use Rattle.naming.proofs.Begins.{length-left, drained}
use Rattle.naming.proofs.head.Params.number.Goals as goal

pub count-requires-clause-fits : goal.count-requires-clause-fits
count-requires-clause-fits c =
    let s = c.args.self in
    let l = look_of (source_of s.sheet) in
    let n = length-left l (is_a Comma) (λ t i. param_at l i) (param_at l (unwrap_or s.next 0)) s.rest (is_some s.next) in
    inl (omega (arith, s.within))

pub returns : goal.returns
returns c = let d = c.count.ensures.ran in d.2 ∙ drained d.0 c.args.self d.1.1.0 d.1.0 d.1.1.1 d.1.1.2
