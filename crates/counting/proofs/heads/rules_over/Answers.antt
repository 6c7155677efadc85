use Rattle.std.proofs.Common.{rules, length, Some, sym, ap, ◌∙◌, arith}
use Rattle.std.proofs.lemmas.Iterator.{YieldsList-from_range}
use Rattle.std.proofs.lemmas.Iterator.Consumers.{YieldsList-from_filter_map, nth_from_yields_List}
use Rattle.std.specs.Option.{option_map}
use Rattle.letters.specs.declared.token.Token.{Token}
use Rattle.naming.specs.declared.taken.Ruled.{Ruled}
use Rattle.naming.specs.Calls.{ruled_of}
use Rattle.naming.specs.Sources.{node_in}
use Rattle.counting.proofs.Rules.{keyword_place, rules_found}
use Rattle.counting.proofs.heads.rules_over.Goals as goal

pub returns-in_err-rule : goal.returns-in_err-rule
returns-in_err-rule c =
    let w = c.args.sheet in let n = length w.nodes.now in
    let e = nth_from_yields_List {v = λ (k : Ruled). k} c.nth.result _ 32 c.nth.ensures.ran (YieldsList-from_filter_map _ (λ at. ruled_of (node_in n w.nodes.now at)) (YieldsList-from_range 0 n n c.filter_map.ensures.source (omega arith)) c.filter_map.ensures.closure (λ x r q k. search rules)) in
    c.from_residual.ensures ∙ ap (option_map (keyword_place w)) (sym c.in_err-rule.was) ∙ rules_found w c.nth.result e

pub returns : goal.returns
returns c =
    let w = c.args.sheet in let n = length w.nodes.now in
    let e = nth_from_yields_List {v = λ (k : Ruled). k} c.nth.result _ 32 c.nth.ensures.ran (YieldsList-from_filter_map _ (λ at. ruled_of (node_in n w.nodes.now at)) (YieldsList-from_range 0 n n c.filter_map.ensures.source (omega arith)) c.filter_map.ensures.closure (λ x r q k. search rules)) in
    ap (λ (t : Token). Some t.place) c.token.ensures ∙ ap (option_map (keyword_place w)) (sym c.in_ok-rule.was) ∙ rules_found w c.nth.result e
