use Rattle.std.proofs.Common.{rules, ◌≡◌, ℕ, List, ◌∷◌, length, ap, ◌∙◌, filter_map}
use Rattle.std.proofs.lemmas.Iterator.Splits.{YieldsList-from_shown_while}
use Rattle.std.proofs.lemmas.Iterator.Consumers.{YieldsList-from_filter_map, nth_from_yields_List}
use Rattle.std.specs.Iterator.Adapters.{filter_map_source}
use Rattle.std.specs.List.{slice_get}
use Rattle.grammar.specs.Raw as Raw
use Rattle.grammar.specs.Trees.{look_of}
use Rattle.naming.specs.declared.head.Params.{Params}
use Rattle.naming.specs.declared.written.Written.{Written}
use Rattle.naming.specs.Sources.{source_of}
use Rattle.naming.specs.Stretching.{left, written, Gives}
use Rattle.counting.specs.Counts.{place_if}
use Rattle.counting.proofs.Params.{places_found, kept}
use Rattle.counting.proofs.heads.nth_param.Goals as goal

pub returns : goal.returns
returns c =
    let w = c.args.sheet in let l = look_of (source_of w) in let from = c.filter_map.ensures.source in
    let e = nth_from_yields_List {v = λ (p : ℕ). p} c.nth.result c.nth.new.self c.args.skip c.nth.ensures.ran (YieldsList-from_filter_map _ (place_if c.args.list)
    (YieldsList-from_shown_while Gives (written l) left (λ s. s.sheet ≡ w) (λ s t p d. ap length d.0.0) (λ s x t p d. (d.1 ∙ p, d.0 ∙ ap (λ (v : Written). written (look_of (source_of v)) x ∷ left t) p)) (filter_map_source c.filter_map.result) (ap (λ (s : Params). s.sheet) from ∙ c.params.ensures.sheet))
    c.filter_map.ensures.closure (λ x r q k. search rules)) in
    kept c.nth.result ∙ e ∙ ap (λ (ps : List Raw.Param). slice_get (filter_map (place_if c.args.list) ps) c.args.skip) (ap left from ∙ c.params.ensures.params) ∙ ap (λ ps. slice_get ps c.args.skip) (places_found c.args.list _)
