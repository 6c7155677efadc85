use Rattle.std.specs.Prelude.{is_ok}
use Rattle.std.proofs.Common.{◌≡◌, List, ◌∷◌, map, length, sym, refl, ap, ◌∙◌, subst, arith}
use Rattle.std.proofs.lemmas.List.{length_push}
use Rattle.grammar.specs.Raw as Raw
use Rattle.grammar.specs.Stretches.{params_at}
use Rattle.grammar.specs.Trees.{look_of}
use Rattle.records.specs.Laying.{columns_of}
use Rattle.naming.specs.declared.head.Params.{Params}
use Rattle.naming.specs.declared.written.Written.{Written}
use Rattle.naming.specs.Sources.{source_of}
use Rattle.naming.specs.Stretching.{left, written}
use Rattle.records.specs.Tables as lists
use Rattle.naming.specs.Resolving.{param_of}
use Rattle.resolving.proofs.Adding.{Adding, begun, turn, whole}
use Rattle.records.specs.Columns.{Columns}
use Rattle.records.specs.Kept.{param_laws}
use Rattle.records.proofs.Lawful.{taken}
use Rattle.resolving.proofs.Alone.{param_alone, params_then, params_none}
use Rattle.resolving.proofs.heads.params_at.Goals as goal

pub loop-param-init : goal.loop-param-init
loop-param-init c =
    let w = c.args.sheet in let ps = params_at (length w.tokens.now) (look_of (source_of w)) c.args.at in
    let xs = (columns_of c.args.tables.now).params.entries in
    let e = c.into_iter-param-iterator.ensures.into_iter_gives in
    let l : left c.into_iter-param-iterator.result ≡ ps = ap left e ∙ c.params-param-items.ensures.params in record {
      adding = subst (λ (qs : List Raw.Param). Adding lists.param_of (map param_of ps) xs xs (map param_of qs)) (sym l) (begun lists.param_of (map param_of ps) xs);
      room = omega (arith, c.requires, ap length l);
      others = params_none;
      owed = refl;
      sheet = ap (λ (s : Params). s.sheet) e ∙ c.params-param-items.ensures.sheet;
    }

pub loop-param-preserved : goal.loop-param-preserved
loop-param-preserved c =
    let w = c.args.sheet in let i = c.loop-param.invariant in let q = c.push in let ps = left c.next.new.self in
    let e : left c.loop-param.param-iterator ≡ written (look_of (source_of w)) c.in-Some.param ∷ ps = c.in-Some.ensures.steps.0 ∙ ap (λ (v : Written). written (look_of (source_of v)) c.in-Some.param ∷ ps) i.sheet in
    let n = ap length e in
    let g = taken param_laws (columns_of c.loop-param.tables) (columns_of q.new.self) c.sort_of.result (is_ok q.result) q.ensures.value (omega (arith, i.room)) q.ensures.held in
    let p = ap (λ (c : Columns). c.params.entries) g in
    let k = ap length p ∙ length_push (columns_of c.loop-param.tables).params.entries c.sort_of.result in record {
      adding = turn lists.param_of _ _ (columns_of c.args.tables.now).params.entries (columns_of c.loop-param.tables).params.entries _ c.sort_of.result (param_of (written (look_of (source_of w)) c.in-Some.param)) _ i.adding (ap (map param_of) e) c.sort_of.ensures p;
      room = omega (arith, i.room, ap (λ (c : Columns). c.params.room) g);
      others = params_then i.others (param_alone (columns_of c.loop-param.tables) (columns_of q.new.self) c.sort_of.result g);
      owed = q.ensures.owed ∙ i.owed;
      sheet = c.in-Some.ensures.steps.1 ∙ i.sheet;
    }

pub returns : goal.returns
returns c =
    let i = c.loop-param.invariant in record {
      added = whole lists.param_of _ _ _ _ i.adding (ap (map param_of) c.in-None.ensures.steps.0.0);
      stretch = (c.count-from.ensures, c.count.ensures);
      others = i.others;
      owed = i.owed;
    }
